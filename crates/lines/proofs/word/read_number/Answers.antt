-- `read_number` meets its contract. Assumes nothing.
use Rattle.std.proofs.Common.{◌≡◌, refl, sym, cond, List, ◌∷◌, ℕ, ◌+◌, ◌-◌, ◌*◌, ◌<◌, get_or, drop, length, Ok, Err, arith}
use Rattle.std.proofs.lemmas.Result.{err_from_is_err_and}
use borrow.Author.Tests.{eq-eqb, ne_eqb}
use lib.Dec.{eqb, lit<}
use Rattle.lines.specs.Spell.{digit, value, value_after}
use Rattle.lines.specs.Line.{number}
use Rattle.lines.specs.Inside.{byte_from, number_from}
use Rattle.lines.proofs.Laws.Byte.{between}
use Rattle.lines.proofs.Laws.Place.{among, byte_is, byte_none, passes, fails, first_stops, halts, hands, moved}
use Rattle.lines.proofs.Laws.Loop.{figures, headed, headed_by, Gathers, Gathered, room_left, gathers_more, gathered_all, gathered_here}
use Rattle.lines.proofs.word.read_number.Goals.{In-Ok, Joined-first-eq0, then-first-eq0, else-first-eq0}
use Rattle.lines.proofs.word.read_number.Goals as goal

-- how many digits may follow a first byte
abbrev most : ℕ → ℕ
most b = cond (eqb b 48) 0 6

module _ (s : List ℕ) (from : ℕ) where
  -- no number begins with a byte that is no digit
  none : {k : ℕ} → Err k ≡ byte_from s from 48 57 → Err k ≡ number_from from (number (drop from s))
  unfolding number
  none e = let n = byte_none s from 48 57 e in rw n.1 (halts _ (first_stops _ (fails digit s from refl refl n.0)))

  -- a digit stands among the bytes
  inside : {d : ℕ} → Ok d ≡ byte_from s from 48 57 → from < length s
  inside e = among digit s from refl refl (byte_is s from 48 57 e).0

  -- a digit and what the loop comes to are one
  whole : {d more v at : ℕ} → Ok d ≡ byte_from s from 48 57 → more ≡ most (get_or s from 10) → Gathered digit value_after s d (from + 1) more v at
      → Ok (record { value = v; at = at }) ≡ number_from from (number (drop from s))
  unfolding number
  whole e q g =
      let f = byte_is s from 48 57 e in
      rw (g.value, f.1, ← headed_by figures (get_or s from 10), q)
      (hands _ (moved (rw (← q) (sym g.place)) (headed digit digit most (λ b w. value (b ∷ w)) (passes digit s from refl refl f.0))))

pub returns-in_err-first : goal.returns-in_err-first
returns-in_err-first c =
    let p = err_from_is_err_and c.from_residual.result c.from_residual.ensures.1 in
    rw (p.1, p.2) (none c.args.s.now c.args.from c.in_err-first.ensures)

-- so many may follow
count : (c : Joined-first-eq0) → c.if-first-eq0.more ≡ most (get_or c.args.s.now c.args.from 10)
count c =
    let f = byte_is c.args.s.now c.args.from 48 57 c.in_ok-first.ensures in
    let b = between 48 (get_or c.args.s.now c.args.from 10) 57 f.0 in
    elim c.if-first-eq0.branch [
      | then-first-eq0 w ↦ simp (eq-eqb (get_or c.args.s.now c.args.from 10) 48 (omega (arith, f.1, b.0, w.if-first-eq0.true))) w.more-is
      | else-first-eq0 w ↦ simp (ne_eqb (get_or c.args.s.now c.args.from 10) 48 (λ e. w.if-first-eq0.false (omega (arith, f.1)))) w.more-is
    ]

-- one more digit
more : (c : In-Ok) → (
    let end = c.args.from + 1 + c.if-first-eq0.more in
    Gathers digit 10 value_after c.args.s.now 7 c.in_ok-first.first (c.args.from + 1) c.if-first-eq0.more (10 * c.loop-at.value + c.in-Ok.next)
    (c.loop-at.at + 1) (end - (c.loop-at.at + 1))
    )
more c =
    let f = byte_is c.args.s.now c.loop-at.at 48 57 c.in-Ok.ensures in
    rw f.1 (gathers_more figures c.loop-at.invariant (omega arith) refl f.0)

pub loop-at-preserved : goal.loop-at-preserved
loop-at-preserved c = more c

pub overflow_mul-value : goal.overflow_mul-value
overflow_mul-value c = omega (arith, room_left figures (lit< tt) (more c))

pub overflow_add-value : goal.overflow_add-value
overflow_add-value c = omega (arith, room_left figures (lit< tt) (more c))

pub returns-in_default : goal.returns-in_default
returns-in_default c =
    whole c.args.s.now c.args.from c.in_ok-first.ensures (count (goal.at.returns-in_default c).Joined-first-eq0)
    (gathered_here figures c.loop-at.invariant refl (byte_none c.args.s.now c.loop-at.at 48 57 c.in_default.ensures).0)

pub returns : goal.returns
returns c =
    let there = inside c.args.s.now c.args.from c.in_ok-first.ensures in
    let end : c.min-end.result ≡ c.loop-at.at = omega arith in
    rw end (whole c.args.s.now c.args.from c.in_ok-first.ensures (count (goal.at.returns c).Joined-first-eq0) (gathered_all figures c.loop-at.invariant (omega arith)))
