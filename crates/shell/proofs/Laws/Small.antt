-- Every number that the shell says is below 1000, and `decimal` spells each such number. From a test that is computed for each of them, and from the
-- laws of what is said: a base is at most 80 and a zone at most 60, there are at most 32 sites, a path has at most 200 steps, a mast is at most
-- 100 m, a refusal at most 9, and a column at most 48. Assumes nothing.
use mathlib.Core.Path.{◌≡◌, refl}
use mathlib.Core.Logic.{⊎_elim}
use mathlib.Core.Bool.{Bool, true, false, cond, ◌&&◌, and-eq-true_iff}
use mathlib.Core.List.{List, [], ◌∷◌, ◌++◌}
use Prim.Native.Nat.{ℕ, ◌+◌, ◌%◌, ◌≤◌, ◌<◌}
use native.Mathlib.Omega.{arith}
use lib.Dec.{leb, ltb, eqb}
use lib.ListN.{length, length-append}
use borrow.Author.Tests.{leb-true, ltb-true, eqb-true}
use Rattle.ground.specs.Every.{every}
use Rattle.ground.specs.Outcome.{Outcome, given, refused, ◌and_then◌, refusal_number}
use Rattle.ground.specs.Boundary.{is_base, is_zone, named}
use Rattle.ground.specs.declared.point.Point.{Point}
use Rattle.ground.proofs.Laws.Every.{holds_at}
use Rattle.terrain.specs.Check.{checked}
use Rattle.path.specs.Path.{ask_masts}
use Rattle.profile.specs.Profile.{Link, linked}
use Rattle.profile.proofs.Laws.Link.{link_is}
use Rattle.masts.specs.Plan.{Demand3, plan_of}
use Rattle.masts.specs.declared.Masts.{Masts}
use Rattle.masts.proofs.Laws.Plan.{plan_of_meets}
use Rattle.link.specs.Clear.{clear, sight}
use Rattle.plan.specs.Plan.{plan}
use Rattle.lines.specs.Spell.{«use», site, path, masts, all, is_number, value_after, value, Numeral}
use Rattle.lines.specs.Line.{Reading, legal, bad, reading}
use Rattle.lines.proofs.Laws.Line.{legal_read, read_legal, right, legal_or_bad, right_most}
use Rattle.shell.specs.Answer.{decimal}
use Rattle.shell.specs.Session.{Site, InUse, none, in_use, State, start, Held, unreadable, holds, Folder, Reply, most_bytes, refusal_of, on_use}
use Rattle.shell.specs.Session.{Found, found, missing, site_of, on_site, between, seen, on_path, planned, on_masts, answered}
use Rattle.shell.specs.Pieces.{after}
use Rattle.shell.specs.declared.answer.Answer.{Answer}
use Rattle.shell.specs.declared.answer.Answer.TheVariants as answer
use Rattle.shell.proofs.Laws.Refused.{Numbered, checked_numbered, linked_numbered}
use Rattle.shell.proofs.Laws.Use.{sites_stay}

-- a number is spelled, as a test
spelled : ℕ → Bool
spelled n = is_number (decimal n) && eqb (value (decimal n)) n

-- `decimal` spells every number below 1000
pub decimal_spells : (n : ℕ) → n < 1000 → Numeral n (decimal n)
unfolding every spelled decimal is_number all value_after
decimal_spells n h =
    let t = (and-eq-true_iff (is_number (decimal n)) _).0 (holds_at spelled 0 1000 refl n (omega arith) h) in
    record { well = t.0; says = eqb-true _ _ t.1 }

-- each number of an answer is below m
abbrev pub NumbersBelow : ℕ → Answer → Type 0
NumbersBelow m (answer.Used base zone) = (base < m) × (zone < m)
NumbersBelow m (answer.Held count) = count < m
NumbersBelow m (answer.Seen n clear) = n < m
NumbersBelow m (answer.Planned a b) = (a < m) × (b < m)
NumbersBelow m answer.Taken = Unit {0}
NumbersBelow m answer.Full = Unit {0}
NumbersBelow m answer.Unknown = Unit {0}
NumbersBelow m (answer.Refused number) = number < m
NumbersBelow m (answer.Bad column) = column < m

-- each number of an answer is small: it has at most three digits
abbrev Small : Answer → Type 0
Small = NumbersBelow 1000

-- what holds of both cases of a test holds
either : {A : Type 0} (P : A → Type 0) (t : Bool) {x y : A} → P x → P y → P (cond t x y)
either P true h i = h
either P false h i = i

-- the number of a refusal is at most 9
number_most : {A : Type 0} (o : Outcome A) → Numbered o → refusal_number o ≤ 9
number_most (given a) h = omega arith
number_most (refused number place) h = h.1

-- and so is that of a `use`
use_most : (held : Held) (base zone : ℕ) → refusal_of held base zone ≤ 9
use_most unreadable base zone = omega arith
use_most (holds bytes) base zone =
    either (λ n. n ≤ 9) (ltb most_bytes (length bytes)) (omega arith) (number_most (checked bytes base zone) (checked_numbered bytes base zone))

-- a base is at most 80, a zone at most 60
named_most : (base zone : ℕ) → named base zone ≡ true → (base ≤ 80) × (zone ≤ 60)
unfolding named
named_most base zone e =
    let t = (and-eq-true_iff (is_base base) (is_zone zone)).0 e in (
      leb-true base 80 ((and-eq-true_iff (leb base 80) (eqb (base % 4) 0)).0 t.0).0,
      leb-true zone 60 ((and-eq-true_iff (leb 1 zone) (leb zone 60)).0 t.1).1,
    )

-- `use` of a file that has a name
use_small : (s : State) (base zone : ℕ) (held : Held) → named base zone ≡ true → Small (on_use s base zone held).answer
unfolding on_use
use_small s base zone held e =
    let m = named_most base zone e in
    either (λ (r : Reply). Small r.answer) (eqb (refusal_of held base zone) 0) (omega arith, omega arith) (omega (arith, use_most held base zone))

-- `site`, where there are at most 32: there are at most 32 after it too
site_small : (s : State) (new : Site) → length s.sites ≤ 32 → Small (on_site s new).answer × (length (on_site s new).state.sites ≤ 32)
unfolding on_site
site_small s new h = go (site_of new.name s.sites) refl (ltb (length s.sites) 32) refl
  where
    go : (f : Found) → site_of new.name s.sites ≡ f → (t : Bool) → ltb (length s.sites) 32 ≡ t
        → Small (on_site s new).answer × (length (on_site s new).state.sites ≤ 32)
    go (found x) e t l = rw e (tt, h)
    go missing e true l =
        let more : length (s.sites ++ (new ∷ [])) ≤ 32 = simp length-append (omega (arith, ltb-true (length s.sites) 32 l)) in
        rw (e, l) (omega arith, more)
    go missing e false l = rw (e, l) (tt, h)

-- Of a file, a base and a zone, two points and two masts or mast limits:
module _ (file : List ℕ) (base zone : ℕ) (p q : Point) (a b : ℕ) where
  -- N is at most 200
  seen_small : Small (seen (sight file base zone p q a b))
  unfolding sight
  seen_small = go (linked file base zone (ask_masts p q a b)) refl (linked_numbered file base zone (ask_masts p q a b))
    where
      go : (o : Outcome Link) → linked file base zone (ask_masts p q a b) ≡ o → Numbered o
          → Small (seen (o and_then λ l. given (record { n = l.path.n; clear = clear l a b })))
      go (given l) e n = omega (arith, (link_is file base zone (ask_masts p q a b) l e).sound.path.most)
      go (refused number place) e n = omega arith

  -- each mast is within its limit, at most 100
  planned_small : Small (planned (plan file base zone p q a b))
  planned_small = go (linked file base zone (ask_masts p q a b)) refl (linked_numbered file base zone (ask_masts p q a b))
    where
      masts_small : (clears : ℕ → ℕ → Bool) (o : Outcome Masts) → a ≤ 100 → b ≤ 100 → Demand3 clears a b o → Small (planned o)
      masts_small clears (given m) ha hb d = (omega (arith, d.pair.first), omega (arith, d.pair.second))
      masts_small clears (refused number place) ha hb d = omega arith

      go : (o : Outcome Link) → linked file base zone (ask_masts p q a b) ≡ o → Numbered o → Small (planned (o and_then λ l. plan_of (clear l) a b))
      go (given l) e n =
          let asked = (link_is file base zone (ask_masts p q a b) l e).asked in
          masts_small (clear l) (plan_of (clear l) a b) asked.a asked.b (plan_of_meets (clear l) a b)
      go (refused number place) e n = omega arith

-- what is asked of two sites
between_small : (file : InUse) (ask : List ℕ → ℕ → ℕ → Point → Point → Answer) (first second : Found)
    → ((bytes : List ℕ) (base zone : ℕ) (p q : Point) → Small (ask bytes base zone p q)) → Small (between file ask first second)
between_small none ask (found v) (found w) h = omega arith
between_small (in_use bytes base zone) ask (found v) (found w) h = h bytes base zone _ _
between_small file ask (found v) missing h = tt
between_small file ask missing second h = tt

-- every number that the shell says is below 1000: for whatever folder, and every line in every state of at most 32 sites
pub small_enough : (folder : Folder) (s : State) (line : List ℕ) → length s.sites ≤ 32
    → NumbersBelow 1000 (answered folder s (reading line)).answer
unfolding on_path on_masts
small_enough folder s line h = go (reading line) refl
  where
    go : (q : Reading) → reading line ≡ q → Small (answered folder s q).answer
    go (legal («use» base zone)) e = use_small s base zone (folder base zone) (read_legal («use» base zone) line e).file
    go (legal (site name easting northing)) e = (site_small s _ h).0
    go (legal (path first second)) e =
        between_small s.file _ (site_of first s.sites) (site_of second s.sites) λ file base zone p q. seen_small file base zone p q 0 0
    go (legal (masts first second a b)) e =
        between_small s.file _ (site_of first s.sites) (site_of second s.sites) λ file base zone p q. planned_small file base zone p q a b
    go (bad column) e =
        ⊎_elim
        (λ l. let z : ◌≡◌ {A = ℕ} 0 1 = cc (legal_read l.command line l.spells) in absurd (omega arith))
        (λ i. let c : column ≡ right line + 1 = cc in omega (arith, right_most line))
        (legal_or_bad line)

-- after any line there are at most 32 sites, where there were no more before it,
line_within : (folder : Folder) (s : State) (q : Reading) → length s.sites ≤ 32 → length (answered folder s q).state.sites ≤ 32
line_within folder s (legal («use» base zone)) h = rw (sites_stay s base zone (folder base zone)) h
line_within folder s (legal (site name easting northing)) h = (site_small s _ h).1
line_within folder s (legal (path first second)) h = h
line_within folder s (legal (masts first second a b)) h = h
line_within folder s (bad column) h = h

-- and after any lines
lines_within : (folder : Folder) (s : State) (lines : List (List ℕ)) → length s.sites ≤ 32 → length (after folder s lines).sites ≤ 32
unfolding after
lines_within folder s [] h = h
lines_within folder s (line ∷ lines) h = lines_within folder (answered folder s (reading line)).state lines (line_within folder s (reading line) h)

-- so every number that is said in a session is below 1000, after whatever lines
pub session_small : (folder : Folder) (lines : List (List ℕ)) (line : List ℕ)
    → NumbersBelow 1000 (answered folder (after folder start lines) (reading line)).answer
session_small folder lines line = small_enough folder (after folder start lines) line (lines_within folder start lines (omega arith))
