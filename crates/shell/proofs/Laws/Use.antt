-- What `on_use` promises is what the session says of a `use`: its answer, and what is held after it. A refused `use` changes nothing at all, and no
-- `use` changes the sites. From the definition of `on_use`. Assumes nothing.
use Rattle.std.specs.Prelude.{Some, Result, is_ok}
use mathlib.Core.Path.{◌≡◌, refl}
use mathlib.Core.Bool.{Bool, true, false, cond}
use mathlib.Core.List.{List}
use Prim.Native.Nat.{ℕ}
use lib.Dec.{eqb}
use borrow.Author.Tests.{ne_eqb}
use Rattle.shell.specs.Session.{State, in_use, Held, Reply, only, refusal_of, bytes_of, on_use}
use Rattle.shell.specs.Inside.{Holds, Uses, used_says}
use Rattle.shell.specs.declared.answer.Answer.TheVariants as answer
use Rattle.shell.specs.declared.command.Shell.{Shell}
use Rattle.ground.specs.declared.refusal.Refusal.{Refusal}
use Rattle.shell.specs.declared.command.FileName.{FileName}
use Rattle.shell.specs.declared.answer.Answer.{Answer}

-- the reply to a `use`, by whether its file passes
abbrev reply : State → (base zone : ℕ) → Held → Bool → Reply
reply s base zone held passed =
    cond passed
    (record { answer = answer.Used base zone; state = record { file = in_use (bytes_of held) base zone; sites = s.sites } })
    (only s (answer.Refused (refusal_of held base zone)))

-- what `on_use` answers is the session's answer, and what the session then remembers is held, beside the bytes of the new file where it passed
pub used_holds : {shell shell' : Shell} {file : List ℕ} {s : State} {held : Held} {name : FileName} {r : Result Answer Refusal}
    → Uses shell held name shell' r → Holds shell file s
    → (used_says r ≡ (on_use s name.base name.zone held).answer) × Holds shell' (cond (is_ok r) (bytes_of held) file) (on_use s name.base name.zone held).state
unfolding on_use
used_holds {shell} {shell'} {file} {s} {held} {name} {r} u h = go (eqb (refusal_of held name.base name.zone) 0) u.passed u.answer u.shell
  where
    go : (t : Bool) → is_ok r ≡ t → used_says r ≡ cond t (answer.Used name.base name.zone) (answer.Refused (refusal_of held name.base name.zone))
        → shell' ≡ cond t (record { sites = shell.sites; file = Some name }) shell
        → (used_says r ≡ (reply s name.base name.zone held t).answer)
        × Holds shell' (cond (is_ok r) (bytes_of held) file) (reply s name.base name.zone held t).state
    go true p a e = (
      a,
      rw (p, e) (record { count = h.count; most = h.most; long = h.long; named = h.named; entries = h.entries; file = refl }),
    )
    go false p a e = (a, rw (p, e) h)

-- Of any state, and whatever is found under the name of a base and a zone:
module _ (s : State) (base zone : ℕ) (held : Held) where
  -- a refused `use` changes nothing at all
  pub refused_keeps : {n : ℕ} → refusal_of held base zone ≡ n → (n ≡ 0 → ⊥) → (on_use s base zone held).state ≡ s
  unfolding on_use
  refused_keeps e some = rw (e, ne_eqb _ 0 some)

  -- sites stay over any `use`
  pub sites_stay : (on_use s base zone held).state.sites ≡ s.sites
  unfolding on_use
  sites_stay = go (eqb (refusal_of held base zone) 0)
    where
      go : (t : Bool) → (reply s base zone held t).state.sites ≡ s.sites
      go true = refl
      go false = refl
