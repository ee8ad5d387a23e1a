-- Two names are found the same exactly if they are. Assumes nothing.
use mathlib.Core.Path.{◌≡◌, refl}
use mathlib.Core.Logic.{◌↔◌}
use mathlib.Core.Bool.{true, and-eq-true_iff, false≢true}
use mathlib.Core.List.{List, [], ◌∷◌}
use Prim.Native.Nat.{ℕ}
use lib.Dec.{eqb}
use borrow.Author.Tests.{eqb-true, eq-eqb}
use Rattle.shell.specs.Session.{same_name}

-- names that are found the same are the same
is_same : (v w : List ℕ) → same_name v w ≡ true → v ≡ w
unfolding same_name
is_same [] [] e = refl
is_same [] (c ∷ w) e = absurd (false≢true e)
is_same (b ∷ v) [] e = absurd (false≢true e)
is_same (b ∷ v) (c ∷ w) e =
    let t = (and-eq-true_iff (eqb b c) (same_name v w)).0 e in
    cc (eqb-true b c t.0, is_same v w t.1)

-- a name is found the same as itself
same_as_itself : (w : List ℕ) → same_name w w ≡ true
unfolding same_name
same_as_itself [] = refl
same_as_itself (b ∷ w) = simp (eq-eqb b b refl, same_as_itself w)

-- two names are found the same exactly if they are
pub same_name_lem : (v w : List ℕ) → (same_name v w ≡ true) ↔ (v ≡ w)
same_name_lem v w = (is_same v w, λ e. rw e (same_as_itself w))
