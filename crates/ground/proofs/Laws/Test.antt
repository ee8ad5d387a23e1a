-- What a function learns of a test t that it asks another function for, where it leaves with a refusal if the answer r is no: past the
-- refusal the test holds, at the refusal it fails. And what it learns of two tests where it leaves if either
-- holds. And what one test of a range comes to. Assumes nothing.
use mathlib.Core.Path.{◌≡◌, refl, sym, ◌∙◌}
use mathlib.Core.Logic.{◌↔◌, ◌⊎◌, inl, inr, ⊎_elim}
use mathlib.Core.Bool.{Bool, true, false, not, ◌&&◌, ◌||◌, true≢false, false≢true, and-eq-true_iff}
use Prim.Native.Nat.{ℕ, ◌≤◌}
use lib.Dec.{leb}
use borrow.Author.Tests.{not-true, not-false, leb-true, le-leb}

-- past the refusal the test holds
pub passes : {r t : Bool} → r ≡ t → not r ≡ false → t ≡ true
passes e h = sym e ∙ not-false _ h

-- at the refusal the test fails
pub fails : {r t : Bool} → r ≡ t → not r ≡ true → t ≡ false
fails e h = sym e ∙ not-true _ h

-- two tests of which not even one holds
pub neither : (s t : Bool) → (s || t) ≡ false → (s ≡ false) × (t ≡ false)
neither true t e = absurd (true≢false e)
neither false t e = (refl, e)

-- one test or the other holds exactly if one fact or the other does
pub either : {C D : Type 0} (s t : Bool) → (s ≡ true) ↔ C → (t ≡ true) ↔ D → ((s || t) ≡ true) ↔ (C ⊎ D)
either true t c d = ((λ e. inl (c.0 refl)), λ x. refl)
either false t c d = ((λ e. inr (d.0 e)), ⊎_elim (λ x. absurd (false≢true (c.1 x))) d.1)

-- two tests that hold together are the same
pub same_test : (s t : Bool) → (s ≡ true) ↔ (t ≡ true) → s ≡ t
same_test true t is = sym (is.0 refl)
same_test false true is = is.1 refl
same_test false false is = refl

-- one test that holds exactly of the numbers from a to b is the two comparisons with them
pub in_range : (t : Bool) (a r b : ℕ) → (t ≡ true) ↔ ((a ≤ r) × (r ≤ b)) → t ≡ (leb a r && leb r b)
in_range t a r b is =
    same_test t (leb a r && leb r b) (
      (λ e. simp (le-leb _ _ (is.0 e).0, le-leb _ _ (is.0 e).1)),
      λ e. let h = (and-eq-true_iff (leb a r) (leb r b)).0 e in is.1 (leb-true _ _ h.0, leb-true _ _ h.1),
    )
