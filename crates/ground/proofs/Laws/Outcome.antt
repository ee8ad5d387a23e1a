-- The steps of a call that came to an answer: each test before it was passed, and each step before it gave something. Assumes nothing.
use mathlib.Core.Path.{◌≡◌, refl, sym, ◌∙◌, ap}
use mathlib.Core.Bool.{Bool, true, false}
use Prim.Native.Nat.{ℕ}
use native.Mathlib.Omega.{arith}
use Rattle.ground.specs.Outcome.{Outcome, given, refused, unless, ◌and_then◌, refusal_number, refusal_place}

-- a refusal is no answer
pub not_both : {A : Type 0} {number place : ℕ} {a : A} → refused number place ≡ given a → ⊥
not_both e = let z : ◌≡◌ {A = ℕ} 0 1 = cc in omega arith

-- an outcome that shows a refusal is that refusal
pub refused_is : {A : Type 0} (o : Outcome A) → (refusal_number o ≡ 0 → ⊥) → o ≡ refused (refusal_number o) (refusal_place o)
refused_is (given a) n = absurd (n refl)
refused_is (refused number place) n = refl

-- past a test: it failed, and what follows is given
pub past : {A : Type 0} (t : Bool) (number : ℕ) (o : Outcome A) (a : A) → unless t number o ≡ given a → (t ≡ false) × (o ≡ given a)
past true number o a e = absurd (not_both e)
past false number o a e = (refl, e)

-- past a step: it gave a value, from which the rest gave b
pub record Step {A B : Type 0} (o : Outcome A) (f : A → Outcome B) (b : B) : Type 0 where
  pub value : A
  pub gave : o ≡ given value
  pub then : f value ≡ given b

-- what was given after a step
pub step : {A B : Type 0} (o : Outcome A) (f : A → Outcome B) (b : B) → (o and_then f) ≡ given b → Step o f b
step (given a) f b e = record { value = a; gave = refl; then = e }
step (refused number place) f b e = absurd (not_both e)

-- a step is followed by one that changes no value that it gives
pub unchanged : {A : Type 0} (o : Outcome A) {f : A → Outcome A} → ((a : A) → o ≡ given a → f a ≡ given a) → (o and_then f) ≡ o
unchanged (given a) same = same a refl
unchanged (refused number place) same = refl

-- a step is followed by what is the same for each value that it gives
pub same_steps : {A B : Type 0} (o : Outcome A) {f g : A → Outcome B} → ((a : A) → o ≡ given a → f a ≡ g a) → (o and_then f) ≡ (o and_then g)
same_steps (given a) same = same a refl
same_steps (refused number place) same = refl

-- past a test what follows is the same
pub same_past : {A : Type 0} (t : Bool) (number : ℕ) {o q : Outcome A} → (t ≡ false → o ≡ q) → unless t number o ≡ unless t number q
same_past true number same = refl
same_past false number same = same refl

-- steps may be taken together
pub assoc : {A B C : Type 0} (o : Outcome A) (f : A → Outcome B) (g : B → Outcome C) → (o and_then f and_then g) ≡ (o and_then λ a. f a and_then g)
assoc (given a) f g = refl
assoc (refused number place) f g = refl

-- a match found this case of an answer, so what the answer means is what the case means
pub told : {R O : Type 0} (means : R → O) {r v : R} {o : O} → means r ≡ o → r ≡ v → o ≡ means v
told means e i = sym e ∙ ap means i
