-- Steps that refuse in the order of a list of lines: a test is one line, steps one after the other have the lines of both, and the answer has the refusal
-- of the first line whose condition holds. From the definitions of outcomes and of lines alone. Assumes nothing.
use mathlib.Core.Path.{◌≡◌, refl, sym, ◌∙◌, ap, subst}
use mathlib.Core.Logic.{◌⊎◌, inl, inr, ◌↔◌}
use mathlib.Core.Bool.{Bool, true, false}
use mathlib.Core.List.{List, [], ◌∷◌, ◌++◌}
use Prim.Native.Nat.{ℕ, ◌≤◌}
use native.Mathlib.Omega.{arith}
use Rattle.ground.specs.Outcome.{Outcome, given, refused, unless, ◌and_then◌, refusal_number, refusal_place}
use Rattle.ground.proofs.Laws.Outcome.{not_both}
use Rattle.profile.specs.Profile.{at_sample}
use Rattle.janlishuk.specs.Order.{Line, FirstOf, SomeOf}

-- the outcome is the refusal of the first line whose condition holds, or, where none holds, it is given; no line has the number 0
abbrev Refuses : {A : Type 0} → List Line → Outcome A → Type 0
Refuses {A} [] o = (a : A) × (o ≡ given a)
Refuses (l ∷ ls) o = (l.condition × ((o ≡ refused l.number l.place) × (1 ≤ l.number))) ⊎ ((l.condition → ⊥) × Refuses ls o)

-- the same, as a record, so that the lines are found by themselves
pub record InOrder {A : Type 0} (ls : List Line) (o : Outcome A) : Type 0 where
  pub refuses : Refuses ls o

-- what is given is given past no line
pub gave : {A : Type 0} (a : A) → InOrder [] (given a)
gave a = record { refuses = (a, refl) }

-- a test is a line if it holds just where the line's condition does
pub tested : {A C : Type 0} {ls : List Line} {o : Outcome A} (t : Bool) (number : ℕ) → 1 ≤ number → (t ≡ true → C) → (t ≡ false → C → ⊥)
    → (t ≡ false → InOrder ls o) → InOrder (record { number = number; place = 0; condition = C } ∷ ls) (unless t number o)
tested true number some holds fails rest = record { refuses = inl (holds refl, (refl, some)) }
tested false number some holds fails rest = record { refuses = inr (fails refl, (rest refl).refuses) }

-- one step after the other has the lines of both
pub after : {A B : Type 0} {ls ms : List Line} {o : Outcome A} (f : A → Outcome B) → InOrder ls o → ((a : A) → o ≡ given a → InOrder ms (f a))
    → InOrder (ls ++ ms) (o and_then f)
after {A} {B} {ls} {ms} {o} f i rest = record { refuses = go ls i.refuses }
  where
    go : (ks : List Line) → Refuses ks o → Refuses (ks ++ ms) (o and_then f)
    go [] g = subst (λ u. Refuses ms (u and_then f)) (sym g.1) (rest g.0 g.1).refuses
    go (l ∷ ks) (inl h) = inl (h.0, (ap (λ u. u and_then f) h.1.0, h.1.1))
    go (l ∷ ks) (inr h) = inr (h.0, go ks h.1)

-- a step that changes only what is given has no line
pub giving : {A B : Type 0} {ls : List Line} {o : Outcome A} (h : A → B) → InOrder ls o → InOrder ls (o and_then λ a. given (h a))
giving {A} {B} {ls} {o} h i = record { refuses = go ls i.refuses }
  where
    go : (ks : List Line) → Refuses ks o → Refuses ks (o and_then λ a. given (h a))
    go [] g = (h g.0, ap (λ u. u and_then λ a. given (h a)) g.1)
    go (l ∷ ks) (inl g) = inl (g.0, (ap (λ u. u and_then λ a. given (h a)) g.1.0, g.1.1))
    go (l ∷ ks) (inr g) = inr (g.0, go ks g.1)

-- the same lines, met at sample i
abbrev pub at_place : ℕ → List Line → List Line
at_place i [] = []
at_place i (l ∷ ls) = record { number = l.number; place = i; condition = l.condition } ∷ at_place i ls

-- an outcome met at sample i refuses in the order of the lines met there
pub met_at : {A : Type 0} {ls : List Line} {o : Outcome A} (i : ℕ) → InOrder ls o → InOrder (at_place i ls) (at_sample i o)
met_at {A} {ls} {o} i t = record { refuses = go ls t.refuses }
  where
    go : (ks : List Line) → Refuses ks o → Refuses (at_place i ks) (at_sample i o)
    go [] g = (g.0, ap (at_sample i) g.1)
    go (l ∷ ks) (inl g) = inl (g.0, (ap (at_sample i) g.1.0, g.1.1))
    go (l ∷ ks) (inr g) = inr (g.0, go ks g.1)

-- an answer has the number and the place of the first line whose condition holds
pub first_of : {A : Type 0} {ls : List Line} {o : Outcome A} → InOrder ls o → FirstOf ls (refusal_number o) (refusal_place o)
first_of {A} {ls} {o} i = go ls i.refuses
  where
    go : (ks : List Line) → Refuses ks o → FirstOf ks (refusal_number o) (refusal_place o)
    go [] g = (ap refusal_number g.1, ap refusal_place g.1)
    go (l ∷ ks) (inl g) = inl (g.0, (ap refusal_number g.1.0, ap refusal_place g.1.0))
    go (l ∷ ks) (inr g) = inr (g.0, go ks g.1)

-- 0 is the number of no refusal
pub was_given : {A : Type 0} {ls : List Line} {o : Outcome A} → InOrder ls o → refusal_number o ≡ 0 → (a : A) × (o ≡ given a)
was_given {A} {ls} {o} i e = go ls i.refuses
  where
    go : (ks : List Line) → Refuses ks o → (a : A) × (o ≡ given a)
    go [] g = g
    go (l ∷ ks) (inl g) = absurd (omega (arith, ap refusal_number g.1.0, g.1.1, e))
    go (l ∷ ks) (inr g) = go ks g.1

-- nothing is given exactly if some line's condition holds
pub some_of : {A : Type 0} {ls : List Line} {o : Outcome A} → InOrder ls o → ((a : A) → o ≡ given a → ⊥) ↔ SomeOf ls
some_of {A} {ls} {o} i = ((λ none. holds ls i.refuses none), λ s a e. fails ls i.refuses s a e)
  where
    holds : (ks : List Line) → Refuses ks o → ((a : A) → o ≡ given a → ⊥) → SomeOf ks
    holds [] g none = none g.0 g.1
    holds (l ∷ ks) (inl g) none = inl g.0
    holds (l ∷ ks) (inr g) none = inr (holds ks g.1 none)

    fails : (ks : List Line) → Refuses ks o → SomeOf ks → (a : A) → o ≡ given a → ⊥
    fails [] g s a e = s
    fails (l ∷ ks) (inl g) s a e = not_both (sym g.1.0 ∙ e)
    fails (l ∷ ks) (inr g) (inl c) a e = g.0 c
    fails (l ∷ ks) (inr g) (inr s) a e = fails ks g.1 s a e

-- a first line whose condition is said in other words, and lines after it that are
pub in_words : {C D E R S : Type 0} → C ↔ D → (R → S) → (C × E) ⊎ ((C → ⊥) × R) → (D × E) ⊎ ((D → ⊥) × S)
in_words same rest (inl h) = inl (same.0 h.0, h.1)
in_words same rest (inr h) = inr ((λ d. h.0 (same.1 d)), rest h.1)

-- that something does not hold, in other words
pub unlike : {A B : Type 0} → A ↔ B → (A → ⊥) ↔ (B → ⊥)
unlike e = ((λ n c. n (e.1 c)), λ n c. n (e.0 c))
