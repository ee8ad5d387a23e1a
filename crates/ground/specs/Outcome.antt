-- What every call comes to, and how an answer shows it. Document 01, "The numbers we say no with"; numbers from 10 on are document 02's. Assumes nothing.
use Rattle.std.specs.Prelude.{ℕ, Bool, true, false}

-- an answer; or a refusal: its number, and the place
pub data Outcome (A : Type 0) : Type 0 where
  given : A → Outcome A
  refused : ℕ → ℕ → Outcome A

-- A line of the order of checks: the refusal with this number, at place 0, where the condition holds; else what follows.
abbrev pub unless : {A : Type 0} → Bool → ℕ → Outcome A → Outcome A
unless true number rest = refused number 0
unless false number rest = rest

-- What is given goes on to what follows; a refusal stays as it is.
infixl 10 ◌and_then◌
abbrev pub ◌and_then◌ : {A B : Type 0} → Outcome A → (A → Outcome B) → Outcome B
given a and_then f = f a
refused number place and_then f = refused number place

-- the number of the refusal, 0 where something is given
abbrev pub refusal_number : {A : Type 0} → Outcome A → ℕ
refusal_number (given a) = 0
refusal_number (refused number place) = number

-- the place of the refusal, 0 where something is given
abbrev pub refusal_place : {A : Type 0} → Outcome A → ℕ
refusal_place (given a) = 0
refusal_place (refused number place) = place

-- what is given, or, beside a refusal, the value that stands in its place
abbrev pub filled_by : {A : Type 0} → A → Outcome A → A
filled_by empty (given a) = a
filled_by empty (refused number place) = empty
