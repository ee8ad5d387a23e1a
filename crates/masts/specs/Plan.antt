-- Demand 3, sentence by sentence, of any test that says which pairs of masts are clear; and an executable form of it. Assumes nothing.
use Rattle.std.specs.Prelude.{ℕ, ◌+◌, ◌-◌, ◌≤◌, ◌≡◌, Bool, true, ◌&&◌, leb, ltb, Option, Some, None}
use Rattle.ground.specs.Outcome.{Outcome, given, refused, unless}
use Rattle.path.specs.First.{first_from}
use Rattle.masts.specs.declared.Masts.{Masts}

-- a clear pair of whole-metre masts within the limits
pub record Pair (clears : ℕ → ℕ → Bool) (la lb a b : ℕ) : Type 0 where
  pub first : a ≤ la
  pub second : b ≤ lb
  pub clear : clears a b ≡ true

-- the best pair of masts within the limits
pub record Best (clears : ℕ → ℕ → Bool) (la lb : ℕ) (m : Masts) : Type 0 where
  -- "The plan has its first mast within the first limit and its second within the second, and makes the path clear."
  pub pair : Pair clears la lb m.first m.second
  -- "No clear pair of whole-metre masts within the limits has a smaller sum,"
  pub least : (a b : ℕ) → Pair clears la lb a b → m.first + m.second ≤ a + b
  -- "nor the same sum with a lower first mast."
  pub lower : (a b : ℕ) → Pair clears la lb a b → a + b ≡ m.first + m.second → m.first ≤ a

-- no clear pair within the limits exists
abbrev pub NoPair : (ℕ → ℕ → Bool) → ℕ → ℕ → Type 0
NoPair clears la lb = (a b : ℕ) → Pair clears la lb a b → ⊥

-- demand 3: the best pair, or refusal 9 where no clear pair within the limits exists
abbrev pub Demand3 : (ℕ → ℕ → Bool) → ℕ → ℕ → Outcome Masts → Type 0
Demand3 clears la lb (given m) = Best clears la lb m
Demand3 clears la lb (refused number place) = ((number ≡ 9) × (place ≡ 0)) × NoPair clears la lb

-- what the search for a pair comes to: the pair that it found, or refusal 9
abbrev pub planned_means : Option Masts → Outcome Masts
planned_means (Some m) = given m
planned_means None = refused 9 0

-- The executable form of demand 3 is the first clear pair by its sum and then by its first mast. `first_mast` is the lowest first mast of a clear pair of
-- this sum, or sum + 1.
unfoldable pub first_mast : (ℕ → ℕ → Bool) → ℕ → ℕ → ℕ → ℕ
first_mast clears la lb sum = first_from (λ a. leb a la && leb (sum - a) lb && clears a (sum - a)) (sum + 1) 0

-- the least sum that a clear pair has, or one more than that of the limits
unfoldable pub least_sum : (ℕ → ℕ → Bool) → ℕ → ℕ → ℕ
least_sum clears la lb = first_from (λ sum. leb (first_mast clears la lb sum) sum) (la + lb + 1) 0

-- the pair of the least sum with its first mast, or refusal 9
unfoldable pub plan_of : (ℕ → ℕ → Bool) → ℕ → ℕ → Outcome Masts
plan_of clears la lb =
    let sum : ℕ = least_sum clears la lb in
    let a : ℕ = first_mast clears la lb sum in
    unless (ltb (la + lb) sum) 9 (given (record { first = a; second = sum - a }))
