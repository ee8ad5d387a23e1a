-- The refusals as the calls name them, and what an answer in Rattle comes to. Document 01, "The numbers we say no with"; 10 is document 02's.
-- Assumes nothing.
use Rattle.std.specs.Prelude.{ℕ, cond, nat_eq, Result, Ok, Err}
use Rattle.ground.specs.Outcome.{Outcome, given, refused}
use Rattle.ground.specs.declared.refusal.Refusal.{Refusal}
use Rattle.ground.specs.declared.refusal.Refusal.TheVariants.{NotWhole, NotNamed, Damaged, OffGround, NotCovered, NoHeight, NoPath, AboveLimit, NoPair, UnfitLists}

-- the number of a refusal
abbrev pub number : Refusal → ℕ
number NotWhole = 1
number NotNamed = 2
number Damaged = 3
number OffGround = 4
number NotCovered = 5
number NoHeight = 6
number NoPath = 7
number AboveLimit = 8
number NoPair = 9
number UnfitLists = 10

-- the refusal with this number, of those from 1 to 10
unfoldable pub numbered : ℕ → Refusal
numbered n =
    cond (nat_eq n 1) NotWhole
    (cond (nat_eq n 2) NotNamed
    (cond (nat_eq n 3) Damaged
    (cond (nat_eq n 4) OffGround
    (cond (nat_eq n 5) NotCovered
    (cond (nat_eq n 6) NoHeight
    (cond (nat_eq n 7) NoPath
    (cond (nat_eq n 8) AboveLimit
    (cond (nat_eq n 9) NoPair UnfitLists))))))))

-- what an answer comes to, where the place of a refusal is 0
abbrev pub outcome_of : {A : Type 0} → Result A Refusal → Outcome A
outcome_of (Ok a) = given a
outcome_of (Err r) = refused (number r) 0
