-- Two answers in Rattle that come to the same are the same, so a promise on what an answer comes to leaves one answer. Assumes nothing.
use mathlib.Core.Path.{◌≡◌, refl, sym, ◌∙◌, ap}
use Prim.Native.Nat.{ℕ}
use Rattle.std.specs.Prelude.{Result, Ok, Err}
use Rattle.ground.specs.Outcome.{refusal_number}
use Rattle.ground.specs.Refusal.{number, numbered, outcome_of}
use Rattle.ground.specs.declared.refusal.Refusal.{Refusal}
use Rattle.ground.specs.declared.refusal.Refusal.TheVariants.{NotWhole, NotNamed, Damaged, OffGround, NotCovered, NoHeight, NoPath, AboveLimit, NoPair, UnfitLists}
use Rattle.ground.proofs.Laws.Outcome.{not_both}

-- a refusal is told by its number
pub numbered_number : (r : Refusal) → numbered (number r) ≡ r
unfolding numbered
numbered_number NotWhole = refl
numbered_number NotNamed = refl
numbered_number Damaged = refl
numbered_number OffGround = refl
numbered_number NotCovered = refl
numbered_number NoHeight = refl
numbered_number NoPath = refl
numbered_number AboveLimit = refl
numbered_number NoPair = refl
numbered_number UnfitLists = refl

-- no two refusals have one number
pub number_once : (r s : Refusal) → number r ≡ number s → r ≡ s
number_once r s e = sym (numbered_number r) ∙ ap numbered e ∙ numbered_number s

-- two answers that come to the same are the same
pub answer_once : {A : Type 0} (r s : Result A Refusal) → outcome_of r ≡ outcome_of s → r ≡ s
answer_once (Ok a) (Ok b) e = cc
answer_once (Ok a) (Err s) e = absurd (not_both (sym e))
answer_once (Err r) (Ok b) e = absurd (not_both e)
answer_once (Err r) (Err s) e = ap Err (number_once r s (ap refusal_number e))
