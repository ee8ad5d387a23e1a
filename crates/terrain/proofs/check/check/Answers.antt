-- `check` meets its contract: of a file that passes M is small. Assumes nothing.
use native.Mathlib.Omega.{arith}
use Rattle.ground.proofs.Laws.Outcome.{told}
use Rattle.ground.specs.Refusal.{outcome_of}
use Rattle.terrain.proofs.Laws.Checked.{past_most, gave_opens}
use Rattle.terrain.proofs.check.check.Goals as goal

pub overflow_add-result : goal.overflow_add-result
overflow_add-result c =
    let gave = told outcome_of c.check_file.ensures c.in_ok-terrain.was in
    omega (arith, past_most (gave_opens (record { base = _; zone = _; gave = gave })))
