-- `at` of the weights meets its contract: each weight is a product of two numbers of at most 500. Assumes nothing.
use mathlib.Core.Path.{refl}
use native.Mathlib.Omega.{arith}
use Rattle.ground.specs.Place.{weights_of}
use Rattle.ground.proofs.Laws.Place.{weight_fits}
use Rattle.ground.proofs.place.PerCorner+u32.at.Goals as goal

pub overflow_mul-result : goal.overflow_mul-result
overflow_mul-result c = weight_fits _ _ (omega arith) (omega arith)

pub overflow_mul-result-2 : goal.overflow_mul-result-2
overflow_mul-result-2 c = weight_fits _ _ (omega arith) (omega arith)

pub overflow_mul-result-3 : goal.overflow_mul-result-3
overflow_mul-result-3 c = weight_fits _ _ (omega arith) (omega arith)

pub overflow_mul-result-4 : goal.overflow_mul-result-4
overflow_mul-result-4 c = weight_fits _ _ (omega arith) (omega arith)

pub returns : goal.returns
unfolding weights_of
returns c = refl
