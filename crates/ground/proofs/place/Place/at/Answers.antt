-- `Place::at` meets its contract: whole rectangles take no more units than there are. Assumes nothing.
use mathlib.Core.Path.{ap}
use native.Mathlib.Omega.{arith}
use Rattle.ground.specs.Place.{place_at}
use Rattle.ground.specs.declared.rectangle.Rectangle.{Rectangle}
use Rattle.ground.proofs.place.Place.at.Goals as goal

pub overflow_mul-result : goal.overflow_mul-result
overflow_mul-result c = omega (arith, ap (λ (r : Rectangle). r.ix) c.at-rectangle.ensures, c.well_formed)

pub overflow_sub-result : goal.overflow_sub-result
overflow_sub-result c = omega (arith, ap (λ (r : Rectangle). r.ix) c.at-rectangle.ensures)

pub overflow_mul-result-2 : goal.overflow_mul-result-2
overflow_mul-result-2 c = omega (arith, ap (λ (r : Rectangle). r.iy) c.at-rectangle.ensures, c.well_formed)

pub overflow_sub-result-2 : goal.overflow_sub-result-2
overflow_sub-result-2 c = omega (arith, ap (λ (r : Rectangle). r.iy) c.at-rectangle.ensures)

pub returns : goal.returns
unfolding place_at
returns c = simp (c.at-rectangle.ensures, c.at.ensures)
