-- `need` meets its contract: neither the sum nor the product is too large for 32 bits. Assumes nothing.
use mathlib.Core.Path.{◌≡◌}
use Prim.Native.Nat.{◌+◌}
use native.Mathlib.Omega.{arith}
use Rattle.profile.specs.Profile.{link_of, sample_of}
use Rattle.link.specs.Clear.{T, G, need}
use Rattle.link.proofs.Laws.Bounds.{height_most, need_most}
use Rattle.link.proofs.clear.Link.need.Goals.{After-curve}
use Rattle.link.proofs.clear.Link.need.Goals as goal

-- T + G
height : (c : After-curve) → (
    let l = link_of c.args.self.now.path c.args.self.now.samples.now in
    c.top.result + c.curve.result ≡ T (sample_of l.profile c.args.i) + G l.path c.args.i
    )
height c = simp (c.top.ensures, c.at.ensures, c.curve.ensures)

pub overflow_add-result : goal.overflow_add-result
overflow_add-result c =
    record { fits = omega (arith, height c, height_most _ c.args.i c.args.self.now.sound c.requires) }

pub overflow_mul-result : goal.overflow_mul-result
unfolding need
overflow_mul-result c =
    rw (height (goal.at.overflow_mul-result c).After-curve) (record { fits = omega (arith, need_most _ c.args.i c.args.self.now.sound c.requires) })

pub returns : goal.returns
unfolding need
returns c = rw (height (goal.at.returns c).After-curve)
