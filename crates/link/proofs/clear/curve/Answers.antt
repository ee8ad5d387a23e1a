-- `curve` meets its contract: the quotient, rounded up, is G, and fits 32 bits. Assumes nothing.
use mathlib.Core.Path.{◌≡◌, ◌∙◌, ap}
use Prim.Native.Nat.{ℕ, ◌*◌, ◌-◌}
use native.Mathlib.Omega.{arith}
use Rattle.path.specs.declared.Path.{Path}
use Rattle.std.specs.Int.{div_ceil}
use Rattle.link.specs.Clear.{G}
use Rattle.masts.proofs.Laws.Rounding.{ceil_is}
use Rattle.link.proofs.Laws.Bounds.{curve_fits, curve_most}
use Rattle.link.proofs.clear.curve.Goals.{After-div_ceil}
use Rattle.link.proofs.clear.curve.Goals as goal

-- the quotient is G
is : (c : After-div_ceil) → c.div_ceil.result ≡ G c.args.path c.args.i
unfolding G
is c =
    let w : Path = c.args.path in
    let i : ℕ = c.args.i in
    (rw (c.from.ensures, c.from-2.ensures, c.from-over.ensures) at c.div_ceil.ensures)
    ∙ ap (λ (m : ℕ). div_ceil m (17000 * (w.n * w.n))) (omega arith)
    ∙ ceil_is (w.q * i * (w.n - i)) (17000 * (w.n * w.n)) (omega (arith, curve_most w i c.requires.0 c.requires.1))

pub overflow_cast-result : goal.overflow_cast-result
unfolding G
overflow_cast-result c =
    rw (is (goal.at.overflow_cast-result c).After-div_ceil)
    (curve_fits c.args.path c.args.i _ c.requires.0 c.requires.1 (omega (arith, curve_most c.args.path c.args.i c.requires.0 c.requires.1)))

pub returns : goal.returns
returns c = is (goal.at.returns c).After-div_ceil
