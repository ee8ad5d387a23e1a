-- `highest_passes` meets its contract: the difference to 6, which wraps below 6, is at most that of the record count just for an M from 6 to it.
-- Assumes nothing.
use Rattle.std.proofs.Common.{ℕ, ◌-◌, leb, arith, le-leb, leb-true}
use Rattle.ground.proofs.Laws.Test.{in_range}
use Rattle.index.specs.Bytes.{records}
use Rattle.index.specs.Index.{highest_passes}
use Rattle.index.proofs.Laws.Bytes.{whole_is}
use Rattle.index.proofs.highest_passes.Goals as goal

pub overflow_sub-most : goal.overflow_sub-most
overflow_sub-most c = omega (arith, whole_is _ c.requires.0)

pub overflow_cast-result : goal.overflow_cast-result
overflow_cast-result c = omega (arith, whole_is _ c.requires.0)

pub returns : goal.returns
unfolding highest_passes
returns c =
    let d : ℕ = c.wrapping_sub_u32.result in
    let most : ℕ = records c.args.file.now - 6 in
    let w = whole_is _ c.requires.0 in
    let wraps = c.wrapping_sub_u32.ensures.value in
    let fits = c.wrapping_sub_u32.type_inv in
    rw (← c.requires.1)
    (in_range (leb d most) 6 c.args.highest (records c.args.file.now)
    ((λ e. let t = leb-true d most e in omega (arith, w)), λ h. le-leb d most (omega (arith, w))))
