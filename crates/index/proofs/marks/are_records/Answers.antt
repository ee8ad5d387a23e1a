-- `are_records` meets its contract, number by number. Assumes nothing.
use Rattle.std.proofs.Common.{◌≡◌, ◌+◌, ◌-◌, arith}
use Rattle.index.proofs.marks.are_records.Goals as goal

pub returns : goal.returns
returns c =
    let M = c.args.highest in
    let back : 6 + (M - 6) ≡ M = omega (arith, c.requires) in
    cc
