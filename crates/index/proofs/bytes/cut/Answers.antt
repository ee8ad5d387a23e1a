-- `cut` meets its contract: record r begins at byte 1024 (r - 1), and its 1024 bytes lie in the file. Assumes nothing.
use Rattle.std.proofs.Common.{◌≡◌, ◌+◌, ◌-◌, refl, arith}
use Rattle.index.specs.Bytes.{record_start, record_bytes}
use Rattle.index.proofs.bytes.cut.Goals as goal

pub returns : goal.returns
unfolding record_bytes
returns c =
    let start = record_start c.args.r in
    let long : start + 1024 - start ≡ 1024 = omega arith in
    record { block = refl; start = refl; bytes = rw long }
