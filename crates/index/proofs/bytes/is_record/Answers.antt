-- `is_record` meets its contract: the difference to 7, which wraps below 7, is below the count of records just for the numbers from 7 to
-- 6 more than that count. Assumes nothing.
use Rattle.std.proofs.Common.{ℕ, ◌+◌, ltb, arith, ltb-true, lt-ltb}
use Rattle.ground.proofs.Laws.Test.{in_range}
use Rattle.index.proofs.bytes.is_record.Goals as goal

pub returns : goal.returns
returns c =
    let a = c.args in
    let d : ℕ = c.wrapping_sub_usize.result in
    let most = c.requires in
    let wraps = c.wrapping_sub_usize.ensures.value in
    let fits = c.wrapping_sub_usize.type_inv in
    in_range (ltb d a.past) 7 a.number (6 + a.past)
    ((λ e. let t = ltb-true d a.past e in omega arith), λ h. lt-ltb d a.past (omega arith))
