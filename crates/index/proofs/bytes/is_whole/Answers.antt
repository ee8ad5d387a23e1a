-- `is_whole` meets its contract: the count, where bytes past the last whole record make it too large, is from 6 to 4096 just for a length of as many whole
-- records. Assumes nothing.
use Rattle.std.proofs.Common.{◌≡◌, ℕ, ◌+◌, ◌/◌, ◌%◌, ◌<◌, ◌≤◌, ◌&&◌, eqb, leb, length, ◌∙◌, add-zero, arith, eq-eqb, eqb-true, le-leb, leb-true}
use mathlib.Core.Bool.{and-eq-true_iff}
use Rattle.ground.proofs.Laws.Test.{same_test}
use Rattle.index.specs.Bytes.{whole_records}
use Rattle.index.proofs.bytes.is_whole.Goals as goal

-- the difference of r to 6 does not wrap, where r is from 6 to 4096
below : (r d : ℕ) → 6 ≤ r → r ≤ 4096 → (d + 6) % 18446744073709551616 ≡ r → d < 18446744073709551616 → d ≤ 4090
below r d least most wraps fits = omega arith

pub returns : goal.returns
unfolding whole_records
returns c =
    let n : ℕ = length c.args.file.now in
    let d : ℕ = c.wrapping_sub_usize.result in
    let wraps = c.wrapping_sub_usize.ensures.value in
    let fits = c.wrapping_sub_usize.type_inv in
    same_test (leb d 4090) (eqb (n % 1024) 0 && (leb 6 (n / 1024) && leb (n / 1024) 4096)) (
      (λ e.
          let t = leb-true d 4090 e in
          simp (eq-eqb (n % 1024) 0 (omega arith), le-leb 6 (n / 1024) (omega arith), le-leb (n / 1024) 4096 (omega arith))),
      λ e.
          let h = (and-eq-true_iff (eqb (n % 1024) 0) (leb 6 (n / 1024) && leb (n / 1024) 4096)).0 e in
          let g = (and-eq-true_iff (leb 6 (n / 1024)) (leb (n / 1024) 4096)).0 h.1 in
          let whole = eqb-true (n % 1024) 0 h.0 in
          let least = leb-true 6 (n / 1024) g.0 in
          let most = leb-true (n / 1024) 4096 g.1 in
          let is : (d + 6) % 18446744073709551616 ≡ n / 1024 = (rw whole at wraps) ∙ add-zero (n / 1024) in
          le-leb d 4090 (below (n / 1024) d least most is (omega (arith, fits))),
    )
