-- The rules of a file that passes. Document 01, "Bytes of a file": as tests that can be run, which the order of checks cites, and as a record of 01's
-- five rules. That the two say the same is shown in proofs/Laws/Passes.antt. Assumes nothing.
use Rattle.std.specs.Prelude.{◌≡◌, ℕ, ◌*◌, ◌<◌, ◌≤◌, Bool, not, ◌&&◌, ◌||◌, ◌⊎◌, List, ◌==◌, nat_eq, nat_le}
use Rattle.ground.specs.Every.{every}
use Rattle.index.specs.Bytes.{nth, records, Whole}

-- position n of the index holds the record number for rectangle n, 0 if it is not covered
abbrev pub position : List ℕ → ℕ → ℕ
position file n = nth file n

-- position 3072 holds the highest record number M
abbrev pub highest : List ℕ → ℕ
highest file = position file 3072

-- M is 6 to the record count
unfoldable pub highest_passes : List ℕ → Bool
highest_passes file = nat_le 6 (highest file) && nat_le (highest file) (records file)

-- M is in its range, in document 01's own words: 6 to the record count
pub record HighestIn (file : List ℕ) : Type 0 where
  pub least : 6 ≤ highest file
  pub most : highest file ≤ records file

-- a number from 7 to M, that of a record past the index
abbrev pub is_record : ℕ → ℕ → Bool
is_record number M = nat_le 7 number && nat_le number M

-- no position from 1 to before n holds the number r
unfoldable pub fresh : List ℕ → ℕ → ℕ → Bool
fresh file n r = every (λ m. not (position file m == r)) 1 n

-- position n holds 0, or a number from 7 to M that no position before it holds
unfoldable pub entry_passes : List ℕ → ℕ → ℕ → Bool
entry_passes file M n =
    let r : ℕ = position file n in
    (r == 0) || (is_record r M && fresh file n r)

-- each position from 1 to before the end holds 0, or a number from 7 to M that no position before it holds
unfoldable pub entries_pass : List ℕ → ℕ → ℕ → Bool
entries_pass file M end = every (entry_passes file M) 1 end

-- the positions from this one to 3071 are 0
unfoldable pub rest_empty : List ℕ → ℕ → Bool
rest_empty file from = every (λ n. nat_eq (position file n) 0) from 3072

-- M and the positions keep the rules; refusal 3 is given where they do not
unfoldable pub index_passes : List ℕ → ℕ → Bool
index_passes file rows =
    highest_passes file && (entries_pass file (highest file) (100 * rows) && rest_empty file (100 * rows))

-- document 01's own words: a file with this many rows of rectangles passes when these hold
pub record Passes (file : List ℕ) (rows : ℕ) : Type 0 where
  -- its length is a multiple of 1024, with 6 to 4096 records;
  pub whole : Whole file
  -- M is 6 to the record count;
  pub lowest_m : 6 ≤ highest file
  pub highest_m : highest file ≤ records file
  -- positions 1 to 100 x rows - 1 each hold 0 or 7 to M;
  pub entries : (n : ℕ) → 1 ≤ n → n < 100 * rows → (position file n ≡ 0) ⊎ ((7 ≤ position file n) × (position file n ≤ highest file))
  -- no nonzero number stands in two of them;
  pub once : (m n : ℕ) → 1 ≤ m → m < n → n < 100 * rows → position file m ≡ position file n → position file n ≡ 0
  -- positions from 100 x rows to 3071 are 0
  pub rest : (n : ℕ) → 100 * rows ≤ n → n ≤ 3071 → position file n ≡ 0
