-- What the functions inside this crate ask of each other and tell each other, on the way to the promises. A reader of the promises may pass
-- over this file. Assumes nothing.
use Rattle.std.specs.Prelude.{◌≡◌, ℕ, ◌+◌, ◌*◌, ◌<◌, ◌≤◌, Bool, true, false, not, ◌&&◌, List, length, ◌≢◌, slice_index_or, Option, Some, None}
use Rattle.index.specs.Index.{position, is_record, fresh, entries_pass}
use Rattle.index.specs.declared.marks.Four.{Four}

-- Positions from..r are all 0, and r <= end.
pub record Skipped (file : List ℕ) (from end r : ℕ) : Type 0 where
  pub first : from ≤ r
  pub last : r ≤ end
  pub empty : (n : ℕ) → from ≤ n → n < r → position file n ≡ 0

-- Positions from..r are all 0, r <= end, and if r < end then position r is not 0.
pub record NextEntry (file : List ℕ) (from end r : ℕ) : Type 0 where
  pub skipped : Skipped file from end r
  pub holds : r < end → position file r ≢ 0

-- r tells whether the four are all numbers from 7 to M
abbrev pub FourAre : Four → ℕ → Bool → Type 0
FourAre f M r = r ≡ (is_record f.first M && is_record f.second M && is_record f.third M && is_record f.fourth M)

-- Positions 1 to n - 1 all pass, and exactly the numbers that stand in them are marked.
pub record Walked (file : List ℕ) (M : ℕ) (marks : List Bool) (n : ℕ) : Type 0 where
  pub most : M ≤ 4096
  pub first : 1 ≤ n
  pub long : length marks ≡ 4097
  pub passed : entries_pass file M n ≡ true
  pub marked : (r : ℕ) → 1 ≤ r → r ≤ 4096 → slice_index_or marks r false ≡ not (fresh file n r)

-- Where marking the numbers from position `from` on, four at a time, comes to: a position r, at most the end, before which all have been walked over;
-- or none, and then not all positions before the end pass.
abbrev pub PastRecords : (file : List ℕ) → (M from end : ℕ) → (marks : List Bool) → Option ℕ → Type 0
PastRecords file M from end marks (Some r) = Walked file M marks r × ((from ≤ r) × (r ≤ end))
PastRecords file M from end marks None = entries_pass file M end ≡ false

-- What marking the numbers of k positions tells of every file in which they stand at the positions n to n + k - 1: if r is true these positions
-- pass too, and else not all positions up to them pass.
pub record Marking (k : ℕ) (Of : List ℕ → ℕ → ℕ → Type 0) (before after : List Bool) (r : Bool) : Type 0 where
  pub goes : {file : List ℕ} {M n : ℕ} → Walked file M before n → Of file M n → r ≡ true → Walked file M after (n + k)
  pub stops : {file : List ℕ} {M n : ℕ} → Walked file M before n → Of file M n → r ≡ false → (end : ℕ) → n + k ≤ end → entries_pass file M end ≡ false

-- this number stands in position n, and is from 7 to M
abbrev pub RecordAt : ℕ → List ℕ → ℕ → ℕ → Type 0
RecordAt number file M n = (number ≡ position file n) × (is_record number M ≡ true)

-- these four numbers stand in positions n to n + 3, and are from 7 to M
abbrev pub FourRecords : Four → List ℕ → ℕ → ℕ → Type 0
FourRecords f file M n =
    RecordAt f.first file M n × RecordAt f.second file M (n + 1) × RecordAt f.third file M (n + 2) × RecordAt f.fourth file M (n + 3)

-- this number, whatever it is, stands in position n, and M is `highest`
abbrev pub NumberAt : ℕ → ℕ → List ℕ → ℕ → ℕ → Type 0
NumberAt number highest file M n = (number ≡ position file n) × (M ≡ highest)

-- these four numbers stand in positions n to n + 3, whatever they are
pub record FourAt (file : List ℕ) (n : ℕ) (f : Four) : Type 0 where
  pub first : f.first ≡ position file n
  pub second : f.second ≡ position file (n + 1)
  pub third : f.third ≡ position file (n + 2)
  pub fourth : f.fourth ≡ position file (n + 3)

-- positions n to n + 3 as one number, which is 0 exactly if all four are
abbrev pub four_positions : List ℕ → ℕ → ℕ
four_positions file n =
    0x1_0000_0000_0000 * position file n + 0x1_0000_0000 * position file (n + 1) + 0x1_0000 * position file (n + 2) + position file (n + 3)
