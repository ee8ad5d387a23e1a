-- Numbers and records in the bytes of a file. Document 01, "Bytes of a file". Assumes nothing.
use Rattle.std.specs.Prelude.{◌≡◌, ℕ, ◌+◌, ◌-◌, ◌*◌, ◌/◌, ◌%◌, ◌≤◌, Bool, ◌&&◌, List, length, take, drop, ◌==◌, nat_le, slice_index}
use Rattle.std.specs.Borrow.{Bor}

-- The 16-bit number at bytes i and i + 1; house: numbers are high byte first. A byte past the end, which no call asks for, counts as 0.
abbrev number_at : List ℕ → ℕ → ℕ
number_at bytes i = 256 * slice_index bytes i + slice_index bytes (i + 1)

-- Where the n-th 16-bit number begins, counted from 1. Position n of the index begins there in the file; rectangle 0 has no position.
abbrev pub position_byte : ℕ → ℕ
position_byte n = 2 * (n - 1)

-- the n-th 16-bit number of the bytes, counted from 1: position n of a file's index, or word n of a record
unfoldable pub nth : List ℕ → ℕ → ℕ
nth bytes n = number_at bytes (position_byte n)

-- where record r begins; records are 1024 bytes, numbered from 1
abbrev pub record_start : ℕ → ℕ
record_start r = 1024 * (r - 1)

-- the bytes of record r
unfoldable pub record_bytes : List ℕ → ℕ → List ℕ
record_bytes file r = take 1024 (drop (record_start r) file)

-- the bytes of the index, records 1 to 6
abbrev pub index_bytes : ℕ
index_bytes = 6144

-- the most records that a file may have
abbrev pub most_records : ℕ
most_records = 4096

-- how many whole records the bytes hold
abbrev pub records : List ℕ → ℕ
records file = length file / 1024

-- the length is a multiple of 1024, with 6 to 4096 records; refusal 1 is given where it is not
unfoldable pub whole_records : List ℕ → Bool
whole_records file = length file % 1024 == 0 && (nat_le 6 (records file) && nat_le (records file) 4096)

-- the length is that of whole records, in document 01's own words: a multiple of 1024, with 6 to 4096 records
pub record Whole (file : List ℕ) : Type 0 where
  pub multiple : length file ≡ 1024 * records file
  pub least : 6 ≤ records file
  pub most : records file ≤ 4096

-- r is the part of the lent slice that begins at byte k of it and has this content. A slice has bytes now, and begins in a block of memory at an
-- offset.
pub record Part (file r : Bor (List ℕ)) (k : ℕ) (content : List ℕ) : Type 0 where
  pub block : r.ref_ptr.0 ≡ file.ref_ptr.0
  pub start : r.ref_ptr.1 ≡ k + file.ref_ptr.1
  pub bytes : r.now ≡ content
