-- What a length of whole records means, and where the bytes of a record stand in the file. From the definitions alone. Assumes nothing.
use Rattle.std.proofs.Common.{◌≡◌, ℕ, ◌+◌, ◌-◌, ◌*◌, ◌%◌, ◌<◌, ◌≤◌, true, ◌&&◌, eqb, leb, List, length, get_or, drop, ◌∙◌, arith, length-drop, length-take, get_or-drop, get_or-take, eq-eqb, eqb-true, le-leb, leb-true}
use mathlib.Core.Bool.{and-eq-true_iff}
use Rattle.index.specs.Bytes.{record_bytes, records, whole_records, Whole}

-- the test of the length means what document 01 says
pub whole_is : (file : List ℕ) → whole_records file ≡ true → Whole file
unfolding whole_records
whole_is file h =
    let t = (and-eq-true_iff (eqb (length file % 1024) 0) (leb 6 (records file) && leb (records file) 4096)).0 h in
    let r = (and-eq-true_iff (leb 6 (records file)) (leb (records file) 4096)).0 t.1 in
    let even = eqb-true (length file % 1024) 0 t.0 in
    record { multiple = omega arith; least = leb-true _ _ r.0; most = leb-true _ _ r.1 }

-- a length of whole records passes the test
pub is_whole : (file : List ℕ) → Whole file → whole_records file ≡ true
unfolding whole_records
is_whole file w = simp (eq-eqb (length file % 1024) 0 (omega (arith, w.multiple)), le-leb _ _ w.least, le-leb _ _ w.most)

-- byte k of record r is byte 1024 (r - 1) + k of the file
pub record_byte : (file : List ℕ) (r k : ℕ) → k < 1024 → get_or (record_bytes file r) k 0 ≡ get_or file (1024 * (r - 1) + k) 0
unfolding record_bytes
record_byte file r k h = get_or-take 1024 (drop (1024 * (r - 1)) file) k 0 h ∙ get_or-drop (1024 * (r - 1)) file k 0

-- a record that lies in the file is 1024 bytes long
pub record_long : (file : List ℕ) (r : ℕ) → 1 ≤ r → 1024 * r ≤ length file → length (record_bytes file r) ≡ 1024
unfolding record_bytes
record_long file r some h = simp (length-take, length-drop) (omega arith)
