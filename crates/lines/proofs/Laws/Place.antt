-- What stands at a place of some bytes, with a line feed past their end, and what is read from a place on: no bytes, one byte, one part and then
-- another. From the definitions of the parts alone. Assumes nothing.
use mathlib.Core.Path.{◌≡◌, refl, sym, ◌∙◌, ap}
use mathlib.Core.Bool.{Bool, true, false, cond, ◌&&◌, true≢false}
use mathlib.Core.List.{List, [], ◌∷◌}
use Prim.Native.Nat.{ℕ, zero, suc, ◌+◌, ◌-◌, ◌<◌, suc-le-suc}
use native.Mathlib.Nat.{add_assoc, add-zero}
use native.Mathlib.Numerals.{add-one}
use native.Mathlib.Omega.{arith}
use lib.Dec.{leb}
use lib.ListN.{length, get_or, drop}
use lib.Seq.{drop-cons, drop-drop}
use Rattle.std.specs.Prelude.{Ok, Err}
use Rattle.lines.specs.Line.{Part, part, stopped, later, ◌then◌, nothing, one}
use Rattle.lines.specs.Inside.{found, byte_from}

-- a byte that is no line feed stands among the bytes
pub within : (s : List ℕ) (at : ℕ) → (get_or s at 10 ≡ 10 → ⊥) → at < length s
within [] at h = absurd (h refl)
within (b ∷ s) zero h = omega arith
within (b ∷ s) (suc at) h = suc-le-suc (within s at h)

-- the bytes from a place on begin with the byte there, whatever stands past their end
pub begins : (s : List ℕ) (at d : ℕ) → at < length s → drop at s ≡ get_or s at d ∷ drop (at + 1) s
begins s at d h = rw (add-one, drop-cons s at d)

module _ {A : Type 0} (reader : List ℕ → Part A) (s : List ℕ) where
  -- A part was read from one place to another: its value.
  pub record Went (value : A) (from to : ℕ) : Type 0 where
    pub bytes : ℕ
    pub is : reader (drop from s) ≡ part value bytes
    pub place : from + bytes ≡ to

  -- No part was read from a place on: the place of the first byte that is not right.
  pub record Halted (from to : ℕ) : Type 0 where
    pub bytes : ℕ
    pub is : reader (drop from s) ≡ stopped bytes
    pub place : from + bytes ≡ to

-- to a place that is said otherwise
pub moved : {A : Type 0} {reader : List ℕ → Part A} {s : List ℕ} {a : A} {from to end : ℕ} → to ≡ end → Went reader s a from to
    → Went reader s a from end
moved e w = record { bytes = w.bytes; is = w.is; place = w.place ∙ e }

-- no bytes are read
pub stays : {A : Type 0} (a : A) (s : List ℕ) (from : ℕ) → Went (nothing a) s a from from
stays a s from = record { bytes = 0; is = refl; place = add-zero from }

-- the first of two parts stops, and so both
pub first_stops : {A B : Type 0} {first : List ℕ → Part A} {s : List ℕ} {from to : ℕ} (second : A → List ℕ → Part B) → Halted first s from to
    → Halted (first then second) s from to
first_stops second h = record { bytes = h.bytes; is = rw h.is; place = h.place }

-- The first of two parts is read:
module _ {A B : Type 0} {first : List ℕ → Part A} {s : List ℕ} {a : A} {from mid : ℕ} (second : A → List ℕ → Part B) (w : Went first s a from mid)
  where
    -- both are
    pub both : {b : B} {to : ℕ} → Went (second a) s b mid to → Went (first then second) s b from to
    both v =
        record { bytes = w.bytes + v.bytes; is = rw (w.is, drop-drop, w.place, v.is); place = omega (arith, w.place, v.place) }

    -- what is handed over of both is what is handed over of the second, from its place on
    pub goes_on : {C : Type 0} (says : B → C) → found says from ((first then second) (drop from s)) ≡ found says mid (second a (drop mid s))
    goes_on says = rw (w.is, ← w.place, drop-drop) (go (second a (drop (from + w.bytes) s)))
      where
        go : (p : Part B) → found says from (later w.bytes p) ≡ found says (from + w.bytes) p
        go (part b n) = rw add_assoc
        go (stopped k) = rw add_assoc

-- what is handed over of a part that was read
pub hands : {A B : Type 0} (says : A → B) {reader : List ℕ → Part A} {s : List ℕ} {a : A} {from to : ℕ}
    → Went reader s a from to → Ok (record { value = says a; at = to }) ≡ found says from (reader (drop from s))
hands says w = rw (w.is, w.place)

-- and where none was
pub halts : {A B : Type 0} (says : A → B) {reader : List ℕ → Part A} {s : List ℕ} {from to : ℕ}
    → Halted reader s from to → Err to ≡ found says from (reader (drop from s))
halts says h = rw (h.is, h.place)

-- One byte, at a place of some bytes:
module _ (test : ℕ → Bool) (s : List ℕ) (from : ℕ) {b : ℕ} (is : b ≡ get_or s from 10) (feed : test 10 ≡ false) where
  -- if it passes, it stands among them
  pub among : test b ≡ true → from < length s
  among t = within s from λ e. true≢false (sym t ∙ ap test (is ∙ e) ∙ feed)

  -- it passes
  pub passes : test b ≡ true → Went (one test) s b from (from + 1)
  unfolding one
  passes t = record { bytes = 1; is = rw (begins s from 10 (among t), ← is, t); place = refl }

  -- it fails
  pub fails : test b ≡ false → Halted (one test) s from from
  unfolding one
  fails t = record { bytes = 0; is = go s from (ap test (sym is) ∙ t); place = add-zero from }
    where
      go : (l : List ℕ) (n : ℕ) → test (get_or l n 10) ≡ false → one test (drop n l) ≡ stopped 0
      go [] zero h = refl
      go [] (suc n) h = refl
      go (x ∷ l) zero h = rw h
      go (x ∷ l) (suc n) h = go l n h

-- One byte between two, as its place from the first:
module _ (s : List ℕ) (at first last : ℕ) where
  -- where one is handed over, it is between them
  pub byte_is : {d : ℕ} → Ok d ≡ byte_from s at first last
      → ((leb first (get_or s at 10) && leb (get_or s at 10) last) ≡ true) × (d ≡ get_or s at 10 - first)
  byte_is {d} e = go (leb first (get_or s at 10) && leb (get_or s at 10) last) e
    where
      go : (t : Bool) → Ok d ≡ cond t (Ok (get_or s at 10 - first)) (Err at) → (t ≡ true) × (d ≡ get_or s at 10 - first)
      go true e = (refl, cc)
      go false e = absurd cc

  -- where a place is handed over, the byte there is not
  pub byte_none : {k : ℕ} → Err k ≡ byte_from s at first last
      → ((leb first (get_or s at 10) && leb (get_or s at 10) last) ≡ false) × (k ≡ at)
  byte_none {k} e = go (leb first (get_or s at 10) && leb (get_or s at 10) last) e
    where
      go : (t : Bool) → Err k ≡ cond t (Ok (get_or s at 10 - first)) (Err at) → (t ≡ false) × (k ≡ at)
      go true e = absurd cc
      go false e = (refl, cc)
