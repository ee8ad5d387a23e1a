-- The parts of a line, and the command that it begins with, are read as they are spelled. From the laws of readers, for the definitions of specs/Line.antt and
-- specs/Spell.antt. Assumes nothing.
use mathlib.Core.Path.{◌≡◌, refl, sym, ◌∙◌}
use mathlib.Core.Bool.{Bool, true, false, cond, ◌&&◌, ◌||◌, and-eq-true_iff, false≢true}
use mathlib.Core.List.{List, [], ◌∷◌, ◌++◌, append-nil}
use Prim.Native.Nat.{ℕ, ◌+◌, ◌-◌, ◌*◌, ◌/◌, ◌%◌, ◌≤◌}
use native.Mathlib.Omega.{arith}
use lib.Dec.{leb, eqb}
use lib.ListN.{length}
use borrow.Author.Tests.{leb-true, le-leb, eqb-true, eqb-false, eq-eqb}
use Rattle.ground.specs.Boundary.{is_base, is_zone, named}
use Rattle.lines.specs.Spell.{Command, «use», site, path, masts, ascii, capital, digit, in_name, all, is_name, is_number, value, Numeral, Spells}
use Rattle.lines.specs.Line.{Part, ◌then◌, nothing, one, some, text, name, number, spaced_number, zone_of, use_rest, site_rest, two_names, path_rest, masts_rest, after_first, command}
use Rattle.lines.proofs.Laws.Reader.{Language, Ends, Reads, free, ends_free, last, One, Nothing, Run, Joined, reads_nothing, reads_one, reads_some, reads_then, reads_as, reads_last, first_ends}

-- nothing after a part leaves what may follow it
nothing_ends : {A : Type 0} (more : ℕ → Bool) {a : A} (b : A) (v rest : List ℕ) → Nothing a b v → Ends more rest → Ends more (v ++ rest)
nothing_ends more b v rest s e = rw s.is e

-- these bytes spell themselves
pub record Text (t : List ℕ) (v : ℕ) (w : List ℕ) : Type 0 where
  pub value : v ≡ 0
  pub is : w ≡ t

pub reads_text : {more : ℕ → Bool} (t : List ℕ) → Reads (text t) (Text t) more
unfolding text
reads_text [] =
    reads_as (reads_nothing 0)
    (λ a w s. record { value = s.value; is = s.is })
    (λ a w s. record { value = s.value; is = s.is })
reads_text (b ∷ t) =
    reads_as (reads_then (reads_one (eqb b) b (eq-eqb b b refl)) (λ a u s. reads_text t) (λ a c v rest s e. ends_free (v ++ rest)))
    (λ a w j.
    record {
      value = j.second.value;
      is = j.is ∙ (rw (j.first.is, ← eqb-true b j.a j.first.passes, j.second.is));
    })
    (λ a w s.
    record {
      a = b;
      u = b ∷ [];
      v = t;
      first = record { passes = eq-eqb b b refl; is = refl };
      second = record { value = s.value; is = refl };
      is = s.is;
    })

-- a word: a first byte, then so many others at most as the first allows; it spells what `means` makes of it
pub record WordOf {A : Type 0} (head tail : ℕ → Bool) (most : ℕ → ℕ) (means : List ℕ → A) (a : A) (w : List ℕ) : Type 0 where
  pub b : ℕ
  pub rest : List ℕ
  pub first : head b ≡ true
  pub others : all tail rest ≡ true
  pub short : length rest ≤ most b
  pub value : a ≡ means (b ∷ rest)
  pub is : w ≡ b ∷ rest

-- a word is read, where some byte can be its first
module _ {A : Type 0} (head tail : ℕ → Bool) (most : ℕ → ℕ) (means : List ℕ → A) where
  abbrev Parts : Language A
  Parts = Joined (One head) (λ b. Joined (Run tail (most b)) (λ w. Nothing (means (b ∷ w))))

  to_word : (a : A) (w : List ℕ) → Parts a w → WordOf head tail most means a w
  to_word a w j =
      let k = j.second in
      let whole : k.u ++ k.v ≡ k.u = rw k.second.is (append-nil k.u) in
      record {
        b = j.a;
        rest = k.u;
        first = j.first.passes;
        others = k.first.passes;
        short = k.first.most;
        value = k.second.value ∙ rw k.first.value;
        is = j.is ∙ rw (j.first.is, k.is, whole);
      }

  from_word : (a : A) (w : List ℕ) → WordOf head tail most means a w → Parts a w
  from_word a w s =
      record {
        a = s.b;
        u = s.b ∷ [];
        v = s.rest;
        first = record { passes = s.first; is = refl };
        second =
            record {
              a = s.rest;
              u = s.rest;
              v = [];
              first = record { value = refl; passes = s.others; most = s.short };
              second = record { value = s.value; is = refl };
              is = sym (append-nil s.rest);
            };
        is = s.is;
      }

  reads_word : (example : ℕ) → head example ≡ true
      → Reads (one head then λ b. some tail (most b) then λ w. nothing (means (b ∷ w))) (WordOf head tail most means) tail
  reads_word x h =
      reads_as
      (reads_then (reads_one head x h)
      (λ b u s. reads_then (reads_some tail (most b)) (λ w u s. reads_nothing (means (b ∷ w))) (λ a c v rest s e. nothing_ends tail c v rest s e))
      (λ a c v rest s e. ends_free (v ++ rest)))
      to_word
      from_word

-- the test of a word's bytes
module _ (head tail : ℕ → Bool) (most : ℕ → ℕ) (b : ℕ) (w : List ℕ) where
  passes : head b ≡ true → all tail w ≡ true → length w ≤ most b → (head b && (all tail w && leb (length w) (most b))) ≡ true
  passes h t m = simp (h, t, le-leb _ _ m)

  passed : (head b && (all tail w && leb (length w) (most b))) ≡ true → (head b ≡ true) × ((all tail w ≡ true) × (length w ≤ most b))
  passed e =
      let h = (and-eq-true_iff (head b) (all tail w && leb (length w) (most b))).0 e in
      let t = (and-eq-true_iff (all tail w) (leb (length w) (most b))).0 h.1 in
      (h.0, (t.0, leb-true _ _ t.1))

-- a NAME is spelled by itself
pub record NameOf (v w : List ℕ) : Type 0 where
  pub value : v ≡ w
  pub well : is_name w ≡ true

pub reads_name : Reads name NameOf in_name
unfolding name is_name
reads_name = reads_as (reads_word capital in_name (λ b. 11) (λ w. w) 65 refl) to from
  where
    to : (v w : List ℕ) → WordOf capital in_name (λ b. 11) (λ w. w) v w → NameOf v w
    to v w s = record {
      value = s.value ∙ sym s.is;
      well = rw s.is (passes capital in_name (λ b. 11) s.b s.rest s.first s.others s.short);
    }

    from : (v w : List ℕ) → NameOf v w → WordOf capital in_name (λ b. 11) (λ w. w) v w
    from v [] s = absurd (false≢true s.well)
    from v (b ∷ w) s =
        let p = passed capital in_name (λ b. 11) b w s.well in
        record { b = b; rest = w; first = p.0; others = p.1.0; short = p.1.1; value = s.value; is = refl }

-- a number is spelled by its digits
abbrev more_digits : ℕ → ℕ
more_digits b = cond (eqb b 48) 0 6

pub reads_number : Reads number Numeral digit
unfolding number is_number
reads_number = reads_as (reads_word digit digit more_digits value 48 refl) to from
  where
    to : (v : ℕ) (w : List ℕ) → WordOf digit digit more_digits value v w → Numeral v w
    to v w s = record {
      well = rw s.is (passes digit digit more_digits s.b s.rest s.first s.others s.short);
      says = rw s.is (sym s.value);
    }

    from : (v : ℕ) (w : List ℕ) → Numeral v w → WordOf digit digit more_digits value v w
    from v [] s = absurd (false≢true s.well)
    from v (b ∷ w) s =
        let p = passed digit digit more_digits b w s.well in
        record { b = b; rest = w; first = p.0; others = p.1.0; short = p.1.1; value = sym s.says; is = refl }

-- a part after a space
pub record Spaced {A : Type 0} (S : Language A) (a : A) (w : List ℕ) : Type 0 where
  pub rest : List ℕ
  pub second : S a rest
  pub is : w ≡ 32 ∷ rest

module _ {A : Type 0} {S : Language A} where
  -- a space may follow a name or a number
  spaced_ends : (more : ℕ → Bool) → more 32 ≡ false → (a : A) (w rest : List ℕ) → Spaced S a w → Ends more (w ++ rest)
  spaced_ends more h a w rest s = rw s.is h

  reads_spaced : {r : List ℕ → Part A} {more : ℕ → Bool} → Reads r S more → Reads (one (eqb 32) then λ _. r) (Spaced S) more
  reads_spaced R =
      reads_as (reads_then (reads_one (eqb 32) 32 refl) (λ a u s. R) (λ a c v rest s e. ends_free (v ++ rest)))
      (λ a w j.
      record {
        rest = j.v;
        second = j.second;
        is = j.is ∙ rw (j.first.is, ← eqb-true 32 j.a j.first.passes);
      })
      (λ a w s.
      record { a = 32; u = 32 ∷ []; v = s.rest; first = record { passes = refl; is = refl }; second = s.second; is = s.is })

reads_spaced_number : Reads spaced_number (Spaced Numeral) digit
unfolding spaced_number
reads_spaced_number = reads_spaced reads_number

-- two numbers, each after a space, of which a command is made
abbrev TwoNumbers : (ℕ → ℕ → Command) → Language Command
TwoNumbers make = Joined (Spaced Numeral) (λ a. Joined (Spaced Numeral) (λ b. Nothing (make a b)))

reads_two_numbers : (make : ℕ → ℕ → Command) → Reads (spaced_number then λ a. spaced_number then λ b. nothing (make a b)) (TwoNumbers make) digit
reads_two_numbers make =
    reads_then reads_spaced_number
    (λ a u s. reads_then reads_spaced_number (λ b u s. reads_nothing (make a b)) (λ b c v w s e. nothing_ends digit c v w s e))
    (λ a c v w s e. first_ends (spaced_ends digit refl) c v w s)

two_numbers_lem : (make : ℕ → ℕ → Command) {a b : ℕ} {la lb : List ℕ} → Numeral a la → Numeral b lb
    → TwoNumbers make (make a b) ((32 ∷ la) ++ ((32 ∷ lb) ++ []))
two_numbers_lem make {a} {b} {la} {lb} first second =
    record {
      a = a;
      u = 32 ∷ la;
      v = (32 ∷ lb) ++ [];
      first = record { rest = la; second = first; is = refl };
      second =
          record {
            a = b;
            u = 32 ∷ lb;
            v = [];
            first = record { rest = lb; second = second; is = refl };
            second = record { value = refl; is = refl };
            is = refl;
          };
      is = refl;
    }

-- what follows `site `
abbrev SiteRest : Language Command
SiteRest = Joined NameOf (λ n. TwoNumbers (site n))

reads_site : Reads site_rest SiteRest digit
unfolding site_rest
reads_site =
    reads_then reads_name (λ n u s. reads_two_numbers (site n)) (λ a c v w s e. first_ends (spaced_ends in_name refl) c v w s)

-- two names, and what follows them
abbrev TwoNames : (List ℕ → List ℕ → Language Command) → Language Command
TwoNames T = Joined NameOf (λ m. Spaced (Joined NameOf (T m)))

reads_two_names : {rest : List ℕ → List ℕ → List ℕ → Part Command} {T : List ℕ → List ℕ → Language Command} {more : ℕ → Bool}
    → ((m n : List ℕ) → Reads (rest m n) (T m n) more)
    → ((m n : List ℕ) (c : Command) (v w : List ℕ) → T m n c v → Ends more w → Ends in_name (v ++ w))
    → Reads (two_names rest) (TwoNames T) more
unfolding two_names
reads_two_names R follows =
    reads_then reads_name
    (λ m u s. reads_spaced (reads_then reads_name (λ n u s. R m n) (λ n c v w s e. follows m n c v w s e)))
    (λ a c v w s e. spaced_ends in_name refl c v w s)

-- what follows `path `
abbrev PathRest : Language Command
PathRest = TwoNames (λ m n. Nothing (path m n))

reads_path : Reads path_rest PathRest in_name
unfolding path_rest
reads_path = reads_two_names (λ m n. reads_nothing (path m n)) (λ m n c v w s e. nothing_ends in_name c v w s e)

-- what follows `masts `
abbrev MastsRest : Language Command
MastsRest = TwoNames (λ m n. TwoNumbers (masts m n))

reads_masts : Reads masts_rest MastsRest digit
unfolding masts_rest
reads_masts = reads_two_names (λ m n. reads_two_numbers (masts m n)) (λ m n c v w s e. first_ends (spaced_ends in_name refl) c v w s)

-- what follows `use `
abbrev band_letter : ℕ → Bool
band_letter c = leb 65 c && leb c 85

abbrev tens : ℕ → Bool
tens d = leb 48 d && leb d 54

abbrev units_after : ℕ → ℕ → Bool
units_after d e = digit e && is_zone (zone_of d e)

abbrev UseRest : Language Command
UseRest =
    Joined (One (eqb 78)) λ _. Joined (One band_letter) λ c. Joined (One tens) λ d. Joined (One (units_after d)) λ e.
    Nothing («use» (4 * (c - 65)) (zone_of d e))

-- after a first digit of 0 to 6 some second digit makes a zone: 1 after 0, else 0
units_there : (d : ℕ) → tens d ≡ true → (e : ℕ) × (units_after d e ≡ true)
units_there d h = go (eqb d 48) refl
  where
    go : (t : Bool) → eqb d 48 ≡ t → (e : ℕ) × (units_after d e ≡ true)
    go true z = (49, rw (eqb-true d 48 z))
    go false z =
        let r = (and-eq-true_iff (leb 48 d) (leb d 54)).0 h in
        let low = leb-true 48 d r.0 in
        let high = leb-true d 54 r.1 in
        let other = eqb-false d 48 z in
        let off : d ≡ 48 → ⊥ = other in
        (48, simp (le-leb 1 (zone_of d 48) (omega arith), le-leb (zone_of d 48) 60 (omega arith)))

reads_use : Reads use_rest UseRest free
unfolding use_rest
reads_use =
    reads_then (reads_one (eqb 78) 78 refl)
    (λ a u s.
    reads_then (reads_one band_letter 65 refl)
    (λ c u s.
    reads_then (reads_one tens 48 refl)
    (λ d u s.
    let e = units_there d s.passes in
    reads_then (reads_one (units_after d) e.0 e.1)
    (λ e u s. reads_nothing («use» (4 * (c - 65)) (zone_of d e)))
    (λ a c v w s e. ends_free (v ++ w)))
    (λ a c v w s e. ends_free (v ++ w)))
    (λ a c v w s e. ends_free (v ++ w)))
    (λ a c v w s e. ends_free (v ++ w))

-- no two different bytes begin one line
apart : {B : Type 0} (b c : ℕ) {v w : List ℕ} → eqb b c ≡ false → b ∷ v ≡ c ∷ w → B
apart b c h e = let z : b ≡ c = cc in absurd (eqb-false b c h z)

-- the bytes after the first, and the rest of a line that begins so
abbrev After : List ℕ → Language Command → Language Command
After word Rest = Joined (Text word) (λ _. Rest)

-- the bytes `word` and then what is left
after : (word : List ℕ) (Rest : Language Command) (c : Command) (w v : List ℕ) → Rest c v → w ≡ word ++ v → After word Rest c w
after word Rest c w v s e = record { a = 0; u = word; v = v; first = record { value = refl; is = refl }; second = s; is = e }

-- `site `
site_to : (c : Command) (w : List ℕ) → After (ascii "ite ") SiteRest c w → Spells c (115 ∷ w)
site_to c w j =
    let n = j.second in
    let e = n.second in
    let m = e.second in
    rw m.second.value (record {
      e = e.first.rest;
      n = m.first.rest;
      named = rw n.first.value n.first.well;
      east = e.first.second;
      north = m.first.second;
      is =
          rw (
            j.is,
            j.first.is,
            n.is,
            n.first.value,
            e.is,
            e.first.is,
            m.is,
            m.first.is,
            m.second.is,
            append-nil m.first.rest,
          );
    })

site_from : (c : Command) (w : List ℕ) → Spells c (115 ∷ w) → After (ascii "ite ") SiteRest c w
site_from («use» b z) w s = apart 115 117 refl s.is
site_from (path m n) w s = apart 115 112 refl s.is
site_from (masts m n a b) w s = apart 115 109 refl s.is
site_from (site n e m) w s =
    after (ascii "ite ") SiteRest (site n e m) w (n ++ ((32 ∷ s.e) ++ ((32 ∷ s.n) ++ [])))
    (record {
      a = n;
      u = n;
      v = (32 ∷ s.e) ++ ((32 ∷ s.n) ++ []);
      first = record { value = refl; well = s.named };
      second = two_numbers_lem (site n) s.east s.north;
      is = refl;
    })
    (rw append-nil (cc s.is))

-- `path `
path_to : (c : Command) (w : List ℕ) → After (ascii "ath ") PathRest c w → Spells c (112 ∷ w)
path_to c w j =
    let m = j.second in
    let n = m.second.second in
    rw n.second.value (record {
      named = rw m.first.value m.first.well;
      other = rw n.first.value n.first.well;
      is =
          rw (
            j.is,
            j.first.is,
            m.is,
            m.first.value,
            m.second.is,
            n.is,
            n.first.value,
            n.second.is,
            append-nil n.u,
          );
    })

path_from : (c : Command) (w : List ℕ) → Spells c (112 ∷ w) → After (ascii "ath ") PathRest c w
path_from («use» b z) w s = apart 112 117 refl s.is
path_from (site n e m) w s = apart 112 115 refl s.is
path_from (masts m n a b) w s = apart 112 109 refl s.is
path_from (path m n) w s =
    after (ascii "ath ") PathRest (path m n) w (m ++ (32 ∷ (n ++ [])))
    (record {
      a = m;
      u = m;
      v = 32 ∷ (n ++ []);
      first = record { value = refl; well = s.named };
      second =
          record {
            rest = n ++ [];
            second =
                record {
                  a = n;
                  u = n;
                  v = [];
                  first = record { value = refl; well = s.other };
                  second = record { value = refl; is = refl };
                  is = refl;
                };
            is = refl;
          };
      is = refl;
    })
    (rw append-nil (cc s.is))

-- `masts `
masts_to : (c : Command) (w : List ℕ) → After (ascii "asts ") MastsRest c w → Spells c (109 ∷ w)
masts_to c w j =
    let m = j.second in
    let n = m.second.second in
    let a = n.second in
    let b = a.second in
    rw b.second.value (record {
      la = a.first.rest;
      lb = b.first.rest;
      named = rw m.first.value m.first.well;
      other = rw n.first.value n.first.well;
      limit = a.first.second;
      limit2 = b.first.second;
      is =
          rw (
            j.is,
            j.first.is,
            m.is,
            m.first.value,
            m.second.is,
            n.is,
            n.first.value,
            a.is,
            a.first.is,
            b.is,
            b.first.is,
            b.second.is,
            append-nil b.first.rest,
          );
    })

masts_from : (c : Command) (w : List ℕ) → Spells c (109 ∷ w) → After (ascii "asts ") MastsRest c w
masts_from («use» b z) w s = apart 109 117 refl s.is
masts_from (site n e m) w s = apart 109 115 refl s.is
masts_from (path m n) w s = apart 109 112 refl s.is
masts_from (masts m n a b) w s =
    let limits = (32 ∷ s.la) ++ ((32 ∷ s.lb) ++ []) in
    after (ascii "asts ") MastsRest (masts m n a b) w (m ++ (32 ∷ (n ++ limits)))
    (record {
      a = m;
      u = m;
      v = 32 ∷ (n ++ limits);
      first = record { value = refl; well = s.named };
      second =
          record {
            rest = n ++ limits;
            second =
                record {
                  a = n;
                  u = n;
                  v = limits;
                  first = record { value = refl; well = s.other };
                  second = two_numbers_lem (masts m n) s.limit s.limit2;
                  is = refl;
                };
            is = refl;
          };
      is = refl;
    })
    (rw append-nil (cc s.is))

-- the letter of a base and the digits of a zone give both back
letter_back : (c : ℕ) → 65 ≤ c → 65 + 4 * (c - 65) / 4 ≡ c
letter_back c h = omega arith

base_back : (b : ℕ) → b % 4 ≡ 0 → 4 * (65 + b / 4 - 65) ≡ b
base_back b h = omega arith

zone_back : (z : ℕ) → z ≤ 60 → zone_of (48 + z / 10) (48 + z % 10) ≡ z
zone_back z h = omega arith

tens_back : (d e : ℕ) → 48 ≤ d → 48 ≤ e → e ≤ 57 → 48 + zone_of d e / 10 ≡ d
tens_back d e a b c = omega arith

units_back : (d e : ℕ) → 48 ≤ d → 48 ≤ e → e ≤ 57 → 48 + zone_of d e % 10 ≡ e
units_back d e a b c = omega arith

-- a number within a range, from the test
range : (a b n : ℕ) → (leb a n && leb n b) ≡ true → (a ≤ n) × (n ≤ b)
range a b n e = let h = (and-eq-true_iff (leb a n) (leb n b)).0 e in (leb-true _ _ h.0, leb-true _ _ h.1)

in_range : (a b n : ℕ) → a ≤ n → n ≤ b → (leb a n && leb n b) ≡ true
in_range a b n h k = simp (le-leb _ _ h, le-leb _ _ k)

-- `use `
use_to : (c : Command) (w : List ℕ) → After (ascii "se ") UseRest c w → Spells c (117 ∷ w)
unfolding named
use_to c w j =
    let n = j.second in
    let l = n.second in
    let d = l.second in
    let e = d.second in
    let letter = range 65 85 l.a l.first.passes in
    let tens = range 48 54 d.a d.first.passes in
    let both = (and-eq-true_iff (digit e.a) (is_zone (zone_of d.a e.a))).0 e.first.passes in
    let units = range 48 57 e.a both.0 in
    rw e.second.value (record {
      file = simp (le-leb (4 * (l.a - 65)) 80 (omega arith), eq-eqb (4 * (l.a - 65) % 4) 0 (omega arith), both.1);
      is =
          rw (
            j.is,
            j.first.is,
            n.is,
            n.first.is,
            ← eqb-true 78 n.a n.first.passes,
            l.is,
            l.first.is,
            d.is,
            d.first.is,
            e.is,
            e.first.is,
            e.second.is,
            letter_back l.a letter.0,
            tens_back d.a e.a tens.0 units.0 units.1,
            units_back d.a e.a tens.0 units.0 units.1,
          );
    })

use_from : (c : Command) (w : List ℕ) → Spells c (117 ∷ w) → After (ascii "se ") UseRest c w
unfolding named
use_from (site n e m) w s = apart 117 115 refl s.is
use_from (path m n) w s = apart 117 112 refl s.is
use_from (masts m n a b) w s = apart 117 109 refl s.is
use_from («use» b z) w s =
    let both = (and-eq-true_iff (is_base b) (is_zone z)).0 s.file in
    let base = (and-eq-true_iff (leb b 80) (eqb (b % 4) 0)).0 both.0 in
    let low = leb-true b 80 base.0 in
    let step = eqb-true (b % 4) 0 base.1 in
    let zone = range 1 60 z both.1 in
    let c : ℕ = 65 + b / 4 in
    let d : ℕ = 48 + z / 10 in
    let e : ℕ = 48 + z % 10 in
    after (ascii "se ") UseRest («use» b z) w (78 ∷ c ∷ d ∷ e ∷ [])
    (record {
      a = 78;
      u = 78 ∷ [];
      v = c ∷ d ∷ e ∷ [];
      first = record { passes = refl; is = refl };
      second =
          record {
            a = c;
            u = c ∷ [];
            v = d ∷ e ∷ [];
            first = record { passes = in_range 65 85 c (omega arith) (omega arith); is = refl };
            second =
                record {
                  a = d;
                  u = d ∷ [];
                  v = e ∷ [];
                  first = record { passes = in_range 48 54 d (omega arith) (omega arith); is = refl };
                  second =
                      record {
                        a = e;
                        u = e ∷ [];
                        v = [];
                        first = record {
                          passes = simp (in_range 48 57 e (omega arith) (omega arith)) (rw (zone_back z zone.1) both.1);
                          is = refl;
                        };
                        second = record { value = rw (base_back b step, zone_back z zone.1); is = refl };
                        is = refl;
                      };
                  is = refl;
                };
            is = refl;
          };
      is = refl;
    })
    (cc s.is)

-- the first byte of a line
abbrev is_first : ℕ → Bool
is_first b = eqb b 117 || (eqb b 115 || (eqb b 112 || eqb b 109))

-- a line that begins with b
abbrev From : ℕ → Language Command
From b c w = Spells c (b ∷ w)

reads_after : (word : List ℕ) {rest : List ℕ → Part Command} {Rest : Language Command} {more : ℕ → Bool} → Reads rest Rest more
    → Reads (text word then λ _. rest) (After word Rest) last
reads_after word R = reads_then (reads_text word) (λ a u s. reads_last R) (λ a c v w s e. ends_free (v ++ w))

first_byte : (b : ℕ) → is_first b ≡ true → Reads (after_first b) (From b) last
unfolding after_first
first_byte b h = go117 (eqb b 117) refl
  where
    go109 : (t : Bool) → eqb b 109 ≡ t → eqb b 117 ≡ false → eqb b 115 ≡ false → eqb b 112 ≡ false → Reads (after_first b) (From b) last
    go109 true e _ _ _ = rw (eqb-true b 109 e) (reads_as (reads_after _ reads_masts) masts_to masts_from)
    go109 false e i j k = absurd (false≢true (rw (i, j, k, e) at h))

    go112 : (t : Bool) → eqb b 112 ≡ t → eqb b 117 ≡ false → eqb b 115 ≡ false → Reads (after_first b) (From b) last
    go112 true e _ _ = rw (eqb-true b 112 e) (reads_as (reads_after _ reads_path) path_to path_from)
    go112 false e i j = go109 (eqb b 109) refl i j e

    go115 : (t : Bool) → eqb b 115 ≡ t → eqb b 117 ≡ false → Reads (after_first b) (From b) last
    go115 true e _ = rw (eqb-true b 115 e) (reads_as (reads_after _ reads_site) site_to site_from)
    go115 false e i = go112 (eqb b 112) refl i e

    go117 : (t : Bool) → eqb b 117 ≡ t → Reads (after_first b) (From b) last
    go117 true e = rw (eqb-true b 117 e) (reads_as (reads_after _ reads_use) use_to use_from)
    go117 false e = go115 (eqb b 115) refl e

-- the first byte of what spells a command
first_of : (c : Command) (w : List ℕ) → Spells c w → (b : ℕ) × ((v : List ℕ) × ((is_first b ≡ true) × (w ≡ b ∷ v)))
first_of («use» b z) w s = (117, (_, (refl, s.is)))
first_of (site n e m) w s = (115, (_, (refl, s.is)))
first_of (path m n) w s = (112, (_, (refl, s.is)))
first_of (masts m n a b) w s = (109, (_, (refl, s.is)))

-- a command is read as it is spelled
pub reads_command : Reads command Spells last
unfolding command
reads_command =
    reads_as (reads_then (reads_one is_first 117 refl) (λ b u s. first_byte b s.passes) (λ a c v w s e. ends_free (v ++ w)))
    (λ c w j. rw (j.is, j.first.is) j.second)
    (λ c w s.
    let f = first_of c w s in
    record {
      a = f.0;
      u = f.0 ∷ [];
      v = f.1.0;
      first = record { passes = f.1.1.0; is = refl };
      second = rw (← f.1.1.1) s;
      is = f.1.1.1;
    })
