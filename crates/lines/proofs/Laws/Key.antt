-- No two names have one key, and every key is below 2^64. A character is found again from its digit, the digits of two names of one length from their
-- common key, and a longer name has a greater key than a shorter one. From the definition of the key, and a test that is computed for each byte.
-- Assumes nothing.
use mathlib.Core.Path.{◌≡◌, refl, sym}
use mathlib.Core.Bool.{Bool, true, cond, not, ◌&&◌, ◌||◌, and-eq-true_iff, and-false, false≢true}
use mathlib.Core.List.{List, [], ◌∷◌}
use Prim.Native.Nat.{ℕ, suc, ◌+◌, ◌*◌, ◌^◌, ◌≤◌, ◌<◌}
use native.Mathlib.Nat.{mul-le-mul_right, pow-succ', pow-le-pow_right, le_antisymm}
use native.Mathlib.Decide.{dec_le}
use native.Mathlib.Omega.{arith}
use lib.Dec.{leb, eqb}
use lib.ListN.{length}
use borrow.Author.Tests.{leb-true, lt-leb, eqb-true, ne_eqb}
use Rattle.ground.specs.Every.{every}
use Rattle.ground.proofs.Laws.Every.{holds_at}
use Rattle.lines.specs.Spell.{capital, digit, in_name, all, is_name}
use Rattle.lines.specs.Key.{letter, key_after, key}

-- the character of a digit
character : ℕ → ℕ
character d = cond (leb d 26) (d + 64) (cond (leb d 36) (d + 21) 45)

-- the digit of a character is 1 to 37, and the character is found again from it
record Letter (b : ℕ) : Type 0 where
  some : 1 ≤ letter b
  most : letter b ≤ 37
  back : character (letter b) ≡ b

-- the same, of a byte that may stand in a name, as a test
legible : ℕ → Bool
legible b = not (in_name b) || (leb 1 (letter b) && (leb (letter b) 37 && eqb (character (letter b)) b))

-- every character of a name has such a digit
letter_is : (b : ℕ) → in_name b ≡ true → Letter b
unfolding every legible letter character
letter_is b h =
    let t = (and-eq-true_iff _ _).0 (rw h at (holds_at legible 0 91 refl b (omega arith) (small (dec_le 91 b)))) in
    let u = (and-eq-true_iff _ _).0 t.1 in
    record { some = leb-true _ _ t.0; most = leb-true _ _ u.0; back = eqb-true _ _ u.1 }
  where
    small : Dec (91 ≤ b) → b < 91
    small (yes l) =
        let capital-not = lt-leb b 90 (omega arith) in
        let digit_not = lt-leb b 57 (omega arith) in
        absurd (false≢true (simp (capital, digit, capital-not, digit_not, ne_eqb b 45 (λ e. omega arith), and-false) at h))
    small (no l) = omega arith

-- where two beginnings, each with as many characters after it, come to one number, they are the same, and so are the characters
same_digits : (a b : ℕ) (v w : List ℕ) → all in_name v ≡ true → all in_name w ≡ true → length v ≡ length w → key_after a v ≡ key_after b w
    → (a ≡ b) × (v ≡ w)
unfolding all key_after
same_digits a b [] [] p q l e = (e, refl)
same_digits a b [] (d ∷ w) p q l e = absurd (omega arith)
same_digits a b (c ∷ v) [] p q l e = absurd (omega arith)
same_digits a b (c ∷ v) (d ∷ w) p q l e =
    let s = (and-eq-true_iff (in_name c) _).0 p in
    let t = (and-eq-true_iff (in_name d) _).0 q in
    let r = same_digits (38 * a + letter c) (38 * b + letter d) v w s.1 t.1 (omega arith) e in
    let m = letter_is c s.0 in
    let n = letter_is d t.0 in
    let i : letter c ≡ letter d = omega arith in
    (omega arith, cc (m.back, n.back, r.1))

-- a key is at least that of its beginning with only zeros after it
at_least : (a : ℕ) (w : List ℕ) → a * 38 ^ length w ≤ key_after a w
unfolding key_after
at_least a [] = omega arith
at_least a (c ∷ w) = rw (pow-succ' 38 (length w)) (omega (arith, at_least (38 * a + letter c) w))

-- a key is below that of the next beginning with only zeros after it
below_next : (a : ℕ) (w : List ℕ) → all in_name w ≡ true → key_after a w < (a + 1) * 38 ^ length w
unfolding all key_after
below_next a [] p = omega arith
below_next a (c ∷ w) p =
    let s = (and-eq-true_iff (in_name c) _).0 p in
    let h : 38 * a + letter c + 1 ≤ 38 * (a + 1) = omega (arith, (letter_is c s.0).most) in
    rw (pow-succ' 38 (length w)) (omega (arith, below_next (38 * a + letter c) w s.1, mul-le-mul_right (38 ^ length w) h))

-- a name has up to 12 characters, and its key has as many digits
record Name (w : List ℕ) : Type 0 where
  letters : all in_name w ≡ true
  most : length w ≤ 12
  least : 38 ^ length w ≤ 38 * key w

-- names are such
name_is : (w : List ℕ) → is_name w ≡ true → Name w
unfolding all is_name key_after
name_is [] h = absurd (false≢true h)
name_is (b ∷ w) h =
    let s = (and-eq-true_iff (capital b) _).0 h in
    let t = (and-eq-true_iff _ _).0 s.1 in
    let c : in_name b ≡ true = rw s.0 in
    let first : 1 ≤ 38 * 0 + letter b = omega (arith, (letter_is b c).some) in
    record {
      letters = rw c t.0;
      most = omega (arith, leb-true (length w) 11 t.1);
      least = rw (pow-succ' 38 (length w)) (omega (arith, at_least (38 * 0 + letter b) w, mul-le-mul_right (38 ^ length w) first));
    }

-- a name is no longer than another with the same key
no_longer : (v w : List ℕ) → Name v → Name w → key v ≡ key w → length w ≤ length v
no_longer v w m n e = go (dec_le (length w) (length v))
  where
    go : Dec (length w ≤ length v) → length w ≤ length v
    go (yes l) = l
    go (no l) =
        let h : 38 ^ suc (length v) ≤ 38 ^ length w = pow-le-pow_right (omega arith) (omega arith) in
        absurd (omega (arith, n.least, below_next 0 v m.letters, rw (pow-succ' 38 (length v)) at h))

-- no two names have one key
pub key_once : (v w : List ℕ) → is_name v ≡ true → is_name w ≡ true → key v ≡ key w → v ≡ w
key_once v w p q e =
    let m = name_is v p in
    let n = name_is w q in
    (same_digits 0 0 v w m.letters n.letters (le_antisymm (no_longer w v n m (sym e)) (no_longer v w m n e)) e).1

-- the key of a name is below 2^64
pub below : (w : List ℕ) → is_name w ≡ true → key w < 18446744073709551616
below w h =
    let n = name_is w h in
    omega (arith, below_next 0 w n.letters, pow-le-pow_right {n = 38} (omega arith) n.most)
