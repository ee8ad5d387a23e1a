-- The loops that gather the digits of a name's key or of a number: the digit of each byte that passes a test, at most so many, in a base. What the
-- rest will come to is what the whole comes to, and the number is below a power of the base. From the definitions of the parts alone. Assumes
-- nothing.
use mathlib.Core.Path.{◌≡◌, refl, sym, ◌∙◌}
use mathlib.Core.Bool.{Bool, true, false}
use mathlib.Core.List.{List, [], ◌∷◌}
use Prim.Native.Nat.{ℕ, zero, suc, ◌+◌, ◌-◌, ◌*◌, ◌^◌, ◌≤◌, ◌<◌, min}
use native.Mathlib.Nat.{zero-add, mul_assoc, mul_comm, mul-one, mul-zero, suc-mul, pow-succ'}
use native.Mathlib.Nat.{le_trans, mul-le-mul_left, mul-le-mul_right, one-le-pow}
use native.Mathlib.Numerals.{add-one}
use native.Mathlib.Omega.{arith}
use lib.ListN.{length, get_or, take, drop, drop_of_length-le}
use Rattle.lines.specs.Spell.{digit, in_name, value_after}
use Rattle.lines.specs.Line.{◌then◌, nothing, one, run, some}
use Rattle.lines.specs.Key.{letter, key_after}
use Rattle.lines.proofs.Laws.Byte.{between, letter_small}
use Rattle.lines.proofs.Laws.Place.{begins, Went, stays, both, among}

-- The digits of a base that bytes stand for, and the number that digits say after some others.
pub record Digits (test : ℕ → Bool) (base : ℕ) (figure : ℕ → ℕ) (gather : ℕ → List ℕ → ℕ) : Type 0 where
  pub feed : test 10 ≡ false
  pub small : (b : ℕ) → test b ≡ true → figure b < base
  pub none : (x : ℕ) → gather x [] ≡ x
  pub more : (x b : ℕ) (w : List ℕ) → gather x (b ∷ w) ≡ gather (base * x + figure b) w

-- the characters of a name, and the digits of a number
pub characters : Digits in_name 38 letter key_after
unfolding key_after
characters = record { feed = refl; small = λ b t. letter_small b; none = λ x. refl; more = λ x b w. refl }

pub figures : Digits digit 10 (λ b. b - 48) value_after
unfolding value_after
figures = record { feed = refl; small = λ b t. omega (arith, (between 48 b 57 t).0, (between 48 b 57 t).1); none = λ x. refl; more = λ x b w. refl }

-- the bytes that pass the test, at most so many, from a place on
abbrev pub taken : (ℕ → Bool) → List ℕ → ℕ → ℕ → List ℕ
taken test s at left = take (run test left (drop at s)) (drop at s)

-- they are a part, however many they are
pub ran : (test : ℕ → Bool) (s : List ℕ) (at left : ℕ) → Went (some test left) s (taken test s at left) at (at + run test left (drop at s))
unfolding some
ran test s at left = record { bytes = run test left (drop at s); is = refl; place = refl }

-- a first byte, and then they, are a part
pub headed : {A : Type 0} (first test : ℕ → Bool) (count : ℕ → ℕ) (make : ℕ → List ℕ → A) {s : List ℕ} {from b : ℕ}
    → Went (one first) s b from (from + 1)
    → Went (one first then λ b. some test (count b) then λ w. nothing (make b w)) s (make b (taken test s (from + 1) (count b))) from
    (from + 1 + run test (count b) (drop (from + 1) s))
headed first test count make {s} {from} {b} w =
    both (λ b. some test (count b) then λ w. nothing (make b w)) w
    (both (λ w. nothing (make b w)) (ran test s (from + 1) (count b)) (stays (make b (taken test s (from + 1) (count b))) s _))

-- no bytes are taken where none may be, or none is left
none_left : (test : ℕ → Bool) (s : List ℕ) (at left : ℕ) → min (length s) (at + left) ≤ at → run test left (drop at s) ≡ 0
unfolding run
none_left test s at zero h = refl
none_left test s at (suc n) h =
    let past : length s ≤ at = omega arith in
    rw (drop_of_length-le s past)

-- or where the first does not pass
none_passes : (test : ℕ → Bool) (s : List ℕ) (at left : ℕ) {b : ℕ} → b ≡ get_or s at 10 → test b ≡ false → run test left (drop at s) ≡ 0
unfolding run
none_passes test s at zero is t = refl
none_passes test [] zero (suc n) is t = refl
none_passes test [] (suc k) (suc n) is t = refl
none_passes test (x ∷ s) zero (suc n) is t = rw (← is, t)
none_passes test (x ∷ s) (suc k) (suc n) is t = none_passes test s k (suc n) is t

-- The loop gathers, from a place on, what follows the digits of x₀, at most `count` bytes. It has come to x at this place, and at most `left` bytes
-- more follow.
pub record Gathers (test : ℕ → Bool) (base : ℕ) (gather : ℕ → List ℕ → ℕ) (s : List ℕ) (top x₀ from count x at left : ℕ) : Type 0 where
  pub room : suc x * base ^ left ≤ base ^ top
  pub value : gather x (taken test s at left) ≡ gather x₀ (taken test s from count)
  pub place : at + run test left (drop at s) ≡ from + run test count (drop from s)

-- It has come to the whole.
pub record Gathered (test : ℕ → Bool) (gather : ℕ → List ℕ → ℕ) (s : List ℕ) (x₀ from count x at : ℕ) : Type 0 where
  pub value : x ≡ gather x₀ (taken test s from count)
  pub place : at ≡ from + run test count (drop from s)

module _ {test : ℕ → Bool} {base : ℕ} {figure : ℕ → ℕ} {gather : ℕ → List ℕ → ℕ} (d : Digits test base figure gather) where
  -- the number that digits say goes on from the first
  pub headed_by : (b : ℕ) (w : List ℕ) → gather 0 (b ∷ w) ≡ gather (figure b) w
  headed_by b w = rw (d.more 0 b w, mul-zero, zero-add)

  -- what it has come to is below the power
  pub room_left : {s : List ℕ} {top x₀ from count x at left : ℕ} → 0 < base → Gathers test base gather s top x₀ from count x at left → x < base ^ top
  room_left {x = x} {left = left} h g = le_trans (rw mul-one at (mul-le-mul_left (suc x) (one-le-pow left base h))) g.room

  -- one more byte passes
  pub gathers_more : {s : List ℕ} {top x₀ from count x at left less b : ℕ} → Gathers test base gather s top x₀ from count x at left
      → left ≡ less + 1 → b ≡ get_or s at 10 → test b ≡ true → Gathers test base gather s top x₀ from count (base * x + figure b) (at + 1) less
  unfolding run
  gathers_more {s} {x = x} {at = at} {less = less} {b = b} g h is t =
      let q : drop at s ≡ b ∷ drop (at + 1) s = rw is (begins s at 10 (among test s at is d.feed t)) in
      let below : suc (base * x + figure b) ≤ suc x * base = rw (suc-mul, mul_comm base x) (omega (arith, d.small b t)) in
      let g' = rw (h, add-one) at g in
      record {
        room = le_trans (mul-le-mul_right (base ^ less) below) (rw (pow-succ', ← mul_assoc) at g'.room);
        value = sym (d.more x b _) ∙ (simp (q, t) at g'.value);
        place = omega (arith, (simp (q, t) at g'.place));
      }

  -- Where no byte more passes, that is the whole:
  module _ {s : List ℕ} {top x₀ from count x at left : ℕ} (g : Gathers test base gather s top x₀ from count x at left) where
    whole : run test left (drop at s) ≡ 0 → Gathered test gather s x₀ from count x at
    whole e = record { value = sym (d.none x) ∙ (simp e at g.value); place = omega (arith, g.place) }

    -- no more may follow, or none is left
    pub gathered_all : min (length s) (at + left) ≤ at → Gathered test gather s x₀ from count x at
    gathered_all h = whole (none_left test s at left h)

    -- the next does not pass
    pub gathered_here : {b : ℕ} → b ≡ get_or s at 10 → test b ≡ false → Gathered test gather s x₀ from count x at
    gathered_here is t = whole (none_passes test s at left is t)
