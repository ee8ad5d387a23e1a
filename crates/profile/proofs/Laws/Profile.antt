-- A profile holds what was read at each sample, 0 at unused places, and a refusal is that of the first sample refused. From the definition of the fold.
-- Assumes nothing.
use mathlib.Core.Path.{◌≡◌, refl, ◌∙◌}
use mathlib.Core.Logic.{⊎_elim}
use Prim.Native.Nat.{ℕ, zero, suc, ◌+◌, ◌-◌, ◌≤◌, ◌<◌}
use native.Mathlib.Nat.{add-zero, add-suc, le_of_suc-le-suc, eq-or-lt_of_le}
use native.Mathlib.Numerals.{add-one}
use native.Mathlib.Omega.{arith}
use lib.ListN.{length, get_or, replicate, length-set, length-replicate}
use lib.Seq.{get_or-set_same, get_or-set_other}
use Rattle.ground.specs.Outcome.{Outcome, given, refused, ◌and_then◌}
use Rattle.ground.proofs.Laws.Outcome.{not_both, step}
use Rattle.reading.specs.declared.point.Reading.{Reading}
use Rattle.profile.specs.Profile.{Profile, zeros, unused, put, sample_of, at_sample, up_to, profile_by}

module _ (read : ℕ → Outcome Reading) (n : ℕ) where
  -- one sample more that is read
  pub one_more : {i : ℕ} {p : Profile} (r : Reading) → up_to read n i ≡ given p → read i ≡ given r → up_to read n (i + 1) ≡ given (put p i r)
  unfolding up_to
  one_more r e f = simp (add-one, e, f)

  -- a refusal stays while samples are added
  still : (number i d : ℕ) → up_to read n (i + 1) ≡ refused number i → up_to read n (i + 1 + d) ≡ refused number i
  unfolding up_to
  still number i zero e = rw add-zero e
  still number i (suc d) e = simp (add-suc, still number i d e)

  -- one sample more that is refused
  pub one_refused : {i number place : ℕ} {p : Profile} → i ≤ n → up_to read n i ≡ given p → read i ≡ refused number place
      → profile_by read n ≡ refused number i
  unfolding up_to
  one_refused {i} {number} h e f =
      let q : i + 1 + (n - i) ≡ n + 1 = omega arith in
      rw q at (still number i (n - i) (simp (add-one, e, f)))

-- a profile with k samples read: each has its reading in its place, and the others are 0
pub record Filled (read : ℕ → Outcome Reading) (n k : ℕ) (p : Profile) : Type 0 where
  pub steps : p.n ≡ n
  pub long : (length p.heights ≡ 201) × (length p.codes ≡ 201)
  pub at : (i : ℕ) → i < k → read i ≡ given (sample_of p i)
  pub rest : (i : ℕ) → k ≤ i → sample_of p i ≡ record { height = 0; code = 0 }

-- a list of zeros is 0 everywhere
zero_at : (m i : ℕ) → ◌≡◌ {A = ℕ} (get_or (replicate m 0) i 0) 0
zero_at zero i = refl
zero_at (suc m) zero = refl
zero_at (suc m) (suc i) = zero_at m i

-- a reading that is put in is there
put_at : (p : Profile) (i : ℕ) (r : Reading) → i < length p.heights → i < length p.codes → sample_of (put p i r) i ≡ r
put_at p i r h c = simp (get_or-set_same p.heights i r.height 0 h, get_or-set_same p.codes i r.code 0 c)

-- the other samples stay
put_other : (p : Profile) (i j : ℕ) (r : Reading) → (j ≡ i → ⊥) → sample_of (put p i r) j ≡ sample_of p j
put_other p i j r d = simp (get_or-set_other p.heights i j r.height 0 d, get_or-set_other p.codes i j r.code 0 d)

-- a sample that is given at its place was read
read_there : (i : ℕ) (o : Outcome Reading) (r : Reading) → at_sample i o ≡ given r → o ≡ given r
read_there i (given a) r e = e
read_there i (refused number place) r e = absurd (not_both e)

-- one sample more
filled_more : {read : ℕ → Outcome Reading} {n k : ℕ} {q : Profile} (r : Reading) → k < 201 → Filled read n k q → read k ≡ given r
    → Filled read n (suc k) (put q k r)
filled_more {read} {n} {k} {q} r h f e =
    let here = put_at q k r (omega (arith, f.long.0)) (omega (arith, f.long.1)) in
    record {
      steps = f.steps;
      long = (length-set q.heights k r.height ∙ f.long.0, length-set q.codes k r.code ∙ f.long.1);
      at = λ i l. ⊎_elim
          (λ (s : i ≡ k). rw (s, here) e)
          (λ (u : i < k). rw (put_other q k i r λ s. omega arith) (f.at i u))
          (eq-or-lt_of_le (le_of_suc-le-suc l));
      rest = λ i l. put_other q k i r (λ s. omega arith) ∙ f.rest i (omega arith);
    }

-- a profile that was given is filled as `Filled` says
pub filled : (read : ℕ → Outcome Reading) (n k : ℕ) (p : Profile) → k ≤ 201 → up_to read n k ≡ given p → Filled read n k p
unfolding up_to zeros
filled read n zero p h e =
    let q : p ≡ unused n = cc in
    rw q (record {
      steps = refl;
      long = (length-replicate {A = ℕ} 201 0, length-replicate {A = ℕ} 201 0);
      at = λ i l. absurd (omega arith);
      rest = λ i l. simp (zero_at 201 i);
    })
filled read n (suc k) p h e =
    let s = step (up_to read n k) (λ q. at_sample k (read k) and_then λ r. given (put q k r)) p e in
    let t = step (at_sample k (read k)) (λ r. given (put s.value k r)) p s.then in
    let q : p ≡ put s.value k t.value = cc t.then in
    rw q (filled_more t.value (omega arith) (filled read n k s.value (omega arith) s.gave) (read_there k (read k) t.value t.gave))

-- the profile is given where each sample is read
pub all_read : (read : ℕ → Outcome Reading) (n k : ℕ) → ((i : ℕ) → i < k → (r : Reading) × (read i ≡ given r))
    → (p : Profile) × (up_to read n k ≡ given p)
unfolding up_to
all_read read n zero f = (unused n, refl)
all_read read n (suc k) f =
    let before = all_read read n k λ i l. f i (omega arith) in
    let here = f k (omega arith) in
    (put before.0 k here.0, simp (before.1, here.1))
