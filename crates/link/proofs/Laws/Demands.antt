-- Demand 2, last sentence, of the clear verdict: what it says of a path whose profile is given, in document 01's letters. From the laws of the profile's link
-- and of the clear test. Assumes nothing.
use mathlib.Core.Path.{◌≡◌}
use mathlib.Core.Logic.{◌↔◌}
use mathlib.Core.Bool.{true}
use mathlib.Core.List.{List}
use Prim.Native.Nat.{ℕ, ◌+◌, ◌-◌, ◌*◌, ◌/◌, ◌≤◌, ◌<◌}
use native.Mathlib.Omega.{arith}
use lib.ListN.{get_or}
use Rattle.ground.specs.Outcome.{given}
use Rattle.ground.specs.declared.point.Point.{Point}
use Rattle.path.specs.Path.{Q, N, path_of, ask_masts}
use Rattle.profile.specs.Profile.{Profile, Link, profile}
use Rattle.masts.specs.Clear.{rounded_up}
use Rattle.link.specs.Clear.{T, G, need, clear, verdict}
use Rattle.masts.proofs.Laws.Clear.{clear_is, taller}
use Rattle.profile.proofs.Laws.Link.{WithinAsked, link_given}

module _ (l : Link) where
  -- the path is clear with masts a and b exactly if for each i from 1 to N-1, (N-i) A + i B >= N (T + G): document 01's test, written out
  pub clear_exactly : (a b : ℕ) → (clear l a b ≡ true)
      ↔ ((i : ℕ) → 1 ≤ i → i < l.path.n → (
      let n : ℕ = l.path.n in
      let height : ℕ → ℕ = λ k. get_or l.profile.heights k 0 in
      n * (rounded_up (height i) 250 + rounded_up (l.path.q * i * (n - i)) (17000 * (n * n)))
      ≤ (n - i) * (height 0 / 250 + 1000 * a) + i * (height n / 250 + 1000 * b)
      ))
  unfolding clear need T G
  clear_exactly a b = clear_is (need l) l.path.n _ _

  -- with N = 1 every pair is clear
  pub one_step_clear : (a b : ℕ) → l.path.n ≡ 1 → clear l a b ≡ true
  one_step_clear a b e = (clear_exactly a b).1 λ i s h. absurd (omega arith)

  -- a taller mast at either end never blocks a clear path
  pub taller_clear : {a b a' b' : ℕ} → a ≤ a' → b ≤ b' → clear l a b ≡ true → clear l a' b' ≡ true
  unfolding clear
  taller_clear first second = taller (need l) l.path.n _ _ _ _ (omega arith) (omega arith)

-- Of a path whose profile is given:
module _ (file : List ℕ) (base zone : ℕ) (p q : Point) (pr : Profile) (e : profile file base zone p q ≡ given pr) where
  abbrev pub link : Link
  link = record { path = path_of p q; profile = pr }

  -- masts of 0 to 100 m are within what may be asked
  pub masts_within : {a b : ℕ} → a ≤ 100 → b ≤ 100 → WithinAsked (N (Q p q)) (ask_masts p q a b)
  masts_within ha hb = record { a = ha; b = hb; i = omega arith }

  -- the verdict on two masts of 0 to 100 m is given, and is the clear test
  pub verdict_given : {a b : ℕ} → a ≤ 100 → b ≤ 100 → verdict file base zone p q a b ≡ given (clear link a b)
  unfolding verdict
  verdict_given {a} {b} ha hb = simp (link_given file base zone (ask_masts p q a b) pr e (masts_within ha hb))
