-- A test of each sample between the ends, asked over the range of their numbers, is the clear test. From the law of the clear test. Assumes nothing.
use mathlib.Core.Path.{◌≡◌, sym, ◌∙◌}
use mathlib.Core.Bool.{Bool, true, false}
use mathlib.Core.List.{List}
use Prim.Native.Nat.{ℕ, ◌+◌, ◌-◌, ◌≤◌, ◌<◌}
use native.Mathlib.Omega.{arith}
use lib.ListN.{length, get_or}
use Rattle.std.specs.Bool.{MatchBool}
use Rattle.std.specs.List.{range_with_len, AllWithin, HoldsAt}
use Rattle.std.proofs.lemmas.List.FromFn.{length-range_with_len, get_or-range_with_len}
use Rattle.path.specs.Path.{line}
use Rattle.masts.specs.Clear.{clear_by}
use Rattle.masts.proofs.Laws.Clear.{clear_is, blocked}

module _ (needs : ℕ → ℕ) (n A B : ℕ) where
  -- the samples between the ends
  abbrev pub between : List ℕ
  between = range_with_len 1 (n - 1)

  -- the line is not below the need at each of them, or it is below it at one
  pub each_tested : (r : Bool)
      → MatchBool r (AllWithin (λ i. needs i ≤ line n A B i) between 0 (length between)) ((k : ℕ) × (k < length between) × HoldsAt (λ i. line n A B i < needs i) between k)
      → r ≡ clear_by needs n A B
  each_tested true t = sym ((clear_is needs n A B).1 λ i l h.
      let there : get_or between (i - 1) 0 ≡ i = get_or-range_with_len 1 (n - 1) (i - 1) 0 (omega arith) ∙ omega arith in
      rw there at (t (i - 1) 0 (omega arith) (rw (length-range_with_len 1 (n - 1)) (omega arith))))
  each_tested false t =
      let h : t.0 < n - 1 = rw (length-range_with_len 1 (n - 1)) at t.1 in
      sym (blocked needs n A B (1 + t.0) (omega arith) (omega arith) (rw (get_or-range_with_len 1 (n - 1) t.0 0 h) at (t.2 0)))
