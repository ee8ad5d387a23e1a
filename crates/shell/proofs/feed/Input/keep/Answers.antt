-- `keep` meets its contract: the bytes that are moved are as many as the contract says. Assumes nothing.
use mathlib.Core.Path.{◌≡◌, refl, sym, ◌∙◌, ap}
use mathlib.Core.List.{List, [], ◌∷◌}
use Prim.Native.Nat.{ℕ, zero, suc, ◌-◌, ◌≤◌, ◌<◌}
use Rattle.std.proofs.Common.{zero-add}
use native.Mathlib.Omega.{arith}
use lib.ListN.{length, take, drop, length-take, length-drop}
use Rattle.std.specs.List.{copy_within}
use Rattle.std.proofs.lemmas.List.Edits.{take-paste, length-paste}
use Rattle.shell.specs.Inside.{Keeps}
use Rattle.shell.proofs.feed.Input.keep.Goals as goal

-- the first bytes of the first bytes are first bytes
first : (n m : ℕ) (l : List ℕ) → take (length (take n (take m l))) l ≡ take n (take m l)
first zero m l = refl
first (suc n) zero l = refl
first (suc n) (suc m) [] = refl
first (suc n) (suc m) (b ∷ l) = ap (λ w. b ∷ w) (first n m l)

-- the bytes that were moved, by their number
kept : (input : List ℕ) (from end last : ℕ) → length (take 48 (take (end - from) (drop from input))) ≡ last - from → from < last → last ≤ length input
    → Keeps input from end (copy_within input from last 0) (last - from)
kept input from end last n some within =
    let exit = copy_within input from last 0 in
    let long : last - from ≤ length (drop from input) = simp length-drop (omega arith) in
    let moved : take (last - from) exit ≡ take (last - from) (drop from input) =
    ap (λ k. take k exit) (sym (zero-add (last - from))) ∙ take-paste input 0 (drop from input) (last - from) (omega arith) long in
    record {
      bytes = moved ∙ ap (λ k. take k (drop from input)) (sym n) ∙ first 48 (end - from) (drop from input);
      count = sym n;
      most = omega (arith, n, length-take 48 (take (end - from) (drop from input)));
      long = length-paste input 0 (drop from input) (last - from) (omega arith) long;
    }

pub returns-else-last-from-clause-kept : goal.returns-else-last-from-clause-kept
returns-else-last-from-clause-kept c = rw c.copy_within.ensures.after (kept _ _ _ _ (simp (length-take, length-drop) (omega arith)) (omega arith) (omega arith))
