-- The bytes of a word, such as `use `: they are read whole, or the first that is not right is one of them. From the definitions of the parts alone.
-- Assumes nothing.
use mathlib.Core.Path.{◌≡◌, sym, ap}
use mathlib.Core.List.{List}
use Prim.Native.Nat.{ℕ, ◌+◌, ◌<◌, ◌≤◌}
use native.Mathlib.Nat.{add_assoc, add-zero}
use native.Mathlib.Omega.{arith}
use lib.ListN.{length, get_or, drop, drop_of_length-le}
use borrow.Author.Tests.{eq-eqb, ne_eqb}
use Rattle.std.specs.Prelude.{Result, Ok, Err}
use Rattle.lines.specs.Line.{Part, part, stopped, later, one, text}
use Rattle.lines.specs.Inside.{text_from}
use Rattle.lines.proofs.Laws.Place.{begins}

-- The bytes of a word, one by one from a place on, at the byte i of the word:
module _ (w s : List ℕ) (from i : ℕ) where
  -- what is left of the word, from there on
  abbrev at : Result ℕ ℕ
  at = text_from (from + i) (text (drop i w) (drop (from + i) s))

  -- one more is right
  pub text_on : i < length w → from + i < length s → get_or s (from + i) 0 ≡ get_or w i 0
      → at ≡ text_from (from + (i + 1)) (text (drop (i + 1) w) (drop (from + (i + 1)) s))
  unfolding text one
  text_on h k e =
      rw (begins w i 0 h, begins s (from + i) 0 k, eq-eqb (get_or w i 0) (get_or s (from + i) 0) (sym e), ← add_assoc from i 1)
      (go (text (drop (i + 1) w) (drop (from + i + 1) s)))
    where
      go : (p : Part ℕ) → text_from (from + i) (later 1 p) ≡ text_from (from + i + 1) p
      go (part v n) = ap Ok (omega arith)
      go (stopped n) = ap Err (omega arith)

  -- one is not right
  pub text_off : i < length w → from + i < length s → (get_or s (from + i) 0 ≡ get_or w i 0 → ⊥) → at ≡ Err (from + i)
  unfolding text one
  text_off h k n =
      rw (begins w i 0 h, begins s (from + i) 0 k, ne_eqb (get_or w i 0) (get_or s (from + i) 0) λ e. n (sym e)) (ap Err (add-zero (from + i)))

  -- there is no byte more
  pub text_short : i < length w → length s ≤ from + i → at ≡ Err (from + i)
  unfolding text one
  text_short h k = rw (begins w i 0 h, drop_of_length-le s k) (ap Err (add-zero (from + i)))

  -- there is no byte of the word more
  pub text_done : length w ≤ i → at ≡ Ok (from + i)
  unfolding text
  text_done h = rw (drop_of_length-le w h) (ap Ok (add-zero (from + i)))
