-- How long an answer is: a number has at most three digits, the words of an answer at most 16 bytes, and an answer at most 17. Assumes nothing.
use mathlib.Core.Bool.{Bool, true, false, cond}
use mathlib.Core.List.{List}
use Prim.Native.Nat.{ℕ, ◌≤◌}
use native.Mathlib.Omega.{arith}
use lib.Dec.{ltb}
use lib.ListN.{length, length-append}
use Rattle.shell.specs.Answer.{decimal, two_numbers, words_of, said}
use Rattle.shell.specs.declared.answer.Answer.{Answer}
use Rattle.shell.specs.declared.answer.Answer.TheVariants.{Used, Held, Seen, Planned, Taken, Full, Unknown, Refused, Bad}

-- of three words, by two tests
longest : (s t : Bool) (u v w : List ℕ) {n : ℕ} → length u ≤ n → length v ≤ n → length w ≤ n → length (cond s u (cond t v w)) ≤ n
longest true t u v w h i j = h
longest false true u v w h i j = i
longest false false u v w h i j = j

pub decimal_short : (n : ℕ) → length (decimal n) ≤ 3
unfolding decimal
decimal_short n = longest (ltb n 10) (ltb n 100) _ _ _ (omega arith) (omega arith) (omega arith)

two_short : (a b : ℕ) → length (two_numbers a b) ≤ 7
two_short a b = simp length-append (omega (arith, decimal_short a, decimal_short b))

pub words_short : (a : Answer) → length (words_of a) ≤ 16
unfolding words_of
words_short (Used base zone) = omega (arith, two_short base zone)
words_short (Held count) = omega (arith, decimal_short count)
words_short (Seen n true) = simp length-append (omega (arith, decimal_short n))
words_short (Seen n false) = simp length-append (omega (arith, decimal_short n))
words_short (Planned a b) = omega (arith, two_short a b)
words_short Taken = omega arith
words_short Full = omega arith
words_short Unknown = omega arith
words_short (Refused number) = omega (arith, decimal_short number)
words_short (Bad column) = omega (arith, decimal_short column)

-- and so an answer has at most 17
pub said_short : (a : Answer) → length (said a) ≤ 17
said_short a = simp length-append (omega (arith, words_short a))
