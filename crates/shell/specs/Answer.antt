-- The answers of the plan shell. Document 02, request e), "Output, one line each". Bytes are ASCII. Assumes nothing.
use Rattle.std.specs.Prelude.{cond, List, [], ◌∷◌, ◌++◌, ℕ, ◌+◌, ◌/◌, ◌%◌, ltb}
use Rattle.lines.specs.Spell.{ascii, use_word, site_word, path_word, masts_word}
use Rattle.shell.specs.declared.answer.Answer.{Answer}
use Rattle.shell.specs.declared.answer.Answer.TheVariants.{Used, Held, Seen, Planned, Taken, Full, Unknown, Refused, Bad}

-- the digit of a number below 10
abbrev digit_of : ℕ → ℕ
digit_of d = 48 + d % 10

-- A number below 1000 in decimal digits, with no leading zero unless it is 0. The shell says no other: `small_enough` of proofs/Laws/Small.antt.
unfoldable pub decimal : ℕ → List ℕ
decimal n =
    cond (ltb n 10) (digit_of n ∷ [])
    (cond (ltb n 100) (digit_of (n / 10) ∷ digit_of n ∷ [])
    (digit_of (n / 100) ∷ digit_of (n / 10) ∷ digit_of n ∷ []))

-- the words of the answers
abbrev pub taken_word : List ℕ
taken_word = ascii "taken"

abbrev pub full_word : List ℕ
full_word = ascii "full"

abbrev pub unknown_word : List ℕ
unknown_word = ascii "unknown"

abbrev pub refused_word : List ℕ
refused_word = ascii "refused "

abbrev pub bad_word : List ℕ
bad_word = ascii "bad "

abbrev pub clear_word : List ℕ
clear_word = ascii " clear"

abbrev pub blocked_word : List ℕ
blocked_word = ascii " blocked"

-- two numbers with a space between them
abbrev pub two_numbers : ℕ → ℕ → List ℕ
two_numbers a b = decimal a ++ (32 ∷ decimal b)

-- `use` with base and zone; `site` with the number of sites held; `path` with N and the verdict; `masts` with the two heights; `taken`, `full`, `unknown`;
-- `refused` and the number; `bad` and the column
unfoldable pub words_of : Answer → List ℕ
words_of (Used base zone) = use_word ++ two_numbers base zone
words_of (Held count) = site_word ++ decimal count
words_of (Seen n clear) = path_word ++ (decimal n ++ cond clear clear_word blocked_word)
words_of (Planned a b) = masts_word ++ two_numbers a b
words_of Taken = taken_word
words_of Full = full_word
words_of Unknown = unknown_word
words_of (Refused number) = refused_word ++ decimal number
words_of (Bad column) = bad_word ++ decimal column

-- an answer is one line
abbrev pub said : Answer → List ℕ
said a = words_of a ++ (10 ∷ [])
