-- What the functions inside this crate tell each other, on the way to the promise of `read_line`. A reader of the promises may pass over this file.
-- Assumes nothing.
use Rattle.std.specs.Prelude.{◌≡◌, cond, ◌&&◌, List, ℕ, ◌+◌, ◌-◌, ◌≤◌, leb, eqb, length, get_or, Option, Some, None, Result, Ok, Err}
use Rattle.lines.specs.Spell.{Command, in_name}
use Rattle.lines.specs.Line.{Part, part, stopped, nothing, two_names, reading}
use Rattle.lines.specs.Key.{letter, key, keyed, keyed_command}
use Rattle.lines.specs.Text.{line_at}
use Rattle.lines.specs.declared.word.Token.{Token}
use Rattle.lines.specs.declared.Line.{Line}
use Rattle.lines.specs.declared.Read.{Read}

-- a character of a name as a digit of its key; none for another byte
abbrev pub figure : ℕ → Option ℕ
figure b = cond (in_name b) (Some (letter b)) None

-- how far the byte at a place is above the first of some, of which it is one, a line feed past the end; the place, where it is none
abbrev pub byte_from : List ℕ → ℕ → ℕ → ℕ → Result ℕ ℕ
byte_from bytes at first last = let b = get_or bytes at 10 in cond (leb first b && leb b last) (Ok (b - first)) (Err at)

-- two names, one after the other
pub record TwoNames : Type 0 where
  pub first : List ℕ
  pub second : List ℕ

-- What reading a part from this place on comes to in the program: what the part says, as the program has it, and the place after it; or the place of the
-- first byte that is not right.
abbrev pub found : {A B : Type 0} → (A → B) → ℕ → Part A → Result (Token B) ℕ
found says from (part a n) = Ok (record { value = says a; at = from + n })
found says from (stopped k) = Err (from + k)

-- a name
abbrev pub word_from : ℕ → Part (List ℕ) → Result (Token ℕ) ℕ
word_from = found key

-- a number
abbrev pub number_from : ℕ → Part ℕ → Result (Token ℕ) ℕ
number_from = found λ v. v

-- two names
abbrev pub keys : TwoNames → ℕ × ℕ
keys t = (key t.first, key t.second)

abbrev pub names_from : ℕ → Part TwoNames → Result (Token (ℕ × ℕ)) ℕ
names_from = found keys

-- a command
abbrev pub said_from : ℕ → Part Command → Result (Token Line) ℕ
said_from = found keyed_command

-- a command that was read, where the line ends after it
abbrev pub ended_from : List ℕ → Result (Token Line) ℕ → Result (Token Line) ℕ
ended_from bytes (Ok said) = cond (eqb (get_or bytes said.at 10) 10) (Ok said) (Err said.at)
ended_from bytes (Err at) = Err at

-- where the bytes of a word end; or where those that are right do
abbrev pub text_from : ℕ → Part ℕ → Result ℕ ℕ
text_from from (part v n) = Ok (from + n)
text_from from (stopped k) = Err (from + k)

-- What `read_line` says of the line that begins at a place: its reading, and some place in it, from which on its end is looked for.
pub record ReadsLine (bytes : List ℕ) (from : ℕ) (r : Read) : Type 0 where
  pub line : r.line ≡ keyed (reading (line_at bytes from))
  pub after : from ≤ r.at
  pub within : r.at ≤ from + length (line_at bytes from)

-- the two names of `path` and `masts`
unfoldable pub both_names : List ℕ → Part TwoNames
both_names = two_names λ m n. nothing (record { first = m; second = n })
