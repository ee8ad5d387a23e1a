-- The number that stands for a name in the program, below 2^64: the characters of a name are the digits 1 to 37 of a number in base 38. That no two names have
-- one key is shown in proofs/Laws/Key.antt. Assumes nothing.
use Rattle.std.specs.Prelude.{cond, List, [], ◌∷◌, ℕ, ◌+◌, ◌-◌, ◌*◌, eqb, Result, Ok, Err}
use Rattle.lines.specs.Spell.{Command, «use», site, path, masts, capital, digit}
use Rattle.lines.specs.Line.{Reading, legal, bad}
use Rattle.lines.specs.declared.Line.{Line}
use Rattle.lines.specs.declared.Line.TheVariants as line

-- a character of a name as a digit: A to Z are 1 to 26, 0 to 9 are 27 to 36, the hyphen is 37; 0 is no character of a name
unfoldable pub letter : ℕ → ℕ
letter b = cond (capital b) (b - 64) (cond (digit b) (b - 21) (cond (eqb b 45) 37 0))

-- the key of a name whose first characters have this key
unfoldable pub key_after : ℕ → List ℕ → ℕ
key_after before [] = before
key_after before (b ∷ w) = key_after (38 * before + letter b) w

-- the key of a name
abbrev pub key : List ℕ → ℕ
key w = key_after 0 w

-- a command as the program has it: each name as its key
abbrev pub keyed_command : Command → Line
keyed_command («use» base zone) = line.Use base zone
keyed_command (site name easting northing) = line.Site (key name) easting northing
keyed_command (path first second) = line.Path (key first) (key second)
keyed_command (masts first second a b) = line.Masts (key first) (key second) a b

-- a line's reading as the program has it: the command that it says; or the column at which it is bad
abbrev pub keyed : Reading → Result Line ℕ
keyed (legal command) = Ok (keyed_command command)
keyed (bad column) = Err column
