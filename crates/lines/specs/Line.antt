-- The reading of a line of the plan shell, part by part from its start. Document 02, request e). That exactly the legal lines are accepted, each with the
-- command that it spells, and that the column of every other is the one that `BadAfter` says, is shown in proofs/Laws/Line.antt. Assumes nothing.
use Rattle.std.specs.Prelude.{Bool, cond, ◌&&◌, ◌||◌, List, [], ◌∷◌, ℕ, zero, suc, ◌+◌, ◌-◌, ◌*◌, leb, eqb, length, take, drop}
use Rattle.ground.specs.Boundary.{is_zone}
use Rattle.lines.specs.Spell.{Command, «use», site, path, masts, ascii, capital, digit, in_name, value}

-- What reading a part from the start of some bytes comes to: its value and the number of bytes that spell it; or the number of bytes that are right,
-- where no part of its kind begins so.
pub data Part (A : Type 0) : Type 0 where
  part : A → ℕ → Part A
  stopped : ℕ → Part A

-- a part that comes n bytes later
abbrev pub later : {A : Type 0} → ℕ → Part A → Part A
later n (part a m) = part a (n + m)
later n (stopped k) = stopped (n + k)

-- the second part, after the first was read
abbrev pub next : {A B : Type 0} → List ℕ → Part A → (A → List ℕ → Part B) → Part B
next bytes (part a n) second = later n (second a (drop n bytes))
next bytes (stopped k) second = stopped k

-- one part, then another
infixr 10 ◌then◌
abbrev pub ◌then◌ : {A B : Type 0} → (List ℕ → Part A) → (A → List ℕ → Part B) → List ℕ → Part B
(first then second) bytes = next bytes (first bytes) second

-- no bytes
abbrev pub nothing : {A : Type 0} → A → List ℕ → Part A
nothing a bytes = part a 0

-- one byte that passes the test
unfoldable pub one : (ℕ → Bool) → List ℕ → Part ℕ
one test [] = stopped 0
one test (b ∷ bytes) = cond (test b) (part b 1) (stopped 0)

-- how many bytes at the start pass the test, of at most n
unfoldable pub run : (ℕ → Bool) → ℕ → List ℕ → ℕ
run test zero bytes = 0
run test (suc n) [] = 0
run test (suc n) (b ∷ bytes) = cond (test b) (suc (run test n bytes)) 0

-- the bytes at the start that pass the test, at most n
unfoldable pub some : (ℕ → Bool) → ℕ → List ℕ → Part (List ℕ)
some test n bytes = part (take (run test n bytes) bytes) (run test n bytes)

-- these bytes and no others
unfoldable pub text : List ℕ → List ℕ → Part ℕ
text [] = nothing 0
text (b ∷ w) = one (eqb b) then λ _. text w

-- a NAME
unfoldable pub name : List ℕ → Part (List ℕ)
name = one capital then λ b. some in_name 11 then λ w. nothing (b ∷ w)

-- a number
unfoldable pub number : List ℕ → Part ℕ
number = one digit then λ b. some digit (cond (eqb b 48) 0 6) then λ w. nothing (value (b ∷ w))

-- a number after a space
unfoldable pub spaced_number : List ℕ → Part ℕ
spaced_number = one (eqb 32) then λ _. number

-- the zone that two digits say
abbrev pub zone_of : ℕ → ℕ → ℕ
zone_of tens units = 10 * (tens - 48) + (units - 48)

-- what follows `use `: N, the letter A to U, and two digits of a zone, of which the first is 0 to 6
unfoldable pub use_rest : List ℕ → Part Command
use_rest =
    one (eqb 78) then λ _. one (λ c. leb 65 c && leb c 85) then λ c. one (λ d. leb 48 d && leb d 54) then λ d.
    one (λ e. digit e && is_zone (zone_of d e)) then λ e. nothing («use» (4 * (c - 65)) (zone_of d e))

-- what follows `site `, `path ` and `masts `
unfoldable pub site_rest : List ℕ → Part Command
site_rest = name then λ n. spaced_number then λ e. spaced_number then λ m. nothing (site n e m)

unfoldable pub two_names : {A : Type 0} → (List ℕ → List ℕ → List ℕ → Part A) → List ℕ → Part A
two_names rest = name then λ m. one (eqb 32) then λ _. name then λ n. rest m n

unfoldable pub path_rest : List ℕ → Part Command
path_rest = two_names λ m n. nothing (path m n)

unfoldable pub masts_rest : List ℕ → Part Command
masts_rest = two_names λ m n. spaced_number then λ a. spaced_number then λ b. nothing (masts m n a b)

-- what follows the first byte of a line: u, s, p, or else m
unfoldable pub after_first : ℕ → List ℕ → Part Command
after_first b =
    cond (eqb b 117) (text (ascii "se ") then λ _. use_rest)
    (cond (eqb b 115) (text (ascii "ite ") then λ _. site_rest)
    (cond (eqb b 112) (text (ascii "ath ") then λ _. path_rest)
    (text (ascii "asts ") then λ _. masts_rest)))

-- a command
unfoldable pub command : List ℕ → Part Command
command = one (λ b. eqb b 117 || (eqb b 115 || (eqb b 112 || eqb b 109))) then after_first

-- what a line is: legal, and the command that it says; or bad, and the column
pub data Reading : Type 0 where
  legal : Command → Reading
  bad : ℕ → Reading

-- a line of this length with this command at its start: no byte may follow
abbrev pub ended : ℕ → Part Command → Reading
ended length (part c n) = cond (eqb n length) (legal c) (bad (n + 1))
ended length (stopped k) = bad (k + 1)

-- the reading of a line
unfoldable pub reading : List ℕ → Reading
reading line = ended (length line) (command line)
