-- The lines of the plan shell, by how they are spelled. Document 02, request e): `use NAME4`, `site NAME E N`, `path NAME NAME`, `masts NAME NAME A B`,
-- single spaces. Bytes are ASCII. Assumes nothing.
use Rattle.std.specs.Prelude.{◌≡◌, Bool, true, false, cond, ◌&&◌, ◌||◌, List, [], ◌∷◌, ◌++◌, ℕ, ◌+◌, ◌-◌, ◌*◌, leb, eqb, length}
use Prim.Native.Char.{code}
use Prim.Native.String as text
use Prim.Native.String.{String}
use Rattle.ground.specs.Boundary.{named}
use Rattle.ground.specs.Name.{name_of}

-- what a line can ask for: `use` has the base and the zone of its file's name
pub data Command : Type 0 where
  «use» : (base zone : ℕ) → Command
  site : (name : List ℕ) (easting northing : ℕ) → Command
  path : (first second : List ℕ) → Command
  masts : (first second : List ℕ) (a b : ℕ) → Command

-- the bytes of a text
abbrev pub ascii : String → List ℕ
ascii text.[] = []
ascii (text.◌∷◌ c s) = code c ∷ ascii s

-- capitals are A (65) to Z (90), digits 0 (48) to 9 (57)
abbrev pub capital : ℕ → Bool
capital b = leb 65 b && leb b 90

abbrev pub digit : ℕ → Bool
digit b = leb 48 b && leb b 57

-- capitals, digits or hyphens (45)
abbrev pub in_name : ℕ → Bool
in_name b = capital b || (digit b || eqb b 45)

-- every byte passes the test
unfoldable pub all : (ℕ → Bool) → List ℕ → Bool
all test [] = true
all test (b ∷ w) = test b && all test w

-- a NAME is a capital letter, then up to 11 capitals, digits or hyphens
unfoldable pub is_name : List ℕ → Bool
is_name [] = false
is_name (b ∷ w) = capital b && (all in_name w && leb (length w) 11)

-- numbers are 1 to 7 digits with no leading zero unless the number is 0: a 0 that comes first stands alone
unfoldable pub is_number : List ℕ → Bool
is_number [] = false
is_number (b ∷ w) = digit b && (all digit w && leb (length w) (cond (eqb b 48) 0 6))

-- the number that digits say, after those that said `before`
unfoldable pub value_after : ℕ → List ℕ → ℕ
value_after before [] = before
value_after before (b ∷ w) = value_after (10 * before + (b - 48)) w

-- the number that digits say
abbrev pub value : List ℕ → ℕ
value w = value_after 0 w

-- these bytes spell the number n
pub record Numeral (n : ℕ) (w : List ℕ) : Type 0 where
  pub well : is_number w ≡ true
  pub says : value w ≡ n

-- the words that lines begin with, each with the space after it
abbrev pub use_word : List ℕ
use_word = ascii "use "

abbrev pub site_word : List ℕ
site_word = ascii "site "

abbrev pub path_word : List ℕ
path_word = ascii "path "

abbrev pub masts_word : List ℕ
masts_word = ascii "masts "

-- two words with a single space (32) between them
infixr 5 ◌␣◌
abbrev pub ◌␣◌ : List ℕ → List ℕ → List ℕ
v ␣ w = v ++ (32 ∷ w)

-- These bytes spell the `use` of the file of a base and a zone: NAME4 is a file name as in document 01.
pub record SpellsUse (base zone : ℕ) (line : List ℕ) : Type 0 where
  pub file : named base zone ≡ true
  pub is : line ≡ use_word ++ name_of base zone

-- these bytes spell a site: its name, its easting e and its northing n
pub record SpellsSite (name : List ℕ) (easting northing : ℕ) (line : List ℕ) : Type 0 where
  pub e : List ℕ
  pub n : List ℕ
  pub named : is_name name ≡ true
  pub east : Numeral easting e
  pub north : Numeral northing n
  pub is : line ≡ site_word ++ (name ␣ e ␣ n)

-- these bytes spell the path between two sites
pub record SpellsPath (first second line : List ℕ) : Type 0 where
  pub named : is_name first ≡ true
  pub other : is_name second ≡ true
  pub is : line ≡ path_word ++ (first ␣ second)

-- these bytes spell the masts of two sites, with the limits la and lb
pub record SpellsMasts (first second : List ℕ) (a b : ℕ) (line : List ℕ) : Type 0 where
  pub la : List ℕ
  pub lb : List ℕ
  pub named : is_name first ≡ true
  pub other : is_name second ≡ true
  pub limit : Numeral a la
  pub limit2 : Numeral b lb
  pub is : line ≡ masts_word ++ (first ␣ second ␣ la ␣ lb)

-- these bytes spell the command
abbrev pub Spells : Command → List ℕ → Type 0
Spells («use» base zone) line = SpellsUse base zone line
Spells (site name easting northing) line = SpellsSite name easting northing line
Spells (path first second) line = SpellsPath first second line
Spells (masts first second a b) line = SpellsMasts first second a b line

-- a line is legal if it spells a command
pub record Legal (line : List ℕ) : Type 0 where
  pub command : Command
  pub spells : Spells command line
