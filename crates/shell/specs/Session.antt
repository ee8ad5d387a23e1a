-- A session of the plan shell. Document 02, request e). Assumes nothing.
use Rattle.std.specs.Prelude.{Bool, true, false, cond, ◌&&◌, List, [], ◌∷◌, ◌++◌, ℕ, ltb, eqb, length}
use Rattle.ground.specs.Outcome.{Outcome, given, refused, refusal_number}
use Rattle.ground.specs.Measure.{metres}
use Rattle.ground.specs.declared.point.Point.{Point}
use Rattle.terrain.specs.Check.{checked}
use Rattle.masts.specs.declared.Masts.{Masts}
use Rattle.link.specs.Clear.{sight}
use Rattle.link.specs.declared.clear.Seen.{Seen}
use Rattle.plan.specs.Plan.{plan}
use Rattle.lines.specs.Spell.{«use», site, path, masts}
use Rattle.lines.specs.Line.{Reading, legal, bad, reading}
use Rattle.shell.specs.Answer.{said}
use Rattle.shell.specs.declared.answer.Answer.{Answer}
use Rattle.shell.specs.declared.answer.Answer.TheVariants as answer

-- a site: its name, easting and northing in metres
pub record Site : Type 0 where
  pub name : List ℕ
  pub easting : ℕ
  pub northing : ℕ

-- the file in use, with the base and zone of its name; none before any successful `use`
pub data InUse : Type 0 where
  none : InUse
  in_use : (bytes : List ℕ) (base zone : ℕ) → InUse

-- what the shell remembers from line to line
pub record State : Type 0 where
  pub file : InUse
  pub sites : List Site

-- at the start of a session
abbrev pub start : State
start = record { file = none; sites = [] }

-- what the folder holds under a name: bytes, or nothing that can be read
pub data Held : Type 0 where
  unreadable : Held
  holds : List ℕ → Held

-- what the folder holds under the name of each base and zone
abbrev pub Folder : Type 0
Folder = (base zone : ℕ) → Held

-- an answer, and what the shell then remembers
pub record Reply : Type 0 where
  pub answer : Answer
  pub state : State

-- an answer that changes nothing
abbrev pub only : State → Answer → Reply
only s a = record { answer = a; state = s }

-- `use` loads a file of up to 60 records, 61,440 bytes
abbrev pub most_bytes : ℕ
most_bytes = 61440

-- the refusal of a file: 1 where it can't be read or has over 60 records, else the number of the file check; 0 where it passes
abbrev pub refusal_of : Held → (base zone : ℕ) → ℕ
refusal_of unreadable base zone = 1
refusal_of (holds bytes) base zone = cond (ltb most_bytes (length bytes)) 1 (refusal_number (checked bytes base zone))

-- the bytes that were read
abbrev pub bytes_of : Held → List ℕ
bytes_of unreadable = []
bytes_of (holds bytes) = bytes

-- `use`: a file that passes takes the place of the earlier one; a refused `use` keeps the earlier file. Sites are kept.
unfoldable pub on_use : State → (base zone : ℕ) → Held → Reply
on_use s base zone held =
    cond (eqb (refusal_of held base zone) 0)
    (record { answer = answer.Used base zone; state = record { file = in_use (bytes_of held) base zone; sites = s.sites } })
    (only s (answer.Refused (refusal_of held base zone)))

-- two names are the same
unfoldable pub same_name : List ℕ → List ℕ → Bool
same_name [] [] = true
same_name [] (c ∷ w) = false
same_name (b ∷ v) [] = false
same_name (b ∷ v) (c ∷ w) = eqb b c && same_name v w

-- the site of a name, or none
pub data Found : Type 0 where
  found : Site → Found
  missing : Found

-- the first site of this name
unfoldable pub site_of : List ℕ → List Site → Found
site_of name [] = missing
site_of name (s ∷ sites) = cond (same_name s.name name) (found s) (site_of name sites)

-- at most 32 sites
abbrev pub most_sites : ℕ
most_sites = 32

-- a name that no site has, where there is room: the sites with this one after the others
abbrev pub added : State → Site → Reply
added s new =
    let sites : List Site = s.sites ++ (new ∷ []) in
    record { answer = answer.Held (length sites); state = record { file = s.file; sites = sites } }

-- `site`: `taken` for a name in use, then `full`
unfoldable pub on_site : State → Site → Reply
on_site s new = go (site_of new.name s.sites)
  where
    go : Found → Reply
    go (found _) = only s answer.Taken
    go missing = cond (ltb (length s.sites) most_sites) (added s new) (only s answer.Full)

-- a site as a point of the zone of the file in use
abbrev pub point_of : (zone : ℕ) → Site → Point
point_of zone s = record { zone = zone; easting = metres s.easting; northing = metres s.northing }

-- the answer for two sites, of the file in use; `refused 1` before any successful `use`
abbrev pub in_file : InUse → (List ℕ → ℕ → ℕ → Point → Point → Answer) → Site → Site → Answer
in_file none ask first second = answer.Refused 1
in_file (in_use bytes base zone) ask first second = ask bytes base zone (point_of zone first) (point_of zone second)

-- names are looked up before all else: `unknown` for a missing name
abbrev pub between : InUse → (List ℕ → ℕ → ℕ → Point → Point → Answer) → Found → Found → Answer
between file ask (found first) (found second) = in_file file ask first second
between file ask (found first) missing = answer.Unknown
between file ask missing second = answer.Unknown

-- `path` with N and the verdict on masts 0 and 0, or `refused` and the number
abbrev pub seen : Outcome Seen → Answer
seen (given s) = answer.Seen s.n s.clear
seen (refused number place) = answer.Refused number

unfoldable pub on_path : State → (first second : List ℕ) → Answer
on_path s first second =
    between s.file (λ file base zone p q. seen (sight file base zone p q 0 0)) (site_of first s.sites) (site_of second s.sites)

-- `masts` with the two heights, or `refused` and the number
abbrev pub planned : Outcome Masts → Answer
planned (given m) = answer.Planned m.first m.second
planned (refused number place) = answer.Refused number

unfoldable pub on_masts : State → (first second : List ℕ) (a b : ℕ) → Answer
on_masts s first second a b =
    between s.file (λ file base zone p q. planned (plan file base zone p q a b)) (site_of first s.sites) (site_of second s.sites)

-- what a line answers, and what the shell then remembers
abbrev pub answered : Folder → State → Reading → Reply
answered folder s (legal («use» base zone)) = on_use s base zone (folder base zone)
answered folder s (legal (site name easting northing)) = on_site s (record { name = name; easting = easting; northing = northing })
answered folder s (legal (path first second)) = only s (on_path s first second)
answered folder s (legal (masts first second a b)) = only s (on_masts s first second a b)
answered folder s (bad column) = only s (answer.Bad column)

-- The lines of an input, of which the first begins with these bytes: each is ended by a line feed or, if not empty, by the end of the input.
unfoldable pub lines_from : List ℕ → List ℕ → List (List ℕ)
lines_from [] [] = []
lines_from (b ∷ line) [] = (b ∷ line) ∷ []
lines_from line (c ∷ input) = cond (eqb c 10) (line ∷ lines_from [] input) (lines_from (line ++ (c ∷ [])) input)

-- the answers to some lines, one after the other
unfoldable pub answers : Folder → State → List (List ℕ) → List ℕ
answers folder s [] = []
answers folder s (line ∷ lines) =
    let r : Reply = answered folder s (reading line) in
    said r.answer ++ answers folder r.state lines

-- a whole session: from what the folder holds under each name, and the input, to the output
unfoldable pub session : Folder → List ℕ → List ℕ
session folder input = answers folder start (lines_from [] input)
