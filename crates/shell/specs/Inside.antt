-- What the functions inside this crate tell each other, and the program that calls them, on the way to a session. A reader of the session may pass over this
-- file. Assumes nothing.
use Rattle.std.specs.Prelude.{◌≡◌, true, cond, List, [], ◌∷◌, ◌++◌, ℕ, ◌+◌, ◌-◌, ◌≤◌, ◌<◌, eqb, length, take, drop, get_or}
use Rattle.std.specs.Prelude.{Option, Some, None, Result, Ok, Err, is_ok, set}
use Rattle.std.specs.Borrow.{Bor}
use Rattle.ground.specs.Measure.{metres}
use Rattle.ground.specs.Refusal.{number}
use Rattle.ground.specs.declared.refusal.Refusal.{Refusal}
use Rattle.ground.specs.declared.point.Point.{Point}
use Rattle.lines.specs.Spell.{«use», site, path, masts, is_name}
use Rattle.lines.specs.Line.{Reading, legal, bad, reading}
use Rattle.lines.specs.Key.{key, keyed}
use Rattle.lines.specs.declared.Line.{Line}
use Rattle.lines.specs.declared.Line.TheVariants as line
use Rattle.shell.specs.Session.{Site, InUse, none, in_use, State, Held, unreadable, holds, Folder, refusal_of}
use Rattle.shell.specs.Session.{site_of, between, on_site, on_path, on_masts, answered, answers}
use Rattle.shell.specs.Pieces.{most_kept, ended_from, left_from, after}
use Rattle.shell.specs.declared.answer.Answer.{Answer}
use Rattle.shell.specs.declared.answer.Answer.TheVariants as answer
use Rattle.shell.specs.declared.answer.Answers.{Answers}
use Rattle.shell.specs.declared.sites.Site as entry
use Rattle.shell.specs.declared.sites.Sites.{Sites}
use Rattle.shell.specs.declared.command.FileName.{FileName}
use Rattle.shell.specs.declared.command.Shell.{Shell}
use Rattle.shell.specs.declared.command.Ends.{Ends}
use Rattle.shell.specs.declared.feed.Input.{Input}
use Rattle.shell.specs.declared.feed.Step.{Step}
use Rattle.shell.specs.declared.feed.Next as next_type
use Rattle.shell.specs.declared.feed.Next.TheVariants as next

-- entry i of the sites as the program has them
abbrev pub entry_at : Sites → ℕ → entry.Site
entry_at sites i = get_or sites.entries i (record { key = 0; easting = 0; northing = 0 })

-- the place of a key among the sites that are held, at most 32 of them; none where it is not among them
abbrev pub Finds : Sites → (key : ℕ) → Option ℕ → Type 0
Finds sites key (Some r) =
    (r < 32) × ((r < sites.count) × (((entry_at sites r).key ≡ key) × ((i : ℕ) → i < r → (entry_at sites i).key ≡ key → ⊥)))
Finds sites key None = (i : ℕ) → i < sites.count → i < 32 → (entry_at sites i).key ≡ key → ⊥

-- the sites with a new one after those that are held
abbrev pub with_entry : Sites → entry.Site → Sites
with_entry sites new = record { entries = set sites.entries sites.count new; count = sites.count + 1 }

-- the room for answers, of 65,536 bytes, has room for n more after those that wait
abbrev pub Room : Answers → ℕ → Type 0
Room answers n = (length answers.bytes ≡ 65536) × (answers.filled + n ≤ 65536)

-- the bytes after the first `at` of a list are a word's, up to r, and its length stays
pub record Written (word before : List ℕ) (at : ℕ) (after : List ℕ) (r : ℕ) : Type 0 where
  pub place : r ≡ at + length word
  pub bytes : take r after ≡ take at before ++ word
  pub long : length after ≡ length before

-- a word is written after the answers that wait
abbrev pub Adds : List ℕ → Answers → Answers → Type 0
Adds word before after = Written word before.bytes before.filled after.bytes after.filled

-- what was found under a name: bytes where it could be read
abbrev pub held_of : Option (Bor (List ℕ)) → Held
held_of (Some bytes) = holds bytes.now
held_of None = unreadable

-- a site as a point of a zone
abbrev pub point_in : ℕ → entry.Site → Point
point_in zone s = record { zone = zone; easting = metres s.easting; northing = metres s.northing }

-- the file in use, by its name, where there is one, and its bytes
abbrev pub file_of : Option FileName → List ℕ → InUse
file_of (Some name) bytes = in_use bytes name.base name.zone
file_of None bytes = none

-- what is said: what was asked for, or what is said in its place
abbrev pub said_by : Result Answer Answer → Answer
said_by (Ok answer) = answer
said_by (Err answer) = answer

-- site i of a list
unfoldable pub site_at : List Site → ℕ → Site
site_at sites i = get_or sites i (record { name = []; easting = 0; northing = 0 })

-- a site as the program has it: its name as its key
abbrev pub entry_of : Site → entry.Site
entry_of s = record { key = key s.name; easting = s.easting; northing = s.northing }

-- a shell and the bytes of the file in use hold a state: the first entries are its sites, each name as its key
pub record Holds (shell : Shell) (bytes : List ℕ) (s : State) : Type 0 where
  pub count : shell.sites.count ≡ length s.sites
  pub most : length s.sites ≤ 32
  pub long : length shell.sites.entries ≡ 32
  pub named : (i : ℕ) → i < length s.sites → is_name (site_at s.sites i).name ≡ true
  pub entries : (i : ℕ) → i < length s.sites → entry_at shell.sites i ≡ entry_of (site_at s.sites i)
  pub file : s.file ≡ file_of shell.file bytes

-- no sites and no file, whatever the entries hold
pub record Starts (shell : Shell) : Type 0 where
  pub count : shell.sites.count ≡ 0
  pub long : length shell.sites.entries ≡ 32
  pub file : shell.file ≡ None

-- what is said of a `use`
abbrev pub used_says : Result Answer Refusal → Answer
used_says (Ok answer) = answer
used_says (Err refusal) = answer.Refused (number refusal)

-- the answer to a `use`: a refusal changes nothing; a file that passes is from now on in use
pub record Uses (before : Shell) (held : Held) (name : FileName) (after : Shell) (r : Result Answer Refusal) : Type 0 where
  pub passed : is_ok r ≡ eqb (refusal_of held name.base name.zone) 0
  pub answer : used_says r ≡ cond (eqb (refusal_of held name.base name.zone) 0) (answer.Used name.base name.zone) (answer.Refused (refusal_of held name.base name.zone))
  pub shell : after ≡ cond (eqb (refusal_of held name.base name.zone) 0) (record { sites = before.sites; file = Some name }) before

-- a name is written as names are
abbrev pub Named : List ℕ → Type 0
Named w = is_name w ≡ true

-- the answer to a site, whatever state is held: that of the session, and its state is held afterwards
abbrev pub AnswersSite : Shell → entry.Site → Shell → Result Answer Answer → Type 0
AnswersSite before new after r =
    (file : List ℕ) (s : State) (site : Site) → Holds before file s → Named site.name → new ≡ entry_of site →
    (said_by r ≡ (on_site s site).answer) × Holds after file (on_site s site).state

-- what the ends of a path come to: what is asked of the points, or what is said in its place
abbrev pub ends_means : Result Ends Answer → (ℕ → ℕ → Point → Point → Answer) → Answer
ends_means (Ok ends) ask = ask ends.name.base ends.name.zone ends.first ends.second
ends_means (Err answer) ask = answer

-- two names are looked up as the session does, whatever state is held and whatever is asked of the points
abbrev pub LooksUp : Shell → (k l : ℕ) → Result Ends Answer → Type 0
LooksUp shell k l r =
    (file : List ℕ) (s : State) (first second : List ℕ) → Holds shell file s → Named first → Named second → k ≡ key first → l ≡ key second →
    (ask : List ℕ → ℕ → ℕ → Point → Point → Answer) →
    ends_means r (ask file) ≡ between s.file ask (site_of first s.sites) (site_of second s.sites)

-- the answer to a path, and to masts, whatever state is held
abbrev pub AnswersPath : Shell → (k l : ℕ) → List ℕ → Result Answer Answer → Type 0
AnswersPath shell k l file r =
    (s : State) (first second : List ℕ) → Holds shell file s → Named first → Named second → k ≡ key first → l ≡ key second →
    said_by r ≡ on_path s first second

abbrev pub AnswersMasts : Shell → (k l a b : ℕ) → List ℕ → Result Answer Answer → Type 0
AnswersMasts shell k l a b file r =
    (s : State) (first second : List ℕ) → Holds shell file s → Named first → Named second → k ≡ key first → l ≡ key second →
    said_by r ≡ on_masts s first second a b

-- the names of a reading are written as names are, and it is no `use`
abbrev pub Asks : Reading → Type 0
Asks (legal («use» base zone)) = ⊥
Asks (legal (site name easting northing)) = Named name
Asks (legal (path first second)) = Named first × Named second
Asks (legal (masts first second a b)) = Named first × Named second
Asks (bad column) = Unit {0}

-- a line that is no `use`
abbrev pub AsksNoFile : Line → Type 0
AsksNoFile (line.Use base zone) = ⊥
AsksNoFile other = Unit {0}

-- the answer to a line that is no `use`, whatever state is held and whatever the folder holds; or the name of the file that it asks for
abbrev pub Replies : Line → Shell → List ℕ → Shell → Result Answer FileName → Type 0
Replies said before file after (Ok answer) =
    AsksNoFile said
    × ((folder : Folder) (s : State) (q : Reading) → Holds before file s → keyed q ≡ Ok said → Asks q →
    (answer ≡ (answered folder s q).answer) × Holds after file (answered folder s q).state)
Replies said before file after (Err name) = (said ≡ line.Use name.base name.zone) × (after ≡ before)

-- Why the lines of an input are answered no further, and what is then left of those that are ended: a `use`, for whose answer there is room, and those from
-- the place on; none, and none is ended from the place on; or, where there is no room for an answer, those from the place on.
abbrev pub Stops : next_type.Next → List ℕ → (at filled : ℕ) → List (List ℕ) → Type 0
Stops (next.Use name) input at filled rest =
    (filled ≤ 65519)
    × ((line : List ℕ) × ((reading line ≡ legal («use» name.base name.zone)) × (rest ≡ line ∷ ended_from [] (drop at input))))
Stops next.More input at filled rest = (rest ≡ []) × (ended_from [] (drop at input) ≡ [])
Stops next.Full input at filled rest = (rest ≡ ended_from [] (drop at input)) × (65519 < filled)

-- What `answer_lines` does with the lines that are ended in the input from a place on: the first of them are answered, in whatever state and whatever the
-- folder holds, and the others are left.
pub record Feeds (input : List ℕ) (from : ℕ) (shell : Shell) (file : List ℕ) (waiting : Answers) (shell' : Shell) (waiting' : Answers) (r : Step)
    : Type 0 where
  pub lines : List (List ℕ)
  pub rest : List (List ℕ)
  pub ended : ended_from [] (drop from input) ≡ lines ++ rest
  pub stops : Stops r.next input r.at waiting'.filled rest
  pub left : left_from [] (drop from input) ≡ left_from [] (drop r.at input)
  pub answered : (folder : Folder) (s : State) → Holds shell file s
      → Adds (answers folder s lines) waiting waiting' × Holds shell' file (after folder s lines)
  pub room : waiting.filled ≤ 65536 → waiting'.filled ≤ 65536
  pub long : length waiting'.bytes ≡ length waiting.bytes

-- the bytes from a place to before the end, at most 48, are at the front
pub record Keeps (input : List ℕ) (from end : ℕ) (exit : List ℕ) (r : ℕ) : Type 0 where
  pub bytes : take r exit ≡ take most_kept (take (end - from) (drop from input))
  pub count : r ≡ length (take most_kept (take (end - from) (drop from input)))
  pub most : r ≤ 48
  pub long : length exit ≡ length input

-- a line that is not empty, with the line feed that ends it
abbrev pub ended_line : List ℕ → List ℕ
ended_line [] = []
ended_line (b ∷ line) = (b ∷ line) ++ (10 ∷ [])

-- what was kept of a line is at the front, and is ended
pub record EndsKept (input : List ℕ) (kept : ℕ) (exit : List ℕ) (r : ℕ) : Type 0 where
  pub bytes : take r exit ≡ ended_line (take kept input)
  pub most : r ≤ 49
  pub long : length exit ≡ length input

-- for the programs: what is read fits its room, and so does what waits to be written
pub record HasRead (input : Input) : Type 0 where
  pub end : input.end ≤ 65536
  pub long : length input.bytes ≡ 65536

pub record Waits (waiting : Answers) : Type 0 where
  pub filled : waiting.filled ≤ 65536
  pub long : length waiting.bytes ≡ 65536
