-- Document 02, request e), sentence by sentence, of whatever state: which answer comes first, what a `use` loads, what a path and masts are asked of, and what
-- each line leaves as it was. And the shell at its start holds the session's start. From the definitions of specs/Session.antt. Assumes nothing.
use mathlib.Core.Path.{◌≡◌, refl}
use mathlib.Core.List.{List}
use Rattle.std.specs.Prelude.{None, replicate}
use Rattle.shell.specs.declared.sites.Site.{Site as Entry}
use Prim.Native.Nat.{ℕ, ◌*◌, ◌≤◌, ◌<◌}
use native.Mathlib.Omega.{arith}
use lib.ListN.{length}
use borrow.Author.Tests.{eq-eqb, lt-ltb, le-ltb}
use Rattle.ground.specs.Outcome.{Outcome, given, refused, ◌and_then◌, refusal_number}
use Rattle.ground.specs.declared.point.Point.{Point}
use Rattle.terrain.specs.Check.{checked}
use Rattle.path.specs.Path.{ask_masts}
use Rattle.profile.specs.Profile.{Link, linked}
use Rattle.link.specs.declared.clear.Seen.{Seen}
use Rattle.link.specs.Clear.{clear, sight, verdict}
use Rattle.plan.specs.Plan.{plan}
use Rattle.lines.specs.Spell.{path, masts}
use Rattle.lines.specs.Line.{legal, bad, reading}
use Rattle.shell.specs.Session.{Site, State, none, in_use, start, Held, holds, Folder, only, most_bytes, most_sites, refusal_of, bytes_of, on_use}
use Rattle.shell.specs.Session.{found, missing, site_of, added, on_site, point_of, seen, on_path, planned, on_masts, answered}
use Rattle.shell.specs.Inside.{Holds, Starts}
use Rattle.shell.specs.declared.command.Shell.{Shell}
use Rattle.shell.specs.declared.answer.Answer.TheVariants as answer

-- at most 32 sites, and files of up to 60 records of 1024 bytes
pub most_sites_lem : most_sites ≡ 32
most_sites_lem = refl

pub most_bytes_lem : most_bytes ≡ 60 * 1024
most_bytes_lem = refl

-- `taken` for a name in use, however many sites there are
pub taken_first : (s : State) (new p : Site) → site_of new.name s.sites ≡ found p → on_site s new ≡ only s answer.Taken
unfolding on_site
taken_first s new p e = rw e

-- then `full`, exactly where there are 32
pub site_added : (s : State) (new : Site) → site_of new.name s.sites ≡ missing → length s.sites < 32 → on_site s new ≡ added s new
unfolding on_site
site_added s new e h = rw e (rw (lt-ltb _ _ h))

pub site_full : (s : State) (new : Site) → site_of new.name s.sites ≡ missing → 32 ≤ length s.sites → on_site s new ≡ only s answer.Full
unfolding on_site
site_full s new e h = rw e (rw (le-ltb _ _ h))

-- Of two names, whatever the file in use:
module _ (s : State) (f g : List ℕ) where
  -- `unknown` for a missing name comes before all else
  pub unknown_first : site_of f s.sites ≡ missing → (a b : ℕ) → (on_path s f g ≡ answer.Unknown) × (on_masts s f g a b ≡ answer.Unknown)
  unfolding on_path on_masts
  unknown_first e a b = (rw e, rw e)

  module _ (p : Site) (e : site_of f s.sites ≡ found p) where
    pub unknown_second : site_of g s.sites ≡ missing → (a b : ℕ) → (on_path s f g ≡ answer.Unknown) × (on_masts s f g a b ≡ answer.Unknown)
    unfolding on_path on_masts
    unknown_second h a b = (rw (e, h), rw (e, h))

    module _ (q : Site) (h : site_of g s.sites ≡ found q) where
      -- then `refused 1` before any successful `use`
      pub before_use : s.file ≡ none → (a b : ℕ) → (on_path s f g ≡ answer.Refused 1) × (on_masts s f g a b ≡ answer.Refused 1)
      unfolding on_path on_masts
      before_use n a b = (rw (e, h, n), rw (e, h, n))

      -- then what the library says of the two sites, in the zone of the file in use: a path with both masts 0, masts with the limits in their order
      pub path_asks : {bytes : List ℕ} {base zone : ℕ} → s.file ≡ in_use bytes base zone
          → on_path s f g ≡ seen (sight bytes base zone (point_of zone p) (point_of zone q) 0 0)
      unfolding on_path
      path_asks i = rw (e, h, i)

      pub masts_asks : {bytes : List ℕ} {base zone : ℕ} (a b : ℕ) → s.file ≡ in_use bytes base zone
          → on_masts s f g a b ≡ planned (plan bytes base zone (point_of zone p) (point_of zone q) a b)
      unfolding on_masts
      masts_asks a b i = rw (e, h, i)

-- what is seen along a path is the verdict, beside N: the same refusals, and clear where the verdict is
pub sight_is_verdict : (bytes : List ℕ) (base zone : ℕ) (p q : Point) (a b : ℕ)
    → verdict bytes base zone p q a b ≡ (sight bytes base zone p q a b and_then λ w. given w.clear)
unfolding sight verdict
sight_is_verdict bytes base zone p q a b = go (linked bytes base zone (ask_masts p q a b))
  where
    see : Link → Outcome Seen
    see l = given (record { n = l.path.n; clear = clear l a b })

    go : (o : Outcome Link) → (o and_then λ l. given (clear l a b)) ≡ (o and_then see and_then λ w. given w.clear)
    go (given l) = refl
    go (refused number place) = refl

-- a file that can be read and has at most 60 records has the number of the file check; any other is refused with 1
pub refused_as_checked : (bytes : List ℕ) (base zone : ℕ) → length bytes ≤ 61440 → refusal_of (holds bytes) base zone ≡ refusal_number (checked bytes base zone)
refused_as_checked bytes base zone h = rw (le-ltb _ _ h)

pub refused_too_long : (bytes : List ℕ) (base zone : ℕ) → 61440 < length bytes → refusal_of (holds bytes) base zone ≡ 1
refused_too_long bytes base zone h = rw (lt-ltb _ _ h)

-- a `use` that passes has the file in use, with its own base and zone
pub use_loads : (s : State) (base zone : ℕ) (held : Held) → refusal_of held base zone ≡ 0
    → ((on_use s base zone held).answer ≡ answer.Used base zone) × ((on_use s base zone held).state.file ≡ in_use (bytes_of held) base zone)
unfolding on_use
use_loads s base zone held e = (rw (eq-eqb _ _ e), rw (eq-eqb _ _ e))

-- Whatever the folder holds, a bad line, a path and masts change nothing that the shell remembers: nothing in a bad line is ever carried out.
module _ (folder : Folder) (s : State) (line : List ℕ) where
  pub bad_keeps : (column : ℕ) → reading line ≡ bad column → answered folder s (reading line) ≡ only s (answer.Bad column)
  bad_keeps column e = rw e

  pub path_keeps : (f g : List ℕ) → reading line ≡ legal (path f g) → answered folder s (reading line) ≡ only s (on_path s f g)
  path_keeps f g e = rw e

  pub masts_keeps : (f g : List ℕ) (a b : ℕ) → reading line ≡ legal (masts f g a b) → answered folder s (reading line) ≡ only s (on_masts s f g a b)
  masts_keeps f g a b e = rw e

-- some shell is one at its start, so what holds of such a shell speaks of something
pub some_starts : (s : Entry) → Starts (record { sites = record { entries = replicate 32 s; count = 0 }; file = None })
some_starts s = record { count = refl; long = refl; file = refl }

-- the shell at its start holds the session's start, whatever its 32 entries and the room for a file hold
pub start_holds : (shell : Shell) (bytes : List ℕ) → Starts shell → Holds shell bytes start
start_holds shell bytes s =
    record {
      count = s.count;
      most = omega arith;
      long = s.long;
      named = λ i h. absurd (omega arith);
      entries = λ i h. absurd (omega arith);
      file = rw s.file;
    }
