-- What a line says, by its keyed form. From the definition of that form, and the law that the names of a line that is read are well written. Assumes nothing.
use Rattle.std.specs.Prelude.{Ok, Err}
use mathlib.Core.Path.{◌≡◌, refl}
use mathlib.Core.List.{List}
use Prim.Native.Nat.{ℕ}
use Rattle.lines.specs.Spell.{«use», site, path, masts}
use native.Mathlib.Omega.{arith}
use Rattle.lines.specs.Line.{Reading, legal, bad, reading}
use Rattle.lines.specs.Key.{keyed}
use Rattle.lines.specs.declared.Line.{Line}
use Rattle.lines.specs.declared.Line.TheVariants as line
use Rattle.lines.proofs.Laws.Line.{names_well}
use Rattle.shell.specs.Inside.{Asks, AsksNoFile}

-- two lines of different kinds are not the same
never : {B : Type 0} → ◌≡◌ {A = ℕ} 0 1 → B
never e = absurd (omega arith)

-- a line that is a `use` in its keyed form says so
pub says_use : (q : Reading) {base zone : ℕ} → keyed q ≡ Ok (line.Use base zone) → q ≡ legal («use» base zone)
says_use (legal («use» b z)) e = cc
says_use (legal (site name easting northing)) e = never cc
says_use (legal (path v w)) e = never cc
says_use (legal (masts v w m n)) e = never cc
says_use (bad column) e = never cc

-- and so does a bad one
pub says_bad : (q : Reading) {column : ℕ} → keyed q ≡ Err column → q ≡ bad column
says_bad (legal («use» b z)) e = never cc
says_bad (legal (site name easting northing)) e = never cc
says_bad (legal (path v w)) e = never cc
says_bad (legal (masts v w m n)) e = never cc
says_bad (bad c) e = cc

-- a line that is no `use` is answered from the state alone, and its names are written as names are
pub asks : (l : List ℕ) {said : Line} → keyed (reading l) ≡ Ok said → AsksNoFile said → Asks (reading l)
asks l {said} is other = go (reading l) refl is
  where
    go : (q : Reading) → reading l ≡ q → keyed q ≡ Ok said → Asks q
    go (legal («use» b z)) e i = let u : line.Use b z ≡ said = cc in rw (← u) at other
    go (legal (site name easting northing)) e i = names_well (site name easting northing) l e
    go (legal (path v w)) e i = names_well (path v w) l e
    go (legal (masts v w m n)) e i = names_well (masts v w m n) l e
    go (bad column) e i = tt
