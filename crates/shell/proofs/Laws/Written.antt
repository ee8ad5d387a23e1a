-- What writing a byte, and a word after another, comes to. Assumes nothing.
use mathlib.Core.Path.{refl}
use mathlib.Core.List.{List, [], ◌∷◌, ◌++◌, append_assoc, append-nil}
use Prim.Native.Nat.{ℕ, ◌+◌, ◌<◌}
use native.Mathlib.Numerals.{add-one}
use native.Mathlib.Omega.{arith}
use lib.ListN.{length, set, length-append, length-set}
use lib.Seq.{take-suc-set}
use Rattle.shell.specs.Inside.{Written}

-- no bytes
pub nothing : (l : List ℕ) (at : ℕ) → Written [] l at l at
nothing l at = record { place = omega arith; bytes = simp append-nil; long = refl }

-- one byte
pub one : (l : List ℕ) (at b : ℕ) → at < length l → Written (b ∷ []) l at (set l at b) (at + 1)
one l at b h = record { place = refl; bytes = rw (add-one, take-suc-set) refl; long = simp length-set }

-- a word, then another
pub both : {v w l m n : List ℕ} {at r s : ℕ} → Written v l at m r → Written w m r n s → Written (v ++ w) l at n s
both a b = record { place = simp length-append (omega arith); bytes = rw (b.bytes, a.bytes, append_assoc) refl; long = cc }
