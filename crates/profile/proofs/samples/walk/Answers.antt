-- `walk` meets its contract: each sample's reading is put in, or its refusal ends the walk. Assumes nothing.
use mathlib.Core.Path.{◌≡◌, sym, ◌∙◌, ap}
use mathlib.Core.List.{List}
use Prim.Native.Nat.{ℕ, ◌+◌}
use native.Mathlib.Omega.{arith}
use Rattle.ground.specs.Outcome.{Outcome, given, refused}
use Rattle.ground.specs.Refusal.{number}
use Rattle.reading.specs.Reading.{point_in, spot_in}
use Rattle.ground.specs.declared.point.Point.{Point}
use Rattle.terrain.specs.Check.{Gave}
use Rattle.reading.specs.declared.point.Reading.{Reading}
use Rattle.terrain.specs.declared.check.Terrain.{Terrain}
use Rattle.path.specs.Path.{sample}
use Rattle.path.specs.declared.Path.{Path}
use Rattle.profile.specs.Profile.{up_to, link_of, link_in}
use Rattle.terrain.proofs.Laws.Checked.{gave_opens}
use Rattle.reading.proofs.Laws.Reading.{point_is_spot}
use Rattle.profile.proofs.Laws.Profile.{one_more, one_refused}
use Rattle.profile.proofs.samples.walk.Goals.{After-put, In-Ok}
use Rattle.profile.proofs.samples.walk.Goals as goal

-- the reader of the path's samples
abbrev reader : List ℕ → Terrain → Path → ℕ → Outcome Reading
reader file terrain path k = point_in file terrain (sample path k)

-- what was read at a sample's point is what the reader says of the sample
said : {file : List ℕ} {t : Terrain} (w : Path) (k : ℕ) {p : Point} {o : Outcome Reading} → Gave file t → p ≡ sample w k → o ≡ spot_in file t p
    → reader file t w k ≡ o
said w k g e s = sym (point_is_spot g (sample w k)) ∙ sym (rw e at s)

pub loop-i-init : goal.loop-i-init
unfolding up_to
loop-i-init c = rw c.requires.1.1

pub read_in-requires : goal.read_in-requires
read_in-requires c = gave_opens c.requires.0

pub returns-in-Err : goal.returns-in-Err
unfolding link_in
returns-in-Err c =
    let read : reader c.args.file.now c.args.terrain c.args.path c.loop-i.i ≡ refused (number c.in-Err.refusal) 0 =
    said c.args.path c.loop-i.i c.requires.0 c.sample.ensures c.in-Err.ensures in
    simp (one_refused (reader c.args.file.now c.args.terrain c.args.path) c.args.path.n (omega arith) c.loop-i.invariant read)

-- one sample more
more : (c : After-put) → (
    let a = c.args in
    up_to (reader a.file.now a.terrain a.path) a.path.n (c.loop-i.i + 1) ≡ given (link_of a.path c.put.new.self).profile
    )
more c =
    let read : reader c.args.file.now c.args.terrain c.args.path c.loop-i.i ≡ given c.in-Ok.reading =
    said c.args.path c.loop-i.i c.requires.0 c.sample.ensures c.in-Ok.ensures in
    let put = c.put.ensures in
    rw put (one_more (reader c.args.file.now c.args.terrain c.args.path) _ _ c.loop-i.invariant read)

pub loop-i-preserved : goal.loop-i-preserved
loop-i-preserved c = more (goal.at.loop-i-preserved c).After-put

pub returns-in-Ok : goal.returns-in-Ok
unfolding link_in
returns-in-Ok c =
    let e : c.loop-i.i ≡ c.args.path.n = omega arith in
    simp (ap (λ i. up_to (reader c.args.file.now c.args.terrain c.args.path) c.args.path.n (i + 1)) (sym e), more (goal.at.returns-in-Ok c).After-put)
