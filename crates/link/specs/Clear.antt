-- The clear test, in millimetres, and the verdict. Document 01, "A path". Assumes nothing.
use Rattle.std.specs.Prelude.{ℕ, ◌+◌, ◌-◌, ◌*◌, ◌/◌, ◌≤◌, Bool, cond, List}
use Rattle.ground.specs.Outcome.{Outcome, given, ◌and_then◌, refusal_number, refusal_place, filled_by}
use Rattle.ground.specs.declared.point.Point.{Point}
use Rattle.reading.specs.declared.point.Reading.{Reading}
use Rattle.path.specs.Path.{ask_masts}
use Rattle.path.specs.declared.Path.{Path}
use Rattle.profile.specs.Profile.{Link, sample_of, linked}
use Rattle.masts.specs.Clear.{rounded_up, clear_by}
use Rattle.link.specs.declared.clear.Seen.{Seen}
use Rattle.link.specs.declared.clear.VerdictAnswer.{VerdictAnswer}

-- A or B, an end with its mast: the height, 250 units of 1/250,000 m per millimetre, rounded down, and 1000 for each metre of the mast
abbrev pub raised : Reading → ℕ → ℕ
raised end mast = end.height / 250 + 1000 * mast

-- T is the sample's height rounded up
unfoldable pub T : Reading → ℕ
T sample = rounded_up sample.height 250

-- G is Q i (N-i) / (17,000 N²) rounded up (house effective radius 8,500 km)
unfoldable pub G : Path → ℕ → ℕ
G w i = rounded_up (w.q * i * (w.n - i)) (17000 * (w.n * w.n))

-- what sample i needs: N (T + G). The test there is that the line between the ends, (N-i) A + i B, is not below it
unfoldable pub need : Link → ℕ → ℕ
need l i = l.path.n * (T (sample_of l.profile i) + G l.path i)

-- the path is clear with masts a and b
unfoldable pub clear : Link → ℕ → ℕ → Bool
clear l a b =
    let n : ℕ = l.path.n in
    clear_by (need l) n (raised (sample_of l.profile 0) a) (raised (sample_of l.profile n) b)

-- the verdict on masts a and b: a refusal of `linked`, 8 among them for a mast above 100, or whether the path is clear
unfoldable pub verdict : List ℕ → ℕ → ℕ → Point → Point → ℕ → ℕ → Outcome Bool
verdict file base zone first second a b = linked file base zone (ask_masts first second a b) and_then λ l. given (clear l a b)

-- N and the verdict on masts a and b, from one reading of the path: a refusal of `linked`, or both
unfoldable pub sight : List ℕ → ℕ → ℕ → Point → Point → ℕ → ℕ → Outcome Seen
sight file base zone first second a b =
    linked file base zone (ask_masts first second a b) and_then λ l. given (record { n = l.path.n; clear = clear l a b })

-- the answer of `janlishuk_verdict` as the caller gets it: clear is 1 or 0
abbrev pub verdict_answer : Outcome Bool → VerdictAnswer
verdict_answer o =
    record {
      refusal = refusal_number o;
      place = refusal_place o;
      clear = filled_by 0 (o and_then λ c. given (cond c 1 0));
    }

-- The test at sample i without any rounding: heights in 1/250,000 m, so that a metre is 250,000 and a millimetre 250, and both sides multiplied
-- by 17,000 N². That it holds wherever the test in millimetres does is shown in proofs/Laws/Rounding.antt.
abbrev pub ExactlyClearAt : Link → ℕ → ℕ → ℕ → Type 0
ExactlyClearAt l a b i =
    let n : ℕ = l.path.n in
    let height : ℕ → ℕ = λ k. (sample_of l.profile k).height in
    let over : ℕ = 17000 * (n * n) in
    over * (n * height i) + 250 * (n * (l.path.q * i * (n - i))) ≤ over * ((n - i) * (height 0 + 250000 * a) + i * (height n + 250000 * b))
