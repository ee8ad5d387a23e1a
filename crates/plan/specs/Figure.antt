-- Document 01, "Checked figures": P11 and P12. That each holds is shown in proofs/Figures.antt. Assumes nothing.
use Rattle.std.specs.Prelude.{Bool, cond, List, [], ◌∷◌, ℕ, ◌*◌, eqb}
use Rattle.ground.specs.Outcome.{Outcome, given, ◌and_then◌}
use Rattle.ground.specs.Figure.{Figure, figure}
use Rattle.path.specs.Figure.{from_corner}
use Rattle.path.specs.declared.Path.{Path}
use Rattle.profile.specs.Profile.{profile_by}
use Rattle.masts.specs.Plan.{plan_of}
use Rattle.link.specs.Clear.{clear}
use Rattle.plan.specs.Plan.{plan_answer}
use Rattle.plan.specs.declared.PlanAnswer.{PlanAnswer}

-- the answer of the plan with limits 100: refusal, place, first and second mast
abbrev pub answer_of : (ℕ → ℕ → Bool) → Outcome (List ℕ)
answer_of clears =
    let r : PlanAnswer = plan_answer (plan_of clears 100 100) in
    given (r.refusal ∷ r.place ∷ r.first ∷ r.second ∷ [])

-- the answer of the plan of a path over bare ground (code 2), of `ground i` metres at sample i; a metre is 250,000 of 1/250,000 m
abbrev planned : Path → (ground : ℕ → ℕ) → Outcome (List ℕ)
planned w ground =
    profile_by (λ i. given (record { height = 250000 * ground i; code = 2 })) w.n and_then λ p. answer_of (clear (record { path = w; profile = p }))

-- flat 100 m ground, 10 km, limits 100: masts 1 and 3. Flat, 1 km: 0 and 1
abbrev pub P11 : Figure
P11 =
    let flat : ℕ → ℕ = λ i. 100 in
    figure (planned (from_corner 10000 0) flat ∷ planned (from_corner 0 1000) flat ∷ []) (given (0 ∷ 0 ∷ 1 ∷ 3 ∷ []) ∷ given (0 ∷ 0 ∷ 0 ∷ 1 ∷ []) ∷ [])

-- N = 2, dE 1000, limits 100, ends at 0 m, middle 99 m: masts 99 and 100; middle 100 m: refusal 9
abbrev pub P12 : Figure
P12 =
    let middle : ℕ → ℕ → ℕ = λ height i. cond (eqb i 1) height 0 in
    figure
    (planned (from_corner 1000 0) (middle 99) ∷ planned (from_corner 1000 0) (middle 100) ∷ [])
    (given (0 ∷ 0 ∷ 99 ∷ 100 ∷ []) ∷ given (9 ∷ 0 ∷ 0 ∷ 0 ∷ []) ∷ [])
