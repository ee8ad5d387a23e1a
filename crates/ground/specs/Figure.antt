-- Document 01, "Checked figures": what a figure claims, and P1, P3, P4 and P5, which speak of no bytes. That each holds is shown in
-- proofs/Figures.antt. Assumes nothing.
use Rattle.std.specs.Prelude.{◌≡◌, List, [], ◌∷◌, ℕ}
use Rattle.ground.specs.Outcome.{Outcome, given, refused, ◌and_then◌}
use Rattle.ground.specs.Measure.{metres}
use Rattle.ground.specs.Name.{file_name}
use Rattle.ground.specs.Ground.{opened}
use Rattle.ground.specs.Place.{number, word, words_of, located}
use Rattle.ground.specs.declared.place.Place.{Place}

-- what the definitions compute, and what document 01 says that it is
pub record Figure : Type 1 where
  pub Value : Type 0
  pub computed : Value
  pub said : Value

-- every figure of the list is as the document says
abbrev pub AllHold : List Figure → Type 0
AllHold [] = Unit {0}
AllHold (f ∷ fs) = (f.computed ≡ f.said) × AllHold fs

-- a figure that names numbers, or a refusal
abbrev pub figure : List (Outcome (List ℕ)) → List (Outcome (List ℕ)) → Figure
figure c s = record { Value = List (Outcome (List ℕ)); computed = c; said = s }

-- base 40, zone 17: some numbers of the place of the point (E, N), or the refusal
abbrev pub numbers_at : (Place → List ℕ) → ℕ → ℕ → Outcome (List ℕ)
numbers_at numbers E N =
    opened 40 17
    and_then (λ g. located g (record { zone = 17; easting = metres E; northing = metres N }))
    and_then (λ s. given (numbers s))

-- the number of the rectangle that a place lies in
abbrev pub n : Place → ℕ
n s = number s.rectangle

-- name NK17; zone 7 gives NK07
abbrev pub P1 : Figure
P1 =
    figure
    (file_name 40 17 ∷ file_name 40 7 ∷ [])
    (given (78 ∷ 75 ∷ 49 ∷ 55 ∷ []) ∷ given (78 ∷ 75 ∷ 48 ∷ 55 ∷ []) ∷ [])

-- rectangle 50, words 495, 496, 511, 512
abbrev pub P3 : Figure
P3 =
    figure
    (numbers_at (λ s. n s ∷ (words_of s).sw ∷ (words_of s).se ∷ (words_of s).nw ∷ (words_of s).ne ∷ []) 507250 4448250 ∷ [])
    (given (50 ∷ 495 ∷ 496 ∷ 511 ∷ 512 ∷ []) ∷ [])

-- rectangle 151, word 1
abbrev pub P4 : Figure
P4 = figure (numbers_at (λ s. n s ∷ word s ∷ []) 507500 4448500 ∷ []) (given (151 ∷ 1 ∷ []) ∷ [])

-- rectangle 2799; easting 875,000 or 124,999, or northing 4,867,000: refusal 4
abbrev pub P5 : Figure
P5 =
    let at : ℕ → ℕ → Outcome (List ℕ) = numbers_at λ s. n s ∷ [] in
    figure
    (at 874999 4866999 ∷ at 875000 4866999 ∷ at 124999 4866999 ∷ at 874999 4867000 ∷ [])
    (given (2799 ∷ []) ∷ refused 4 0 ∷ refused 4 0 ∷ refused 4 0 ∷ [])
