-- What a `?` hands on of a refusal that was met on the way: its number and its place. And two answers on a path that come to the same are the same, so
-- a promise on what an answer comes to leaves one answer. Assumes nothing.
use mathlib.Core.Path.{◌≡◌, sym, ◌∙◌, ap}
use Prim.Native.Nat.{ℕ}
use Rattle.std.specs.Prelude.{Result, Ok, Err, IsErrAnd}
use Rattle.ground.specs.Outcome.{refusal_number, refusal_place}
use Rattle.ground.specs.Refusal.{number}
use Rattle.ground.specs.declared.refusal.Refusal.{Refusal}
use Rattle.ground.proofs.Laws.Outcome.{not_both}
use Rattle.ground.proofs.Laws.Refusal.{number_once}
use Rattle.profile.specs.Profile.{path_outcome_of}
use Rattle.profile.specs.declared.samples.PathRefusal.{PathRefusal}

-- an answer that is this refusal
pub refused_is : {A : Type 0} {r : Result A PathRefusal} {met : PathRefusal} → IsErrAnd r (λ m. m ≡ met) → r ≡ Err met
refused_is {r = Ok a} e = absurd e
refused_is {r = Err m} e = ap Err e

-- two refusals with one number and one place
met_once : (m n : PathRefusal) → number m.refusal ≡ number n.refusal → m.place ≡ n.place → m ≡ n
met_once m n e f =
    let of : Refusal → ℕ → PathRefusal = λ r p. record { refusal = r; place = p } in
    ap (λ r. of r m.place) (number_once m.refusal n.refusal e) ∙ ap (of n.refusal) f

-- two answers that come to the same are the same
pub path_answer_once : {A : Type 0} (r s : Result A PathRefusal) → path_outcome_of r ≡ path_outcome_of s → r ≡ s
path_answer_once (Ok a) (Ok b) e = cc
path_answer_once (Ok a) (Err n) e = absurd (not_both (sym e))
path_answer_once (Err m) (Ok b) e = absurd (not_both e)
path_answer_once (Err m) (Err n) e = ap Err (met_once m n (ap refusal_number e) (ap refusal_place e))
