-- Demand 1, of any public call: "For any bytes and any numbers, every call ends with an answer or one numbered refusal of document 01, in its order of
-- checks. Callers need check nothing beforehand. A refusal carries only its number and place, and the terrain bytes are never written." Document 02:
-- "Numbers from 10 on join 01's table; where a request orders its own checks, demand 1 means that order." Besides, the contract of a call gives its
-- promise, and two results that it allows are the same. proofs/Calls.antt lists the calls and shows this of each. Assumes nothing.
use Rattle.std.specs.Prelude.{◌≡◌, List, [], ◌∷◌, ◌↔◌, ℕ, pos, Float, Result, Err}
use Rattle.std.specs.Float.{binary64}
use Rattle.std.specs.Float.Ieee.{of_int}
use Rattle.std.specs.Borrow.{Bor}
use Rattle.ground.specs.Outcome.{refusal_number, refusal_place}
use Rattle.ground.specs.Refusal.{numbered}
use Rattle.ground.specs.declared.refusal.Refusal.{Refusal}
use Rattle.ground.specs.declared.name.NameAnswer.{NameAnswer}
use Rattle.ground.specs.declared.table.BaseAnswer.{BaseAnswer}
use Rattle.terrain.specs.declared.check.CheckAnswer.{CheckAnswer}
use Rattle.reading.specs.Engine.{engine_means}
use Rattle.reading.specs.declared.point.ReadAnswer.{ReadAnswer}
use Rattle.reading.specs.declared.engine.EnginePoint.{EnginePoint}
use Rattle.survey.specs.Survey.{Lists}
use Rattle.survey.specs.declared.UploadAnswer.{UploadAnswer}
use Rattle.profile.specs.Profile.{zeros}
use Rattle.profile.specs.declared.ProfileAnswer.{ProfileAnswer}
use Rattle.profile.specs.declared.row.RowAnswer.{RowAnswer}
use Rattle.link.specs.declared.clear.VerdictAnswer.{VerdictAnswer}
use Rattle.plan.specs.declared.PlanAnswer.{PlanAnswer}
use Rattle.janlishuk.specs.declared.point.EngineAnswer.{EngineAnswer}
use Rattle.janlishuk.specs.Order.{Line, FirstOf, SomeOf}

-- How what a caller has of a call shows a refusal: by its number and place, where `bare` has these, 0 in all other fields, and in lent lists what they
-- held; or, where it is a part of the file and has no number, by being empty.
pub data Shown (R : Type 0) : Type 0 where
  by_number : (refusal place : R → ℕ) → (bare : ℕ → ℕ → R) → Shown R
  by_part : (part : R → Bor (List ℕ)) → Shown R

-- the result is an answer, or the refusal of the first of these lines whose condition holds
abbrev pub Says : {R : Type 0} → Shown R → List Line → R → Type 0
Says (by_number refusal place bare) ls r = FirstOf ls (refusal r) (place r)
Says (by_part part) ls r = ((part r).now ≡ []) ↔ SomeOf ls

-- if the result is a refusal, it carries only its number and place; an empty part carries nothing
abbrev pub Bare : {R : Type 0} → Shown R → R → Type 0
Bare (by_number refusal place bare) r = (refusal r ≡ 0 → ⊥) → r ≡ bare (refusal r) (place r)
Bare (by_part part) r = Unit {0}

-- Two results are the same; two parts are the same in content and in place. A reference has a name besides, under which the proofs follow what it refers to
-- and which no program can see.
abbrev pub Same : {R : Type 0} → Shown R → R → R → Type 0
Same (by_number refusal place bare) r s = r ≡ s
Same (by_part part) r s = ((part r).now ≡ (part s).now) × (((part r).ref_ptr.0 ≡ (part s).ref_ptr.0) × ((part r).ref_ptr.1 ≡ (part s).ref_ptr.1))

-- 0 as a double
abbrev nil : Float
nil = of_int binary64 (pos 0)

-- How each answer shows a refusal: a struct by its own number and place, and 0 in all other fields.
abbrev pub check_shown : Shown CheckAnswer
check_shown = by_number (λ r. r.refusal) (λ r. r.place) (λ n p. record { refusal = n; place = p; highest = 0 })

abbrev pub name_shown : Shown NameAnswer
name_shown = by_number (λ r. r.refusal) (λ r. r.place) (λ n p. record { refusal = n; place = p; name = 0 ∷ 0 ∷ 0 ∷ 0 ∷ [] })

abbrev pub base_shown : Shown BaseAnswer
base_shown = by_number (λ r. r.refusal) (λ r. r.place) (λ n p. record { refusal = n; place = p; base = 0 })

abbrev pub read_shown : Shown ReadAnswer
read_shown = by_number (λ r. r.refusal) (λ r. r.place) (λ n p. record { refusal = n; place = p; height = 0; code = 0 })

abbrev pub point_shown : Shown EngineAnswer
point_shown = by_number (λ r. r.refusal) (λ r. r.place) (λ n p. record { refusal = n; place = p; kind = 0; code = 0; metres = nil })

abbrev pub profile_shown : Shown ProfileAnswer
profile_shown = by_number (λ r. r.refusal) (λ r. r.place) (λ n p. record { refusal = n; place = p; n = 0; heights = zeros; codes = zeros })

abbrev pub verdict_shown : Shown VerdictAnswer
verdict_shown = by_number (λ r. r.refusal) (λ r. r.place) (λ n p. record { refusal = n; place = p; clear = 0 })

abbrev pub plan_shown : Shown PlanAnswer
plan_shown = by_number (λ r. r.refusal) (λ r. r.place) (λ n p. record { refusal = n; place = p; first = 0; second = 0 })

abbrev pub row_shown : Shown RowAnswer
row_shown = by_number (λ r. r.refusal) (λ r. r.place) (λ n p. record { refusal = n; place = p; row = record { height = nil; share = nil } })

-- what a caller has of an upload: the answer, and the lists that were lent
pub record Surveyed : Type 0 where
  pub answer : UploadAnswer
  pub lists : Lists

-- an upload, by its number and place; beside a refusal the lists hold what they held
abbrev pub upload_shown : Lists → Shown Surveyed
upload_shown lent =
    by_number (λ v. v.answer.refusal) (λ v. v.answer.place) (λ n p. record { answer = record { refusal = n; place = p }; lists = lent })

-- the point as an enum, by what it means; a refusal is the one with that number
abbrev pub enum_shown : Shown (Result EnginePoint Refusal)
enum_shown = by_number (λ r. refusal_number (engine_means r)) (λ r. refusal_place (engine_means r)) (λ n p. Err (numbered n))

-- the record, by being empty
abbrev pub record_shown : Shown (Bor (List ℕ))
record_shown = by_part (λ r. r)

-- A public call: its contract as the toolchain states it to callers, its promise, its order of checks, what a caller has of it afterwards, and how that
-- shows a refusal. `a` are the arguments, `r` is the result, `x` the arguments at the end, and κs are lifetimes.
pub record Call : Type 1 where
  pub K : Type 0
  pub A : K → Type 0
  pub R : K → Type 0
  pub S : K → Type 0
  -- what the contract asks of a caller, and what it tells a caller
  pub asked : (κs : K) → A κs → Type 0
  pub told : (κs : K) → A κs → R κs → S κs → Type 0
  -- its promise (specs/Promise), of its own arguments in their order
  pub promised : (κs : K) → A κs → R κs → S κs → Type 0
  -- its numbers in its order of checks, each with its condition (specs/Order)
  pub order : (κs : K) → A κs → List Line
  -- what a caller has of it: its result and, of a call that fills lists which are lent to it, these lists at the end
  pub Has : K → Type 0
  pub seen : (κs : K) → R κs → S κs → Has κs
  pub shown : (κs : K) → A κs → Shown (Has κs)
  -- the terrain bytes are what they were
  pub Unwritten : (κs : K) → A κs → S κs → Type 0

-- demand 1, sentence by sentence; that every call ends is what the toolchain proves of every function
pub record Demand1 (c : Call) : Type 0 where
  pub keeps_promise : (κs : c.K) (a : c.A κs) (r : c.R κs) (x : c.S κs) → c.told κs a r x → c.promised κs a r x
  pub answers_or_refuses : (κs : c.K) (a : c.A κs) (r : c.R κs) (x : c.S κs) → c.told κs a r x → Says (c.shown κs a) (c.order κs a) (c.seen κs r x)
  pub asks_nothing : (κs : c.K) (a : c.A κs) → c.asked κs a
  pub carries_only : (κs : c.K) (a : c.A κs) (r : c.R κs) (x : c.S κs) → c.told κs a r x → Bare (c.shown κs a) (c.seen κs r x)
  pub never_writes : (κs : c.K) (a : c.A κs) (r : c.R κs) (x : c.S κs) → c.told κs a r x → c.Unwritten κs a x
  pub once : (κs : c.K) (a : c.A κs) (r s : c.R κs) (x y : c.S κs) → c.told κs a r x → c.told κs a s y
      → Same (c.shown κs a) (c.seen κs r x) (c.seen κs s y)

-- each call of a list meets demand 1
abbrev pub EachMeets : List Call → Type 0
EachMeets [] = Unit {0}
EachMeets (c ∷ cs) = Demand1 c × EachMeets cs
