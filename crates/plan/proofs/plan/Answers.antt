-- `plan` meets its contract: the pair that `plan_of` found for the link that was given, or that there is none. Assumes nothing.
use mathlib.Core.Path.{◌≡◌}
use Prim.Native.Nat.{ℕ}
use native.Mathlib.Omega.{arith}
use mathlib.Core.Bool.{Bool}
use Rattle.std.specs.Prelude.{Option, Some, None, Ok, Err, ok_or}
use Rattle.ground.specs.Outcome.{given, refused}
use Rattle.ground.specs.Refusal.{number}
use Rattle.ground.specs.declared.refusal.Refusal.{Refusal}
use Rattle.ground.specs.declared.refusal.Refusal.TheVariants.{NoPair}
use Rattle.profile.specs.Profile.{link_of}
use Rattle.masts.specs.Plan.{Demand3, planned_means}
use Rattle.masts.specs.declared.Masts.{Masts}
use Rattle.link.specs.Clear.{clear}
use Rattle.profile.proofs.Laws.Link.{sampled_is}
use Rattle.profile.proofs.Laws.Refused.{refused_is}
use Rattle.plan.proofs.plan.Goals as goal

module _ (clears : ℕ → ℕ → Bool) (la lb : ℕ) where
  -- the pair was found
  pair : (s : Option Masts) {m : Masts} → Demand3 clears la lb (planned_means s) → Ok m ≡ ok_or s NoPair → Demand3 clears la lb (given m)
  pair (Some n) {m} d e = let q : m ≡ n = cc in rw q d
  pair None d e = cc

  -- none was found
  none : (s : Option Masts) {r : Refusal} → Demand3 clears la lb (planned_means s) → Err r ≡ ok_or s NoPair → Demand3 clears la lb (refused (number r) 0)
  none (Some n) d e = cc
  none None {r} d e = let q : r ≡ NoPair = cc in rw q d

pub returns-in_err-path : goal.returns-in_err-path
returns-in_err-path c = rw (refused_is c.from_residual.ensures.1, ← (rw c.masts-asked.ensures at c.in_err-path.ensures))

pub invariant_of-link : goal.invariant_of-link
invariant_of-link c = record { sound = (sampled_is (rw c.masts-asked.ensures at c.in_ok-path.ensures)).sound }

pub plan_of-requires : goal.plan_of-requires
plan_of-requires c =
    let l = sampled_is (rw c.masts-asked.ensures at c.in_ok-path.ensures) in
    (omega (arith, l.asked.a, l.asked.b), omega (arith, l.asked.a, l.asked.b))

pub returns-in_err-masts : goal.returns-in_err-masts
returns-in_err-masts c =
    rw (refused_is c.from_residual-in_err-masts.ensures.1, ← (rw c.masts-asked.ensures at c.in_ok-path.ensures))
    (none (clear (link_of c.in_ok-path.path c.read_samples.new.samples)) c.args.la c.args.lb c.plan_of.result c.plan_of.ensures c.in_err-masts.ensures.value)

pub returns : goal.returns
returns c =
    rw (← (rw c.masts-asked.ensures at c.in_ok-path.ensures))
    (pair (clear (link_of c.in_ok-path.path c.read_samples.new.samples)) c.args.la c.args.lb c.plan_of.result c.plan_of.ensures c.in_ok-masts.ensures.value)
