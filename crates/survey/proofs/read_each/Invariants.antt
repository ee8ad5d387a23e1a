-- The loop's invariant: the lists hold the answers to the points before i. Assumes nothing.
use mathlib.Core.Path.{◌≡◌}
use Prim.Native.Nat.{◌≤◌}
use lib.ListN.{length}
use Rattle.survey.specs.Survey.{five_lists, with_answers}
use Rattle.survey.specs.Inside.{answer_in}
use Rattle.survey.proofs.read_each.Given as goal

abbrev pub invariant-loop-i : goal.invariant-loop-i
invariant-loop-i l =
    let before = five_lists l.eastings l.northings l.initial.heights l.initial.codes l.initial.refusals in
    (l.i ≤ length l.eastings)
    × (five_lists l.eastings l.northings l.heights l.codes l.refusals ≡ with_answers (answer_in l.file l.terrain before) before l.i)
