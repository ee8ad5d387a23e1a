-- `read_command` meets its contract: a byte that is none of the four begins no command. Assumes nothing.
use Rattle.std.proofs.Common.{ℕ, arith}
use Rattle.std.specs.Prelude.{get_or}
use borrow.Author.Tests.{ne_eqb}
use Rattle.lines.proofs.Laws.Steps.{command_steps}
use Rattle.lines.proofs.read_command.Goals as goal

pub returns-in_default : goal.returns-in_default
returns-in_default c =
    let b : ℕ = get_or c.args.s.now c.args.from 10 in
    let is = c.byte_at.ensures in
    simp (
      command_steps c.args.s.now c.args.from,
      ne_eqb b 117 (λ e. omega (arith, is, c.in_default)),
      ne_eqb b 115 (λ e. omega (arith, is, c.in_default)),
      ne_eqb b 112 (λ e. omega (arith, is, c.in_default)),
      ne_eqb b 109 (λ e. omega (arith, is, c.in_default)),
    )
