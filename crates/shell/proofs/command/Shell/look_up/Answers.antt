-- `look_up` meets its contract: the names are looked up among the keys, before all else; then a file must be in use. Assumes nothing.
use Rattle.std.specs.Prelude.{Some, None, Err, ◌≡◌}
use native.Mathlib.Omega.{arith}
use Rattle.std.proofs.lemmas.Grind.{common_steps}
use Rattle.shell.specs.declared.answer.Answer.{Answer}
use Rattle.shell.specs.declared.answer.Answer.TheVariants as answer
use Rattle.shell.proofs.Laws.Sites.{looked}
use Rattle.shell.proofs.command.Shell.look_up.Goals as goal

pub returns-in_err-i : goal.returns-in_err-i
returns-in_err-i c file s first second h n m e d ask =
    let none : c.find.result ≡ None = grind (arith, common_steps) in
    let passed : (e : Answer) → c.ok_or.result ≡ Err e → c.from_residual.result ≡ Err e = λ e p. grind (arith, common_steps) in
    let missing : c.ok_or.result ≡ Err answer.Unknown = rw none at c.ok_or.ensures.value in
    rw (passed _ missing, looked first None h n e (rw none at c.find.ensures))

pub returns-in_err-j : goal.returns-in_err-j
returns-in_err-j c file s first second h n m e d ask =
    let some : c.find.result ≡ Some c.in_ok-i.i = grind (arith, common_steps) in
    let none : c.find-2.result ≡ None = grind (arith, common_steps) in
    let said : c.from_residual-in_err-j.result ≡ Err answer.Unknown = grind (arith, common_steps) in
    rw (said, (looked first (Some c.in_ok-i.i) h n e (rw some at c.find.ensures)).1, looked second None h m d (rw none at c.find-2.ensures))

pub returns-in_err-name : goal.returns-in_err-name
returns-in_err-name c file s first second h n m e d ask =
    let some : c.find.result ≡ Some c.in_ok-i.i = grind (arith, common_steps) in
    let other : c.find-2.result ≡ Some c.in_ok-j.j = grind (arith, common_steps) in
    let none : c.args.self.now.file ≡ None = grind (arith, common_steps) in
    let said : c.from_residual-in_err-name.result ≡ Err (answer.Refused 1) = grind (arith, common_steps) in
    rw (
      said,
      (looked first (Some c.in_ok-i.i) h n e (rw some at c.find.ensures)).1,
      (looked second (Some c.in_ok-j.j) h m d (rw other at c.find-2.ensures)).1,
      h.file,
      none,
    )

pub returns : goal.returns
returns c file s first second h n m e d ask =
    let some : c.find.result ≡ Some c.in_ok-i.i = grind (arith, common_steps) in
    let other : c.find-2.result ≡ Some c.in_ok-j.j = grind (arith, common_steps) in
    let named : c.args.self.now.file ≡ Some c.in_ok-name.name = grind (arith, common_steps) in
    let p = looked first (Some c.in_ok-i.i) h n e (rw some at c.find.ensures) in
    let q = looked second (Some c.in_ok-j.j) h m d (rw other at c.find-2.ensures) in
    rw (
      c.point.ensures,
      c.point-2.ensures,
      p.1,
      q.1,
      h.file,
      named,
      h.entries _ p.0,
      h.entries _ q.0,
    )
