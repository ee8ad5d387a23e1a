-- `read_line` meets its contract: the command at the place is that of its line, since no command has a line feed in it, and after it the line has
-- to end. Assumes nothing.
use Rattle.std.proofs.Common.{◌≡◌, refl, ◌∙◌, ap, Bool, true, false, cond, List, ℕ, ◌+◌, ◌-◌, ◌≤◌, get_or, drop, length, Result, Ok, Err, arith}
use lib.Dec.{eqb}
use lib.Seq.{get_or-drop}
use Rattle.lines.specs.Spell.{Command}
use Rattle.lines.specs.Line.{Part, part, stopped, legal, bad, command, reading}
use Rattle.lines.specs.Key.{keyed, keyed_command}
use Rattle.lines.specs.Text.{first_line, line_at}
use Rattle.lines.specs.Inside.{said_from, ended_from, ReadsLine}
use Rattle.lines.specs.declared.Line.{Line}
use Rattle.lines.specs.declared.Read.{Read}
use Rattle.lines.specs.declared.word.Token.{Token}
use Rattle.lines.proofs.Laws.Feed.{command_of_line, command_within, wrong_within, line_ends, line_short}
use Rattle.lines.proofs.read_line.Goals as goal

module _ (s : List ℕ) (from : ℕ) where
  -- what is said of a line by the command that it is
  abbrev say : Result (Token Line) ℕ → Read
  say (Ok said) = record { line = Ok said.value; at = said.at }
  say (Err at) = record { line = Err (at - from + 1); at = at }

  reads : ReadsLine s from (say (ended_from s (said_from from (command (drop from s)))))
  unfolding reading
  reads = go (command (drop from s)) refl
    where
      -- a line feed, or the end of the bytes, has to follow a command
      ended : (c : Command) (n : ℕ) (t : Bool) → n ≤ length (first_line (drop from s)) → keyed (cond t (legal c) (bad (n + 1))) ≡ keyed (reading (line_at s from))
          → ReadsLine s from (say (cond t (Ok (record { value = keyed_command c; at = from + n })) (Err (from + n))))
      ended c n true h e = record { line = e; after = omega arith; within = omega arith }
      ended c n false h e = record { line = ap Err (omega arith) ∙ e; after = omega arith; within = omega arith }

      go : (x : Part Command) → command (drop from s) ≡ x → ReadsLine s from (say (ended_from s (said_from from x)))
      go (part c n) e =
          let h = command_within (drop from s) e in
          ended c n (eqb (get_or s (from + n) 10) 10) h (rw (command_of_line (drop from s), e, line_ends (drop from s) n h, get_or-drop))
      go (stopped k) e =
          record {
            line = rw (command_of_line (drop from s), e) (ap Err (omega arith));
            after = omega arith;
            within = omega (arith, wrong_within (drop from s) e);
          }

  told : {r : Result (Token Line) ℕ} → r ≡ ended_from s (said_from from (command (drop from s))) → ReadsLine s from (say r)
  told e = rw e reads

pub returns-in-Ok : goal.returns-in-Ok
returns-in-Ok c = told c.args.s.now c.args.from c.in-Ok.ensures

pub returns-in-Err : goal.returns-in-Err
returns-in-Err c = told c.args.s.now c.args.from c.in-Err.ensures

pub overflow_add-result : goal.overflow_add-result
overflow_add-result c =
    let r = told c.args.s.now c.args.from c.in-Err.ensures in
    omega (arith, r.after, r.within, line_short c.args.s.now c.args.from)
