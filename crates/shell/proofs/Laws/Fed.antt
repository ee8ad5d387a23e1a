-- What `answer_lines` promises is the session, piece by piece: the answers to the lines that it answered, and then to those that it left, are the
-- answers to all that are ended; and so is what the shell remembers after them. From the law that lines are answered one after the
-- other. Assumes nothing.
use mathlib.Core.Path.{◌≡◌, refl, sym, ◌∙◌, ap}
use mathlib.Core.List.{List, [], ◌∷◌, ◌++◌, append-nil}
use Prim.Native.Nat.{ℕ, ◌-◌}
use lib.ListN.{take, drop}
use Rattle.lines.specs.Line.{reading}
use Rattle.shell.specs.Answer.{said}
use Rattle.shell.specs.Session.{State, Folder, on_use, answered, answers}
use Rattle.shell.specs.Pieces.{most_kept, ended_from, left_from, after}
use Rattle.shell.specs.Inside.{Holds, Adds, Feeds, Keeps}
use Rattle.shell.specs.declared.answer.Answers.{Answers}
use Rattle.shell.specs.declared.command.FileName.{FileName}
use Rattle.shell.specs.declared.command.Shell.{Shell}
use Rattle.shell.specs.declared.feed.Step.{Step}
use Rattle.shell.specs.declared.feed.Next.TheVariants as next
use Rattle.shell.proofs.Laws.Lines.{left_from_lem, drop_first}
use Rattle.shell.proofs.Laws.Pieces.{answers_split}

-- what the shell remembers after some lines and then others
pub after_split : (folder : Folder) (s : State) (l m : List (List ℕ)) → after folder s (l ++ m) ≡ after folder (after folder s l) m
unfolding after
after_split folder s [] m = refl
after_split folder s (line ∷ l) m = after_split folder (answered folder s (reading line)).state l m

-- Of what `answer_lines` did with the lines that are ended in an input from a place on, whatever the folder holds and in whatever state:
module _ {input : List ℕ} {from : ℕ} {shell shell' : Shell} {file : List ℕ} {waiting waiting' : Answers} {r : Step}
    (f : Feeds input from shell file waiting shell' waiting' r) (folder : Folder) (s : State) where
  -- the lines that are ended, and those of them that are left
  abbrev ended : List (List ℕ)
  ended = ended_from [] (drop from input)

  abbrev left : List (List ℕ)
  left = ended_from [] (drop r.at input)

  -- what the shell remembers after the lines that were answered
  abbrev now : State
  now = after folder s f.lines

  -- Where it asks for more, all the lines that are ended were answered:
  all_fed : r.next ≡ next.More → ended ≡ f.lines
  all_fed e = f.ended ∙ rw (rw e at f.stops).0 (append-nil f.lines)

  pub more_fed : r.next ≡ next.More → (answers folder s ended ≡ answers folder s f.lines) × (after folder s ended ≡ now)
  more_fed e = (rw (all_fed e), rw (all_fed e))

  -- their answers were written, and what the shell remembers after them is held.
  pub more_written : r.next ≡ next.More → Holds shell file s
      → Adds (answers folder s ended) waiting waiting' × Holds shell' file (after folder s ended)
  more_written e h = rw (all_fed e) (f.answered folder s h)

  -- and what `keep` then keeps of the bytes from its place on is what is left of the last line, at most 48 bytes of it.
  pub more_kept : {whole kept : List ℕ} {end n : ℕ} → input ≡ take end whole → r.next ≡ next.More → Keeps whole r.at end kept n
      → take n kept ≡ take most_kept (left_from [] (drop from input))
  more_kept {whole} {kept} {end} i e k =
      let none = (rw e at f.stops).1 in
      let rest : drop r.at input ≡ take (end - r.at) (drop r.at whole) = rw i (drop_first r.at end whole) in
      k.bytes ∙ sym (ap (λ l. take most_kept l) (f.left ∙ left_from_lem input r.at none ∙ rest))

  -- Where it stops at a `use`, the answers go on with that of the `use` and those to the lines from its place on.
  pub use_fed : {name : FileName} → r.next ≡ next.Use name →
      let u = on_use now name.base name.zone (folder name.base name.zone) in
      (answers folder s ended ≡ answers folder s f.lines ++ (said u.answer ++ answers folder u.state left))
      × (after folder s ended ≡ after folder u.state left)
  unfolding answers after
  use_fed e =
      let stops = rw e at f.stops in
      rw (f.ended, stops.1.1.1) (
        answers_split folder s f.lines _ ∙ rw stops.1.1.0,
        after_split folder s f.lines _ ∙ rw (after, stops.1.1.0),
      )

  -- Where there is no more room, the answers go on with those to the lines from its place on.
  pub full_fed : r.next ≡ next.Full
      → (answers folder s ended ≡ answers folder s f.lines ++ answers folder now left) × (after folder s ended ≡ after folder now left)
  full_fed e =
      let stops = rw e at f.stops in
      rw (f.ended, stops.0) (answers_split folder s f.lines _, after_split folder s f.lines _)
