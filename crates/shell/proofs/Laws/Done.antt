-- The lines of an input that were answered so far, from a place on: what was written and what is held after them, none, one more, and where they stop. From the
-- laws of the lines of a piece and of what is written. Assumes nothing.
use mathlib.Core.Path.{◌≡◌, refl, sym, ◌∙◌}
use mathlib.Core.List.{List, [], ◌∷◌, ◌++◌, append_assoc, append-nil}
use Prim.Native.Nat.{ℕ, ◌+◌, ◌≤◌, ◌<◌}
use lib.ListN.{length, drop}
use Rattle.lines.specs.Spell.{«use»}
use Rattle.lines.specs.Line.{legal, reading}
use Rattle.lines.specs.Text.{line_at}
use Rattle.shell.specs.Answer.{said}
use Rattle.shell.specs.Session.{State, Folder, answered, answers}
use Rattle.shell.specs.Pieces.{ended_from, left_from, after}
use Rattle.shell.specs.Inside.{Holds, Adds, Feeds}
use Rattle.shell.specs.declared.answer.Answers.{Answers}
use Rattle.shell.specs.declared.command.FileName.{FileName}
use Rattle.shell.specs.declared.command.Shell.{Shell}
use Rattle.shell.specs.declared.feed.Next.TheVariants as next
use Rattle.shell.proofs.Laws.Written.{nothing, both}
use Rattle.shell.proofs.Laws.Lines.{line_ended, line_left, after_one}
use Rattle.shell.proofs.Laws.Pieces.{answers_split}

-- the answers to one line
one_answer : (folder : Folder) (s : State) (line : List ℕ) → answers folder s (line ∷ []) ≡ said (answered folder s (reading line)).answer
unfolding answers
one_answer folder s line = append-nil (said (answered folder s (reading line)).answer)

-- Of an input and a place in it, what the shell remembered there, the file in use, and the answers that waited by then:
module _ (input : List ℕ) (from : ℕ) (shell : Shell) (file : List ℕ) (waiting : Answers) where
  -- the lines before this place are answered
  pub record Done (waiting' : Answers) (at : ℕ) (now : Shell) : Type 0 where
    pub lines : List (List ℕ)
    pub ended : ended_from [] (drop from input) ≡ lines ++ ended_from [] (drop at input)
    pub left : left_from [] (drop from input) ≡ left_from [] (drop at input)
    pub answered : (folder : Folder) (s : State) → Holds shell file s
        → Adds (answers folder s lines) waiting waiting' × Holds now file (after folder s lines)
    pub long : length waiting'.bytes ≡ length waiting.bytes
    pub room : waiting.filled ≤ 65536 → waiting'.filled ≤ 65536

  -- no line yet
  pub none_done : Done waiting from shell
  unfolding answers after
  none_done =
      record { lines = []; ended = refl; left = refl; answered = λ folder s h. (nothing waiting.bytes waiting.filled, h); long = refl; room = λ h. h }

  module _ {waiting' : Answers} {at : ℕ} {now : Shell} (d : Done waiting' at now) where
    -- the line at the place, where a line feed ends it
    abbrev Ended : Type 0
    Ended = at + length (line_at input at) < length input

    abbrev past : ℕ
    past = at + length (line_at input at) + 1

    -- one line more
    pub one_done : {waiting'' : Answers} {then : Shell} → Ended
        → ((folder : Folder) (s : State) → Holds now file s → (
        let r = answered folder s (reading (line_at input at)) in
        Adds (said r.answer) waiting' waiting'' × Holds then file r.state
        ))
        → length waiting''.bytes ≡ length waiting'.bytes → waiting''.filled ≤ 65536 → Done waiting'' past then
    one_done {waiting''} {then} h step long room =
        let line = line_at input at in
        let e = line_ended input at h in
        record {
          lines = d.lines ++ (line ∷ []);
          ended = d.ended ∙ rw e.0 (sym (append_assoc d.lines (line ∷ []) _));
          left = d.left ∙ e.1;
          answered = λ folder s holds. more folder s holds;
          long = long ∙ d.long;
          room = λ _. room;
        }
      where
        more : (folder : Folder) (s : State) → Holds shell file s → (
            let lines = d.lines ++ (line_at input at ∷ []) in
            Adds (answers folder s lines) waiting waiting'' × Holds then file (after folder s lines)
            )
        more folder s holds =
            let line = line_at input at in
            let d1 = d.answered folder s holds in
            let st = step folder (after folder s d.lines) d1.1 in (
              rw (answers_split folder s d.lines (line ∷ []), one_answer folder (after folder s d.lines) line) (both d1.0 st.0),
              rw (after_one folder s d.lines line) st.1,
            )

    -- no line feed ends the line at the place
    pub more_stops : length input ≤ at + length (line_at input at)
        → Feeds input from shell file waiting now waiting' (record { next = next.More; at = at })
    more_stops h =
        record {
          lines = d.lines;
          rest = [];
          ended = d.ended ∙ rw (line_left input at h);
          stops = (refl, line_left input at h);
          left = d.left;
          answered = d.answered;
          room = d.room;
          long = d.long;
        }

    -- the line at the place is a `use`
    pub use_stops : (name : FileName) → Ended → waiting'.filled ≤ 65519 → reading (line_at input at) ≡ legal («use» name.base name.zone)
        → Feeds input from shell file waiting now waiting' (record { next = next.Use name; at = past })
    use_stops name h room e =
        let i = line_ended input at h in
        record {
          lines = d.lines;
          rest = line_at input at ∷ ended_from [] (drop past input);
          ended = d.ended ∙ rw i.0;
          stops = (room, (line_at input at, (e, refl)));
          left = d.left ∙ i.1;
          answered = d.answered;
          room = d.room;
          long = d.long;
        }

    -- there is no room for another answer
    pub full_stops : 65519 < waiting'.filled → Feeds input from shell file waiting now waiting' (record { next = next.Full; at = at })
    full_stops h =
        record {
          lines = d.lines;
          rest = ended_from [] (drop at input);
          ended = d.ended;
          stops = (refl, h);
          left = d.left;
          answered = d.answered;
          room = d.room;
          long = d.long;
        }
