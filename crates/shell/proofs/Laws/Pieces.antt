-- A session is answered line by line; and its input may come in pieces of any sizes, split anywhere, with the same output. From the definition of the
-- session, and from the law that what is read of a line of 48 bytes or more depends on its first 48 bytes alone. Assumes nothing.
use mathlib.Core.Path.{◌≡◌, refl, ◌∙◌, ap}
use mathlib.Core.Logic.{◌⊎◌, inl, inr, ⊎_elim}
use mathlib.Core.Bool.{Bool, true, false, not, and-eq-true_iff}
use mathlib.Core.List.{List, [], ◌∷◌, ◌++◌, append-nil, append_assoc}
use Prim.Native.Nat.{ℕ, zero, suc, ◌≤◌}
use native.Mathlib.Decide.{dec_le}
use native.Mathlib.Omega.{arith}
use lib.Dec.{eqb}
use lib.ListN.{length, take}
use lib.Seq.{take_all}
use borrow.Author.Tests.{not-true}
use Rattle.lines.specs.Spell.{all}
use Rattle.lines.specs.Line.{reading}
use Rattle.lines.proofs.Laws.Line.{cut}
use Rattle.shell.specs.Answer.{said}
use Rattle.shell.specs.Session.{State, Folder, start, answered, lines_from, answers, session}
use Rattle.shell.specs.Inside.{ended_line}
use Rattle.shell.specs.Pieces.{ended_from, left_from, joined, after, in_pieces}

-- a byte is a line feed or not
feed_or_not : (t : Bool) → (t ≡ true) ⊎ (t ≡ false)
feed_or_not true = inl refl
feed_or_not false = inr refl

-- bytes of which none is a line feed: a line, or a part of one
pub data Unended : List ℕ → Type 0 where
  empty : Unended []
  longer : (c : ℕ) {line : List ℕ} → eqb c 10 ≡ false → Unended line → Unended (c ∷ line)

-- the same, by a test
pub unended : (line : List ℕ) → all (λ c. not (eqb c 10)) line ≡ true → Unended line
unfolding all
unended [] e = empty
unended (c ∷ line) e =
    let t = (and-eq-true_iff (not (eqb c 10)) _).0 e in
    longer c (not-true _ t.0) (unended line t.1)

-- one byte more
one_more : {line : List ℕ} (c : ℕ) → eqb c 10 ≡ false → Unended line → Unended (line ++ (c ∷ []))
one_more c e empty = longer c e empty
one_more c e (longer b f u) = longer b f (one_more c e u)

-- the first n bytes
first_unended : {line : List ℕ} (n : ℕ) → Unended line → Unended (take n line)
first_unended zero empty = empty
first_unended zero (longer c e u) = empty
first_unended (suc n) empty = empty
first_unended (suc n) (longer c e u) = longer c e (first_unended n u)

-- what is left after the last line feed has none
left_unended : {line : List ℕ} (bytes : List ℕ) → Unended line → Unended (left_from line bytes)
unfolding left_from
left_unended [] u = u
left_unended (c ∷ bytes) u =
    ⊎_elim (λ e. rw e (left_unended bytes empty)) (λ e. rw e (left_unended bytes (one_more c e u))) (feed_or_not (eqb c 10))

-- bytes that end no line lengthen the line
pub lines_after : {line : List ℕ} → Unended line → (before input : List ℕ) → lines_from before (line ++ input) ≡ lines_from (before ++ line) input
unfolding lines_from
lines_after empty before input = rw append-nil
lines_after (longer c e u) before input = rw e (lines_after u (before ++ (c ∷ [])) input ∙ simp append_assoc)

-- bytes that end no line, and then a line feed, end one
one_ended : {line : List ℕ} → Unended line → (before : List ℕ) → ended_from before (line ++ (10 ∷ [])) ≡ (before ++ line) ∷ []
unfolding ended_from
one_ended empty before = rw append-nil
one_ended (longer c e u) before = rw e (one_ended u (before ++ (c ∷ [])) ∙ simp append_assoc)

-- a line that was kept and is then ended is answered as one that the end of the input ends
pub ended_kept : (folder : Folder) (s : State) {line : List ℕ} → Unended line
    → answers folder s (ended_from [] (ended_line line)) ≡ answers folder s (lines_from line [])
unfolding lines_from ended_from
ended_kept folder s empty = refl
ended_kept folder s (longer c e u) = ap (answers folder s) (one_ended (longer c e u) [])

-- the lines of an input are those that are ended in a first part, and those of the rest after what is left
lines_split : (line first rest : List ℕ) → lines_from line (first ++ rest) ≡ ended_from line first ++ lines_from (left_from line first) rest
unfolding lines_from ended_from left_from
lines_split line [] rest = refl
lines_split line (c ∷ first) rest =
    ⊎_elim (λ e. rw e (simp (lines_split [] first rest))) (λ e. rw e (lines_split (line ++ (c ∷ [])) first rest)) (feed_or_not (eqb c 10))

-- the answers to some lines and then others
pub answers_split : (folder : Folder) (s : State) (l m : List (List ℕ))
    → answers folder s (l ++ m) ≡ answers folder s l ++ answers folder (after folder s l) m
unfolding answers after
answers_split folder s [] m = refl
answers_split folder s (line ∷ l) m = rw (answers_split folder (answered folder s (reading line)).state l m) (simp append_assoc)

-- a session is answered line by line: a line, then the rest of the input, by what the shell then remembers
pub session_steps : (folder : Folder) (s : State) (line input : List ℕ) → Unended line →
    let r = answered folder s (reading line) in
    answers folder s (lines_from [] (line ++ (10 ∷ input))) ≡ said r.answer ++ answers folder r.state (lines_from [] input)
unfolding lines_from answers
session_steps folder s line input u = rw (lines_after u [] (10 ∷ input))

-- a line that is not empty is answered also where no line feed ends it
pub session_ends : (folder : Folder) (s : State) (c : ℕ) (line : List ℕ) → Unended (c ∷ line)
    → answers folder s (lines_from [] (c ∷ line)) ≡ said (answered folder s (reading (c ∷ line))).answer
session_ends folder s c line u = rw (simp append-nil at (lines_after u [] [])) (unfold lines_from answers in append-nil _)

-- Whatever the folder holds:
module _ (folder : Folder) where
  -- what is read of a line depends on its first 48 bytes and what follows
  reads_cut : (line more : List ℕ) → reading (take 48 line ++ more) ≡ reading (line ++ more)
  reads_cut line more = go (dec_le 48 (length line))
    where
      go : Dec (48 ≤ length line) → reading (take 48 line ++ more) ≡ reading (line ++ more)
      go (yes h) = cut line more h
      go (no h) = rw (take_all 48 line (omega arith))

  -- and so do the answers to the lines of which it is the first
  answers_cut : (s : State) (line more input : List ℕ)
      → answers folder s (lines_from (take 48 line ++ more) input) ≡ answers folder s (lines_from (line ++ more) input)
  unfolding lines_from answers
  answers_cut s [] more input = refl
  answers_cut s (b ∷ line) more [] = rw (reads_cut (b ∷ line) more)
  answers_cut s (b ∷ line) more (c ∷ input) =
      ⊎_elim
      (λ e. rw e (rw (reads_cut (b ∷ line) more)))
      (λ e. rw e (simp append_assoc (answers_cut s (b ∷ line) (more ++ (c ∷ [])) input)))
      (feed_or_not (eqb c 10))

  -- the output for pieces that follow what was kept of a line is that for the whole input that follows it
  in_pieces_lem : (s : State) (kept : List ℕ) (pieces : List (List ℕ)) → Unended kept
      → in_pieces folder s kept pieces ≡ answers folder s (lines_from kept (joined pieces))
  unfolding joined in_pieces
  in_pieces_lem s kept [] u = refl
  in_pieces_lem s kept (piece ∷ pieces) u =
      let bytes = kept ++ piece in
      let left = left_from [] bytes in
      let lines = lines_from left (joined pieces) in
      let then = in_pieces_lem (after folder s (ended_from [] bytes)) (take 48 left) pieces (first_unended 48 (left_unended bytes empty)) in
      rw (
        then,
        simp append-nil at (answers_cut (after folder s (ended_from [] bytes)) left [] (joined pieces)),
        ← (answers_split folder s (ended_from [] bytes) lines),
        ← (lines_split [] bytes (joined pieces)),
        ← (lines_after u [] (piece ++ joined pieces)),
        append_assoc,
      )

  -- the input may come in pieces of any sizes, split anywhere, with the same output
  pub pieces : (pieces : List (List ℕ)) → in_pieces folder start [] pieces ≡ session folder (joined pieces)
  unfolding session
  pieces split = in_pieces_lem start [] split empty
