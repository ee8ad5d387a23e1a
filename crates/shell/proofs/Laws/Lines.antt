-- The lines of a piece of input, one by one: the first line that a line feed ends is the first of those that are ended, and the others follow it. Which lines
-- `answer_lines` has answered after each turn, and what the shell then says and remembers. From the definitions of specs/Pieces.antt. Assumes nothing.
use mathlib.Core.Path.{◌≡◌, refl, sym, ◌∙◌, ap}
use mathlib.Core.Bool.{Bool, true, false, cond}
use mathlib.Core.List.{List, [], ◌∷◌, ◌++◌, append_assoc, append-nil}
use Prim.Native.Nat.{ℕ, zero, suc, ◌+◌, ◌-◌, ◌≤◌, ◌<◌}
use native.Mathlib.Omega.{arith}
use lib.Dec.{eqb}
use lib.ListN.{length, take, drop, length-drop}
use lib.Seq.{drop-drop, take-nil}
use Rattle.lines.specs.Text.{first_line, line_at}
use Rattle.lines.specs.Line.{reading}
use Rattle.shell.specs.Session.{State, Folder, answered}
use Rattle.shell.specs.Pieces.{ended_from, left_from, after}

-- the first line feed of some bytes ends a line, which begins with those before
first_ended : (line l : List ℕ) → length (first_line l) < length l →
    let rest = drop (suc (length (first_line l))) l in
    (ended_from line l ≡ (line ++ first_line l) ∷ ended_from [] rest) × (left_from line l ≡ left_from [] rest)
unfolding first_line ended_from left_from
first_ended line [] h = absurd (omega arith)
first_ended line (c ∷ l) h = go (eqb c 10) h (first_ended (line ++ (c ∷ [])) l)
  where
    go : (t : Bool) → length (cond t [] (c ∷ first_line l)) < suc (length l)
        → (length (first_line l) < length l → (
        let rest = drop (suc (length (first_line l))) l in
        (ended_from (line ++ (c ∷ [])) l ≡ ((line ++ (c ∷ [])) ++ first_line l) ∷ ended_from [] rest) × (left_from (line ++ (c ∷ [])) l ≡ left_from [] rest)
        )) → (
        let first = cond t [] (c ∷ first_line l) in
        let rest = drop (suc (length first)) (c ∷ l) in
        (cond t (line ∷ ended_from [] l) (ended_from (line ++ (c ∷ [])) l) ≡ (line ++ first) ∷ ended_from [] rest)
        × (cond t (left_from [] l) (left_from (line ++ (c ∷ [])) l) ≡ left_from [] rest)
        )
    go true h i = (rw append-nil, refl)
    go false h i = let j = i (omega arith) in (j.0 ∙ simp append_assoc, j.1)

-- bytes that have no line feed end no line
none_ended : (line l : List ℕ) → length l ≤ length (first_line l) → ended_from line l ≡ []
unfolding first_line ended_from
none_ended line [] h = refl
none_ended line (c ∷ l) h = go (eqb c 10) h (none_ended (line ++ (c ∷ [])) l)
  where
    go : (t : Bool) → suc (length l) ≤ length (cond t [] (c ∷ first_line l)) → (length l ≤ length (first_line l) → ended_from (line ++ (c ∷ [])) l ≡ [])
        → cond t (line ∷ ended_from [] l) (ended_from (line ++ (c ∷ [])) l) ≡ []
    go true h i = absurd (omega arith)
    go false h i = i (omega arith)

-- the line at a place of the input is the first of those that are ended from there on, where a line feed ends it
pub line_ended : (input : List ℕ) (from : ℕ) → from + length (line_at input from) < length input →
    let next = from + length (line_at input from) + 1 in
    (ended_from [] (drop from input) ≡ line_at input from ∷ ended_from [] (drop next input)) × (left_from [] (drop from input) ≡ left_from [] (drop next input))
line_ended input from h =
    let f = first_ended [] (drop from input) (omega (arith, length-drop from input)) in
    let past : from + suc (length (line_at input from)) ≡ from + length (line_at input from) + 1 = omega arith in
    let there : drop (suc (length (line_at input from))) (drop from input) ≡ drop (from + length (line_at input from) + 1) input =
    drop-drop (suc (length (line_at input from))) from input ∙ ap (λ n. drop n input) past in
    (f.0 ∙ ap (λ l. line_at input from ∷ ended_from [] l) there, f.1 ∙ ap (λ l. left_from [] l) there)

-- no line is ended from a place on whose line no line feed ends
pub line_left : (input : List ℕ) (from : ℕ) → length input ≤ from + length (line_at input from) → ended_from [] (drop from input) ≡ []
line_left input from h = none_ended [] (drop from input) (omega (arith, length-drop from input))

-- one line more
pub after_one : (folder : Folder) (s : State) (lines : List (List ℕ)) (line : List ℕ)
    → after folder s (lines ++ (line ∷ [])) ≡ (answered folder (after folder s lines) (reading line)).state
unfolding after
after_one folder s [] line = refl
after_one folder s (l ∷ lines) line = after_one folder (answered folder s (reading l)).state lines line

-- where no line is ended, all bytes are left
left_all : (line l : List ℕ) → ended_from line l ≡ [] → left_from line l ≡ line ++ l
unfolding ended_from left_from
left_all line [] e = sym (append-nil line)
left_all line (c ∷ l) e = go (eqb c 10) e (left_all (line ++ (c ∷ [])) l)
  where
    go : (t : Bool) → cond t (line ∷ ended_from [] l) (ended_from (line ++ (c ∷ [])) l) ≡ []
        → (ended_from (line ++ (c ∷ [])) l ≡ [] → left_from (line ++ (c ∷ [])) l ≡ (line ++ (c ∷ [])) ++ l)
        → cond t (left_from [] l) (left_from (line ++ (c ∷ [])) l) ≡ line ++ (c ∷ l)
    go true e i = let z : ◌≡◌ {A = ℕ} 0 1 = cc in absurd (omega arith)
    go false e i = i e ∙ append_assoc line (c ∷ []) l

-- the bytes from a place on, where no line is ended from there on, are what is left
pub left_from_lem : (input : List ℕ) (at : ℕ) → ended_from [] (drop at input) ≡ [] → left_from [] (drop at input) ≡ drop at input
left_from_lem input at e = left_all [] (drop at input) e

-- the bytes from a place to before the end
pub drop_first : (at end : ℕ) (l : List ℕ) → drop at (take end l) ≡ take (end - at) (drop at l)
drop_first zero end l = ap (λ n. take n l) less
  where
    less : end ≡ end - 0
    less = omega arith
drop_first (suc at) zero l = sym (ap (λ n. take n (drop (suc at) l)) less)
  where
    less : 0 - suc at ≡ 0
    less = omega arith
drop_first (suc at) (suc end) [] = sym (take-nil (suc end - suc at))
drop_first (suc at) (suc end) (b ∷ l) = drop_first at end l ∙ ap (λ n. take n (drop at l)) less
  where
    less : end - at ≡ suc end - suc at
    less = omega arith
