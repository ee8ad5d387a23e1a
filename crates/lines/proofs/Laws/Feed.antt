-- No part of a command has a line feed in it, so reading a command from some bytes comes to what reading it from their first line does. From the
-- definitions of the parts alone. Assumes nothing.
use mathlib.Core.Path.{◌≡◌, refl, sym, ◌∙◌, ap}
use mathlib.Core.Bool.{Bool, true, false, not, ◌&&◌, cond, and-eq-true_iff}
use mathlib.Core.List.{List, [], ◌∷◌}
use Prim.Native.Nat.{ℕ, zero, suc, ◌+◌, ◌-◌, ◌≤◌, ◌<◌, suc-le-suc}
use native.Mathlib.Omega.{arith}
use lib.Dec.{leb, eqb, eqb-zero-suc, eqb-suc-suc}
use lib.ListN.{length, get_or, take, drop, length-drop}
use lib.Seq.{drop-drop}
use borrow.Author.Tests.{eqb-true, eq-eqb, ne_eqb, not-true}
use Rattle.ground.specs.Boundary.{is_zone}
use Rattle.lines.specs.Spell.{Command, capital, digit, in_name, all}
use Rattle.lines.specs.Text.{first_line, line_at}
use Rattle.lines.specs.Line.{Part, part, stopped, later, next, ◌then◌, nothing, one, run, some, text, name, number, spaced_number, zone_of}
use Rattle.lines.specs.Line.{use_rest, site_rest, two_names, path_rest, masts_rest, after_first, command}
use Rattle.lines.proofs.Laws.Place.{begins}

-- The first line of some bytes.
data FirstOf : List ℕ → List ℕ → Type 0 where
  none : FirstOf [] []
  feed : {l : List ℕ} → FirstOf (10 ∷ l) []
  more : {b : ℕ} {l m : List ℕ} → eqb b 10 ≡ false → FirstOf l m → FirstOf (b ∷ l) (b ∷ m)

first_of : (l : List ℕ) → FirstOf l (first_line l)
unfolding first_line
first_of [] = none
first_of (b ∷ l) = go (eqb b 10) refl (first_of l)
  where
    go : (t : Bool) → eqb b 10 ≡ t → FirstOf l (first_line l) → FirstOf (b ∷ l) (cond (eqb b 10) [] (b ∷ first_line l))
    go true e f = rw (eqb-true b 10 e) feed
    go false e f = rw e (more e f)

first_is : {l m : List ℕ} → FirstOf l m → first_line l ≡ m
unfolding first_line
first_is none = refl
first_is feed = refl
first_is (more {b} e f) = rw e (ap (λ w. b ∷ w) (first_is f))

-- what is left of the bytes has as its first line what is left of the line
first_left : {l m : List ℕ} (n : ℕ) → FirstOf l m → n ≤ length m → FirstOf (drop n l) (drop n m)
first_left zero f h = f
first_left (suc n) none h = absurd (omega arith)
first_left (suc n) feed h = absurd (omega arith)
first_left (suc n) (more e f) h = first_left n f (omega arith)

first_taken : {l m : List ℕ} (n : ℕ) → FirstOf l m → n ≤ length m → take n m ≡ take n l
first_taken zero f h = refl
first_taken (suc n) none h = absurd (omega arith)
first_taken (suc n) feed h = absurd (omega arith)
first_taken (suc n) (more {b} e f) h = ap (λ w. b ∷ w) (first_taken n f (omega arith))

-- how many bytes a part has, or how many are right
abbrev bytes : {A : Type 0} → Part A → ℕ
bytes (part a n) = n
bytes (stopped k) = k

-- A reader that sees the first line alone.
record Lined {A : Type 0} (reader : List ℕ → Part A) : Type 0 where
  same : {l m : List ℕ} → FirstOf l m → reader m ≡ reader l
  within : {l m : List ℕ} → FirstOf l m → bytes (reader l) ≤ length m

lined_nothing : {A : Type 0} (a : A) → Lined (nothing a)
lined_nothing a = record { same = λ f. refl; within = λ f. omega arith }

lined_one : (test : ℕ → Bool) → test 10 ≡ false → Lined (one test)
unfolding one
lined_one test t = record { same = same; within = within }
  where
    same : {l m : List ℕ} → FirstOf l m → one test m ≡ one test l
    same none = refl
    same feed = rw t
    same (more e f) = refl

    within : {l m : List ℕ} → FirstOf l m → bytes (one test l) ≤ length m
    within none = omega arith
    within feed = rw t (omega arith)
    within (more {b} {l} {m} e f) = go (test b)
      where
        go : (t : Bool) → bytes (cond t (part b 1) (stopped 0)) ≤ suc (length m)
        go true = omega arith
        go false = omega arith

lined_some : (test : ℕ → Bool) (n : ℕ) → test 10 ≡ false → Lined (some test n)
unfolding some run
lined_some test n t = record { same = λ f. rw (runs n f, first_taken (run test n _) f (within n f)); within = within n }
  where
    runs : {l m : List ℕ} (n : ℕ) → FirstOf l m → run test n m ≡ run test n l
    runs zero f = refl
    runs (suc n) none = refl
    runs (suc n) feed = rw t
    runs (suc n) (more e f) = rw (runs n f)

    within : {l m : List ℕ} (n : ℕ) → FirstOf l m → run test n l ≤ length m
    within zero f = omega arith
    within (suc n) none = omega arith
    within (suc n) feed = rw t (omega arith)
    within (suc n) (more {b} {l} {m} e f) = go (test b) (within n f)
      where
        go : (t : Bool) → run test n l ≤ length m → cond t (suc (run test n l)) 0 ≤ suc (length m)
        go true h = omega arith
        go false h = omega arith

lined_then : {A B : Type 0} {first : List ℕ → Part A} {second : A → List ℕ → Part B} → Lined first → ((a : A) → Lined (second a))
    → Lined (first then second)
lined_then {A} {B} {first} {second} u v = record { same = same; within = within }
  where
    same : {l m : List ℕ} → FirstOf l m → (first then second) m ≡ (first then second) l
    same {l} {m} f = rw (u.same f) (go (first l) (u.within f))
      where
        go : (p : Part A) → bytes p ≤ length m → next m p second ≡ next l p second
        go (part a n) h = rw ((v a).same (first_left n f h))
        go (stopped k) h = refl

    within : {l m : List ℕ} → FirstOf l m → bytes ((first then second) l) ≤ length m
    within {l} {m} f = go (first l) (u.within f)
      where
        later_bytes : (n : ℕ) (q : Part B) → bytes (later n q) ≡ n + bytes q
        later_bytes n (part b m) = refl
        later_bytes n (stopped k) = refl

        go : (p : Part A) → bytes p ≤ length m → bytes (next l p second) ≤ length m
        go (part a n) h = omega (arith, later_bytes n (second a (drop n l)), (v a).within (first_left n f h), length-drop n m, h)
        go (stopped k) h = h

lined_text : (w : List ℕ) → all (λ b. not (eqb b 10)) w ≡ true → Lined (text w)
unfolding text all
lined_text [] h = lined_nothing 0
lined_text (b ∷ w) h =
    let k = (and-eq-true_iff (not (eqb b 10)) (all (λ b. not (eqb b 10)) w)).0 h in
    lined_then (lined_one (eqb b) (not-true (eqb b 10) k.0)) λ v. lined_text w k.1

lined_name : Lined name
unfolding name
lined_name = lined_then (lined_one capital refl) λ b. lined_then (lined_some in_name 11 refl) λ w. lined_nothing (b ∷ w)

lined_number : Lined spaced_number
unfolding number spaced_number
lined_number =
    lined_then (lined_one (eqb 32) refl) λ s. lined_then (lined_one digit refl) λ b. lined_then (lined_some digit _ refl) λ w. lined_nothing _

lined_use : Lined use_rest
unfolding use_rest
lined_use =
    lined_then (lined_one (eqb 78) refl) λ n. lined_then (lined_one (λ c. leb 65 c && leb c 85) refl) λ c.
    lined_then (lined_one (λ d. leb 48 d && leb d 54) refl) λ d.
    lined_then (lined_one (λ e. digit e && is_zone (zone_of d e)) refl) λ e. lined_nothing _

lined_site : Lined site_rest
unfolding site_rest
lined_site = lined_then lined_name λ n. lined_then lined_number λ e. lined_then lined_number λ m. lined_nothing _

lined_names : {A : Type 0} (rest : List ℕ → List ℕ → List ℕ → Part A) → ((m n : List ℕ) → Lined (rest m n)) → Lined (two_names rest)
unfolding two_names
lined_names rest r = lined_then lined_name λ m. lined_then (lined_one (eqb 32) refl) λ s. lined_then lined_name λ n. r m n

lined_path : Lined path_rest
unfolding path_rest
lined_path = lined_names _ λ m n. lined_nothing _

lined_masts : Lined masts_rest
unfolding masts_rest
lined_masts = lined_names _ λ m n. lined_then lined_number λ a. lined_then lined_number λ b. lined_nothing _

lined_either : {A : Type 0} {u v : List ℕ → Part A} (t : Bool) → Lined u → Lined v → Lined (cond t u v)
lined_either true u v = u
lined_either false u v = v

lined_command : Lined command
unfolding command after_first all
lined_command = lined_then (lined_one _ refl) λ b.
    lined_either (eqb b 117) (lined_then (lined_text (115 ∷ 101 ∷ 32 ∷ []) refl) λ v. lined_use)
    (lined_either (eqb b 115) (lined_then (lined_text (105 ∷ 116 ∷ 101 ∷ 32 ∷ []) refl) λ v. lined_site)
    (lined_either (eqb b 112) (lined_then (lined_text (97 ∷ 116 ∷ 104 ∷ 32 ∷ []) refl) λ v. lined_path)
    (lined_then (lined_text (97 ∷ 115 ∷ 116 ∷ 115 ∷ 32 ∷ []) refl) λ v. lined_masts)))

-- a command is read from the first line alone
pub command_of_line : (l : List ℕ) → command (first_line l) ≡ command l
command_of_line l = lined_command.same (first_of l)

-- and ends within it, or goes wrong there
pub command_within : (l : List ℕ) {c : Command} {n : ℕ} → command l ≡ part c n → n ≤ length (first_line l)
command_within l e = rw e at (lined_command.within (first_of l))

pub wrong_within : (l : List ℕ) {k : ℕ} → command l ≡ stopped k → k ≤ length (first_line l)
wrong_within l e = rw e at (lined_command.within (first_of l))

-- a place of the first line is its end exactly if a line feed stands there, or the end of the bytes
pub line_ends : (l : List ℕ) (n : ℕ) → n ≤ length (first_line l) → eqb n (length (first_line l)) ≡ eqb (get_or l n 10) 10
line_ends l n h = go n (first_of l) h
  where
    go : {l m : List ℕ} (n : ℕ) → FirstOf l m → n ≤ length m → eqb n (length m) ≡ eqb (get_or l n 10) 10
    go zero none h = refl
    go zero feed h = refl
    go zero (more {m = m} e f) h = eqb-zero-suc (length m) ∙ sym e
    go (suc n) none h = absurd (omega arith)
    go (suc n) feed h = absurd (omega arith)
    go (suc n) (more {m = m} e f) h = eqb-suc-suc n (length m) ∙ go n f (omega arith)

-- a line is no longer than the bytes
pub line_short : (s : List ℕ) (from : ℕ) → length (line_at s from) ≤ length s
line_short s from = omega (arith, length-drop from s, go (first_of (drop from s)))
  where
    go : {l m : List ℕ} → FirstOf l m → length m ≤ length l
    go none = omega arith
    go feed = omega arith
    go (more e f) = suc-le-suc (go f)

-- the line at a place of a line ends where that line ends
pub same_end : (s : List ℕ) (from p : ℕ) → from ≤ p → p ≤ from + length (line_at s from) → p + length (line_at s p) ≡ from + length (line_at s from)
same_end s from p h g =
    let n = p - from in
    let there : drop n (drop from s) ≡ drop p s = drop-drop n from s ∙ ap (λ k. drop k s) whole in
    let rest : line_at s p ≡ drop n (line_at s from) = rw (← there) (first_is (first_left n (first_of (drop from s)) (omega arith))) in
    rw rest (omega (arith, length-drop n (line_at s from)))
  where
    whole : from + (p - from) ≡ p
    whole = omega arith

-- a line ends at its line feed
pub at_feed : (s : List ℕ) (at : ℕ) → at < length s → get_or s at 0 ≡ 10 → length (line_at s at) ≡ 0
unfolding first_line
at_feed s at h e = simp (begins s at 0 h, eq-eqb _ 10 e)

-- and not at another byte
pub past_byte : (s : List ℕ) (at : ℕ) → at < length s → (get_or s at 0 ≡ 10 → ⊥) → length (line_at s at) ≡ 1 + length (line_at s (at + 1))
unfolding first_line
past_byte s at h n = simp (begins s at 0 h, ne_eqb _ 10 n) (omega arith)
