-- How the functions read: one part after another, of which each may stop. What is handed over of the whole is what these steps come to. From the
-- definitions of the parts alone. Assumes nothing.
use mathlib.Core.Path.{◌≡◌, refl, sym, ◌∙◌, ap}
use mathlib.Core.Bool.{Bool, true, false, cond, ◌&&◌, ◌||◌}
use mathlib.Core.List.{List, [], ◌∷◌}
use Prim.Native.Nat.{ℕ, ◌+◌, ◌-◌, ◌*◌}
use native.Mathlib.Nat.{add_assoc, add-zero, zero-add}
use native.Mathlib.Omega.{arith}
use lib.Dec.{eqb, leb}
use lib.ListN.{get_or, drop}
use lib.Seq.{drop-drop}
use Rattle.std.specs.Prelude.{Result, Ok, Err}
use Rattle.ground.specs.Boundary.{is_zone}
use Rattle.lines.specs.Spell.{Command, «use», site, path, masts, digit}
use Rattle.lines.specs.Line.{Part, part, stopped, later, next, ◌then◌, nothing, one, text, name, number, spaced_number, zone_of, use_rest, site_rest, two_names}
use Rattle.lines.specs.Line.{path_rest, masts_rest, after_first, command}
use Rattle.lines.specs.Key.{key, keyed_command}
use Rattle.lines.specs.Inside.{TwoNames, found, byte_from, word_from, number_from, names_from, keys, both_names, said_from, text_from}
use Rattle.lines.specs.declared.Line.TheVariants as line
use Rattle.lines.specs.declared.Line.{Line}
use Rattle.lines.specs.declared.word.Token.{Token}
use Rattle.lines.proofs.Laws.Place.{passes, fails, first_stops, goes_on, halts}

-- Parts one after another:
module _ {A B : Type 0} (first : List ℕ → Part A) where
  -- the last of three may be taken with the second, or after the first two
  regroup : {C : Type 0} (second : A → List ℕ → Part B) (third : B → List ℕ → Part C) (l : List ℕ)
      → ((first then second) then third) l ≡ (first then λ a. second a then third) l
  regroup {C} second third l = go (first l)
    where
      lates : (n m : ℕ) (p : Part C) → later (n + m) p ≡ later n (later m p)
      lates n m (part c k) = rw add_assoc
      lates n m (stopped k) = rw add_assoc

      onwards : (n : ℕ) (q : Part B) → next l (later n q) third ≡ later n (next (drop n l) q third)
      onwards n (part b m) = rw drop-drop (lates n m (third b (drop (n + m) l)))
      onwards n (stopped k) = refl

      go : (p : Part A) → next l (next l p second) third ≡ next l p λ a. second a then third
      go (part a n) = onwards n (second a (drop n l))
      go (stopped k) = refl

  -- a second part that reads the same does as well
  alike : (second third : A → List ℕ → Part B) → ((a : A) (l : List ℕ) → second a l ≡ third a l) → (l : List ℕ)
      → (first then second) l ≡ (first then third) l
  alike second third same l = go (first l)
    where
      go : (p : Part A) → next l p second ≡ next l p third
      go (part a n) = rw (same a (drop n l))
      go (stopped k) = refl

-- what follows two names follows both
pub two_names_lem : {A : Type 0} (rest : List ℕ → List ℕ → List ℕ → Part A) (l : List ℕ)
    → two_names rest l ≡ (both_names then λ t. rest t.first t.second) l
unfolding two_names both_names
two_names_lem {A} rest l = sym (regroup name _ k l ∙ alike name _ _ (λ m l. regroup space _ k l ∙ alike space _ _ (λ b l. last m l) l) l)
  where
    space : List ℕ → Part ℕ
    space = one (eqb 32)

    k : TwoNames → List ℕ → Part A
    k t = rest t.first t.second

    none : (p : Part A) → later 0 p ≡ p
    none (part a n) = rw zero-add
    none (stopped k) = rw zero-add

    last : (m l : List ℕ) → ((name then λ n. nothing (record { first = m; second = n })) then k) l ≡ (name then λ n. rest m n) l
    last m l = regroup name _ k l ∙ alike name _ _ (λ n l. none (rest m n l)) l

-- what comes of a value, as `?` has it: an error is passed on
infixl 4 ◌>>=◌
abbrev pub ◌>>=◌ : {A B : Type 0} → Result A ℕ → (A → Result B ℕ) → Result B ℕ
Ok a >>= f = f a
Err e >>= f = Err e

-- what is handed over of no bytes
ends : {A B : Type 0} (says : A → B) (a : A) (at : ℕ) (l : List ℕ) → found says at (nothing a l) ≡ Ok (record { value = says a; at = at })
ends says a at l = ap (λ k. Ok (record { value = says a; at = k })) (add-zero at)

module _ {B D : Type 0} (says : B → D) (s : List ℕ) where
  -- what is read n bytes later
  shift : (from n : ℕ) (p : Part B) → found says from (later n p) ≡ found says (from + n) p
  shift from n (part b m) = rw add_assoc
  shift from n (stopped k) = rw add_assoc

  -- one part, then another
  step : {A C : Type 0} (tell : A → C) (first : List ℕ → Part A) (second : A → List ℕ → Part B) (rest : Token C → Result (Token D) ℕ) (from : ℕ)
      → ((a : A) (at : ℕ) → found says at (second a (drop at s)) ≡ rest (record { value = tell a; at = at }))
      → found says from ((first then second) (drop from s)) ≡ (found tell from (first (drop from s)) >>= rest)
  step {A} tell first second rest from h = go (first (drop from s))
    where
      go : (x : Part A) → found says from (next (drop from s) x second) ≡ (found tell from x >>= rest)
      go (part a n) = rw drop-drop (shift from n (second a (drop (from + n) s)) ∙ h a (from + n))
      go (stopped k) = refl

  -- the bytes of a word, then a part
  word_step : (w : List ℕ) (second : List ℕ → Part B) (from : ℕ)
      → found says from ((text w then λ v. second) (drop from s)) ≡ (text_from from (text w (drop from s)) >>= λ at. found says at (second (drop at s)))
  word_step w second from = go (text w (drop from s))
    where
      go : (x : Part ℕ) → found says from (next (drop from s) x λ v. second) ≡ (text_from from x >>= λ at. found says at (second (drop at s)))
      go (part v n) = rw drop-drop (shift from n (second (drop (from + n) s)))
      go (stopped k) = refl

  -- one byte, then a part
  byte_step : (test : ℕ → Bool) (second : ℕ → List ℕ → Part B) (from : ℕ) → test 10 ≡ false → (
      let b = get_or s from 10 in
      found says from ((one test then second) (drop from s)) ≡ cond (test b) (found says (from + 1) (second b (drop (from + 1) s))) (Err from)
      )
  byte_step test second from feed = go (test (get_or s from 10)) refl
    where
      go : (t : Bool) → test (get_or s from 10) ≡ t → (
          let b = get_or s from 10 in
          found says from ((one test then second) (drop from s)) ≡ cond t (found says (from + 1) (second b (drop (from + 1) s))) (Err from)
          )
      go true e = goes_on second (passes test s from refl feed e) says
      go false e = sym (halts says (first_stops second (fails test s from refl feed e)))

  -- one byte between two, then a part
  between_step : (first last : ℕ) (second : ℕ → List ℕ → Part B) (rest : ℕ → Result (Token D) ℕ) (from to : ℕ) → from + 1 ≡ to
      → (leb first 10 && leb 10 last) ≡ false → ((b : ℕ) → found says to (second b (drop to s)) ≡ rest (b - first))
      → found says from ((one (λ b. leb first b && leb b last) then second) (drop from s)) ≡ (byte_from s from first last >>= rest)
  between_step first last second rest from to is feed h =
      byte_step (λ b. leb first b && leb b last) second from feed ∙ rw is (go (leb first (get_or s from 10) && leb (get_or s from 10) last))
    where
      go : (t : Bool) → (
          let b = get_or s from 10 in
          cond t (found says to (second b (drop to s))) (Err from) ≡ (cond t (Ok (b - first)) (Err from) >>= rest)
          )
      go true = h (get_or s from 10)
      go false = refl

module _ (s : List ℕ) where
  -- the number after a space at a place
  abbrev number_at : ℕ → Result (Token ℕ) ℕ
  number_at at = number_from at (spaced_number (drop at s))

  -- a number of a command
  number_step : (second : ℕ → List ℕ → Part Command) (rest : Token ℕ → Result (Token Line) ℕ) (from : ℕ)
      → ((v at : ℕ) → found keyed_command at (second v (drop at s)) ≡ rest (record { value = v; at = at }))
      → said_from from ((spaced_number then second) (drop from s)) ≡ (number_at from >>= rest)
  number_step = step keyed_command s (λ v. v) spaced_number

module _ (s : List ℕ) (from : ℕ) where
  -- a space, then a number
  pub spaced_steps : (
      number_from from (spaced_number (drop from s))
      ≡ cond (eqb 32 (get_or s from 10)) (number_from (from + 1) (number (drop (from + 1) s))) (Err from)
      )
  unfolding spaced_number
  spaced_steps = byte_step (λ v. v) s (eqb 32) (λ b. number) from refl

  -- a name, a space, then a name
  pub names_steps : (
      names_from from (both_names (drop from s))
      ≡ (word_from from (name (drop from s)) >>= λ m.
      cond (eqb 32 (get_or s m.at 10))
      (word_from (m.at + 1) (name (drop (m.at + 1) s)) >>= λ n. Ok (record { value = (m.value, n.value); at = n.at })) (Err m.at))
      )
  unfolding both_names two_names
  names_steps =
      step keys s key name (λ m. one (eqb 32) then λ b. second m) (λ m. cond (eqb 32 (get_or s m.at 10)) (last m.value (m.at + 1)) (Err m.at)) from λ m at.
      byte_step keys s (eqb 32) (λ b. second m) at refl
      ∙ ap (λ x. cond (eqb 32 (get_or s at 10)) x (Err at))
      (step keys s key name (λ n. nothing (record { first = m; second = n })) (λ n. Ok (record { value = (key m, n.value); at = n.at })) (at + 1) λ n to.
      ends keys (record { first = m; second = n }) to (drop to s))
    where
      second : List ℕ → List ℕ → Part TwoNames
      second m = name then λ n. nothing (record { first = m; second = n })

      last : ℕ → ℕ → Result (Token (ℕ × ℕ)) ℕ
      last k at = word_from at (name (drop at s)) >>= λ n. Ok (record { value = (k, n.value); at = n.at })

  -- a name, then two numbers
  pub site_steps : (
      said_from from (site_rest (drop from s))
      ≡ (word_from from (name (drop from s)) >>= λ n. number_at s n.at >>= λ e. number_at s e.at >>= λ m.
      Ok (record { value = line.Site n.value e.value m.value; at = m.at }))
      )
  unfolding site_rest
  site_steps =
      step keyed_command s key name (λ n. spaced_number then λ e. spaced_number then λ m. nothing (site n e m))
      (λ n. number_at s n.at >>= λ e. number_at s e.at >>= λ m. Ok (record { value = line.Site n.value e.value m.value; at = m.at })) from λ n at.
      number_step s (λ e. spaced_number then λ m. nothing (site n e m))
      (λ e. number_at s e.at >>= λ m. Ok (record { value = line.Site (key n) e.value m.value; at = m.at })) at λ e at.
      number_step s (λ m. nothing (site n e m)) (λ m. Ok (record { value = line.Site (key n) e m.value; at = m.at })) at λ m at.
      ends keyed_command (site n e m) at (drop at s)

  -- two names
  pub path_steps : (
      said_from from (path_rest (drop from s))
      ≡ (names_from from (both_names (drop from s)) >>= λ t. Ok (record { value = line.Path t.value.0 t.value.1; at = t.at }))
      )
  unfolding path_rest
  path_steps =
      rw two_names_lem
      (step keyed_command s keys both_names (λ t. nothing (path t.first t.second))
      (λ t. Ok (record { value = line.Path t.value.0 t.value.1; at = t.at })) from λ t at.
      ends keyed_command (path t.first t.second) at (drop at s))

  -- two names, then two numbers
  pub masts_steps : (
      said_from from (masts_rest (drop from s))
      ≡ (names_from from (both_names (drop from s)) >>= λ t. number_at s t.at >>= λ a. number_at s a.at >>= λ b.
      Ok (record { value = line.Masts t.value.0 t.value.1 a.value b.value; at = b.at }))
      )
  unfolding masts_rest
  masts_steps =
      rw two_names_lem
      (step keyed_command s keys both_names (λ t. spaced_number then λ a. spaced_number then λ b. nothing (masts t.first t.second a b))
      (λ t. number_at s t.at >>= λ a. number_at s a.at >>= λ b. Ok (record { value = line.Masts t.value.0 t.value.1 a.value b.value; at = b.at })) from λ t at.
      number_step s (λ a. spaced_number then λ b. nothing (masts t.first t.second a b))
      (λ a. number_at s a.at >>= λ b. Ok (record { value = line.Masts (key t.first) (key t.second) a.value b.value; at = b.at })) at λ a at.
      number_step s (λ b. nothing (masts t.first t.second a b))
      (λ b. Ok (record { value = line.Masts (key t.first) (key t.second) a b.value; at = b.at })) at λ b at.
      ends keyed_command (masts t.first t.second a b) at (drop at s))

  -- N, a letter, and two digits of a zone
  pub use_steps : (
      said_from from (use_rest (drop from s))
      ≡ cond (eqb 78 (get_or s from 10))
      (byte_from s (from + 1) 65 85 >>= λ c. byte_from s (from + 2) 48 54 >>= λ d. byte_from s (from + 3) 48 57 >>= λ e.
      cond (is_zone (10 * d + e)) (Ok (record { value = line.Use (4 * c) (10 * d + e); at = from + 4 })) (Err (from + 3)))
      (Err from)
      )
  unfolding use_rest
  use_steps =
      byte_step keyed_command s (eqb 78) (λ b. letter) from refl
      ∙ ap (λ x. cond (eqb 78 (get_or s from 10)) x (Err from))
      (between_step keyed_command s 65 85 tens (λ c. byte_from s (from + 2) 48 54 >>= λ d. byte_from s (from + 3) 48 57 >>= said c d) (from + 1) (from + 2)
      (omega arith) refl λ c.
      between_step keyed_command s 48 54 (units c) (λ d. byte_from s (from + 3) 48 57 >>= said (c - 65) d) (from + 2) (from + 3) (omega arith) refl λ d.
      byte_step keyed_command s (is_units d) (λ e. nothing («use» (4 * (c - 65)) (zone_of d e))) (from + 3) refl
      ∙ last c d (digit (get_or s (from + 3) 10)))
    where
      is_units : ℕ → ℕ → Bool
      is_units d e = digit e && is_zone (zone_of d e)

      units : ℕ → ℕ → List ℕ → Part Command
      units c d = one (is_units d) then λ e. nothing («use» (4 * (c - 65)) (zone_of d e))

      tens : ℕ → List ℕ → Part Command
      tens c = one (λ d. leb 48 d && leb d 54) then units c

      letter : List ℕ → Part Command
      letter = one (λ c. leb 65 c && leb c 85) then tens

      said : ℕ → ℕ → ℕ → Result (Token Line) ℕ
      said c d e = cond (is_zone (10 * d + e)) (Ok (record { value = line.Use (4 * c) (10 * d + e); at = from + 4 })) (Err (from + 3))

      last : (c d : ℕ) (t : Bool) → (
          let e = get_or s (from + 3) 10 in
          cond (t && is_zone (zone_of d e))
          (said_from (from + 3 + 1) (nothing («use» (4 * (c - 65)) (zone_of d e)) (drop (from + 3 + 1) s))) (Err (from + 3))
          ≡ (cond t (Ok (e - 48)) (Err (from + 3)) >>= said (c - 65) (d - 48))
          )
      last c d true = let four : from + 3 + 1 + 0 ≡ from + 4 = omega arith in rw four
      last c d false = refl

  -- the first byte, the rest of its word, then what follows the word
  pub command_steps : (
      let b = get_or s from 10 in
      let after = λ (w : List ℕ) (rest : List ℕ → Part Command).
      text_from (from + 1) (text w (drop (from + 1) s)) >>= λ at. said_from at (rest (drop at s)) in
      said_from from (command (drop from s))
      ≡ cond (eqb b 117) (after (115 ∷ 101 ∷ 32 ∷ []) use_rest)
      (cond (eqb b 115) (after (105 ∷ 116 ∷ 101 ∷ 32 ∷ []) site_rest)
      (cond (eqb b 112) (after (97 ∷ 116 ∷ 104 ∷ 32 ∷ []) path_rest)
      (cond (eqb b 109) (after (97 ∷ 115 ∷ 116 ∷ 115 ∷ 32 ∷ []) masts_rest) (Err from))))
      )
  unfolding command after_first
  command_steps =
      byte_step keyed_command s (λ b. eqb b 117 || (eqb b 115 || (eqb b 112 || eqb b 109))) after_first from refl
      ∙ (let b = get_or s from 10 in go (eqb b 117) (eqb b 115) (eqb b 112) (eqb b 109))
    where
      is : List ℕ → (List ℕ → Part Command) → Result (Token Line) ℕ
      is w rest = text_from (from + 1) (text w (drop (from + 1) s)) >>= λ at. said_from at (rest (drop at s))

      go : (t u v w : Bool) → (
          let u_word : List ℕ = 115 ∷ 101 ∷ 32 ∷ [] in
          let s_word : List ℕ = 105 ∷ 116 ∷ 101 ∷ 32 ∷ [] in
          let p_word : List ℕ = 97 ∷ 116 ∷ 104 ∷ 32 ∷ [] in
          let m_word : List ℕ = 97 ∷ 115 ∷ 116 ∷ 115 ∷ 32 ∷ [] in
          let first = cond t (text u_word then λ _. use_rest) (cond u (text s_word then λ _. site_rest)
          (cond v (text p_word then λ _. path_rest) (text m_word then λ _. masts_rest))) in
          cond (t || (u || (v || w))) (said_from (from + 1) (first (drop (from + 1) s))) (Err from)
          ≡ cond t (is u_word use_rest) (cond u (is s_word site_rest) (cond v (is p_word path_rest) (cond w (is m_word masts_rest) (Err from))))
          )
      go true u v w = word_step keyed_command s _ use_rest (from + 1)
      go false true v w = word_step keyed_command s _ site_rest (from + 1)
      go false false true w = word_step keyed_command s _ path_rest (from + 1)
      go false false false true = word_step keyed_command s _ masts_rest (from + 1)
      go false false false false = refl
