-- What the tests of a byte say, and the digit of a character of a name. From the definitions of the tests alone. Assumes nothing.
use mathlib.Core.Path.{◌≡◌, refl, sym, ◌∙◌}
use mathlib.Core.Bool.{Bool, true, false, cond, not, ◌&&◌, ◌||◌, and-eq-true_iff, true≢false}
use mathlib.Core.Logic.{◌⊎◌, inl, inr, ⊎_elim}
use Prim.Native.Nat.{ℕ, ◌≤◌, ◌<◌}
use native.Mathlib.Omega.{arith}
use lib.Dec.{leb, ltb, eqb}
use borrow.Author.Tests.{leb-true, leb-false, le-ltb, lt-ltb, ne_eqb}
use Rattle.std.specs.Prelude.{Some, None}
use Rattle.lines.specs.Spell.{capital, digit, in_name}
use Rattle.lines.specs.Key.{letter}
use Rattle.lines.specs.Inside.{figure}

-- what the two comparisons of a range say
pub between : (a r b : ℕ) → (leb a r && leb r b) ≡ true → (a ≤ r) × (r ≤ b)
between a r b e = let h = (and-eq-true_iff (leb a r) (leb r b)).0 e in (leb-true a r h.0, leb-true r b h.1)

-- a number is in a range exactly if it is neither below nor above it
pub beyond : (a r b : ℕ) → (leb a r && leb r b) ≡ not (ltb r a || ltb b r)
beyond a r b = go (leb a r) (leb r b) refl refl
  where
    go : (s t : Bool) → leb a r ≡ s → leb r b ≡ t → (leb a r && leb r b) ≡ not (ltb r a || ltb b r)
    go true true e f = simp (e, f, le-ltb r a (leb-true a r e), le-ltb b r (leb-true r b f))
    go true false e f = simp (e, f, le-ltb r a (leb-true a r e), lt-ltb b r (leb-false r b f))
    go false t e f = simp (e, lt-ltb r a (leb-false a r e))

module _ (b : ℕ) where
  -- the digit of a capital is 1 to 26, of another character of a name 27 to 37, of no other byte
  abbrev Digit : Type 0
  Digit = ((capital b ≡ true) × (1 ≤ letter b) × (letter b ≤ 26))
      ⊎ (((capital b ≡ false) × (in_name b ≡ true) × (26 < letter b) × (letter b ≤ 37)) ⊎ ((capital b ≡ false) × (in_name b ≡ false) × (letter b ≡ 0)))

  digit_is : Digit
  unfolding letter
  digit_is = go (capital b) (digit b) (eqb b 45) refl refl refl
    where
      go : (c d h : Bool) → capital b ≡ c → digit b ≡ d → eqb b 45 ≡ h → Digit
      go true d h p q r = let k = between 65 b 90 p in inl (p, simp p (omega (arith, k.0, k.1)), simp p (omega (arith, k.0, k.1)))
      go false true h p q r =
          let k = between 48 b 57 q in
          inr (inl (p, simp (p, q), simp (p, q) (omega (arith, k.0, k.1)), simp (p, q) (omega (arith, k.0, k.1))))
      go false false true p q r = inr (inl (p, simp (p, q, r), simp (p, q, r) (omega arith), simp (p, q, r) (omega arith)))
      go false false false p q r = inr (inr (p, simp (p, q, r), simp (p, q, r)))

  -- the digit of a character of a name is less than 38
  pub letter_small : letter b < 38
  letter_small = ⊎_elim (λ k. omega (arith, k.2)) (⊎_elim (λ k. omega (arith, k.3)) λ k. omega (arith, k.2)) digit_is

  -- a byte is a character of a name exactly if its digit is not 0
  pub letter_in_name : in_name b ≡ not (eqb (letter b) 0)
  letter_in_name = ⊎_elim (λ k. simp (k.0, ne_eqb (letter b) 0 λ e. omega (arith, k.1)))
      (⊎_elim (λ k. k.1 ∙ simp (ne_eqb (letter b) 0 λ e. omega (arith, k.2))) λ k. k.1 ∙ simp k.2) digit_is

  -- and a capital exactly if its digit is neither 0 nor more than 26
  pub letter_capital : capital b ≡ not (eqb (letter b) 0 || ltb 26 (letter b))
  letter_capital = ⊎_elim (λ k. k.0 ∙ simp (ne_eqb (letter b) 0 (λ e. omega (arith, k.1)), le-ltb 26 (letter b) k.2))
      (⊎_elim (λ k. k.0 ∙ simp (ne_eqb (letter b) 0 (λ e. omega (arith, k.2)), lt-ltb 26 (letter b) k.2)) λ k. k.0 ∙ simp k.2) digit_is

  -- a figure is the digit of a character of a name
  pub figure_is : {d : ℕ} → Some d ≡ figure b → (in_name b ≡ true) × (d ≡ letter b)
  figure_is {d} e = go (in_name b) e
    where
      go : (t : Bool) → Some d ≡ cond t (Some (letter b)) None → (t ≡ true) × (d ≡ letter b)
      go true e = (refl, cc)
      go false e = absurd cc

  -- no other byte has one
  pub figure_none : None ≡ figure b → in_name b ≡ false
  figure_none e = go (in_name b) e
    where
      go : (t : Bool) → None ≡ cond t (Some (letter b)) None → t ≡ false
      go true e = absurd cc
      go false e = refl

  -- a figure up to 26 is that of a capital
  pub figure_capital : {d : ℕ} → Some d ≡ figure b → d ≤ 26 → capital b ≡ true
  figure_capital e h =
      let f = figure_is e in
      ⊎_elim (λ k. k.0) (⊎_elim (λ k. absurd (omega (arith, f.1, k.2))) λ k. absurd (true≢false (sym f.0 ∙ k.1))) digit_is

  -- a byte that is no capital has no figure, or a greater one
  pub not_capital : ((d : ℕ) → Some d ≡ figure b → 26 < d) → capital b ≡ false
  not_capital n =
      ⊎_elim (λ k. absurd (omega (arith, n (letter b) (some k.0), k.2))) (⊎_elim (λ k. k.0) λ k. k.0) digit_is
    where
      some : capital b ≡ true → Some (letter b) ≡ figure b
      some e = rw e
