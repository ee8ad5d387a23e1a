-- Demand 1 from the one entry of a call: what its contract is, what it comes to and in which order it refuses, and how its answer shows that. From the laws
-- of lines. Assumes nothing.
use mathlib.Core.Path.{◌≡◌, sym, ◌∙◌}
use mathlib.Core.List.{List, [], ◌∷◌}
use Prim.Native.Nat.{ℕ}
use Rattle.ground.specs.Outcome.{Outcome, given, refused, refusal_number, refusal_place}
use Rattle.janlishuk.specs.Order.{Line}
use Rattle.janlishuk.specs.Call.{Shown, by_number, Says, Bare, Same, Call, Demand1, EachMeets}
use Rattle.janlishuk.proofs.Laws.Line.{InOrder, first_of}

-- what it is to answer an outcome, for a call whose results show a refusal in this way
pub record Shape (G R : Type 0) (shown : Shown R) : Type 1 where
  pub Means : Outcome G → R → Type 0
  pub says : (o : Outcome G) (r : R) → Means o r → {ls : List Line} → InOrder ls o → Says shown ls r
  pub bare : (o : Outcome G) (r : R) → Means o r → Bare shown r
  pub once : (o : Outcome G) (r s : R) → Means o r → Means o s → Same shown r s

module _ {G R : Type 0} {refusal place : R → ℕ} {bare : ℕ → ℕ → R} where
  -- An answer shows a refusal by its number if its meaning gives it the outcome's number and place, and beside a refusal nothing else.
  module _ (Means : Outcome G → R → Type 0)
      (numbers : (o : Outcome G) (r : R) → Means o r → (refusal r ≡ refusal_number o) × (place r ≡ refusal_place o))
      (rest : (number at : ℕ) (r : R) → Means (refused number at) r → r ≡ bare number at) where
    pub carries : (o : Outcome G) (r : R) → Means o r → Bare (by_number refusal place bare) r
    carries (given v) r h n = absurd (n (numbers (given v) r h).0)
    carries (refused number at) r h n =
        let of = numbers (refused number at) r h in
        rw (of.0, of.1) (rest number at r h)

    abbrev pub by_number_lem : ((o : Outcome G) (r s : R) → Means o r → Means o s → r ≡ s) → Shape G R (by_number refusal place bare)
    by_number_lem once =
        record {
          Means = Means;
          says = λ o r h i. rw ((numbers o r h).0, (numbers o r h).1) (first_of i);
          bare = carries;
          once = once;
        }

  -- a struct means an outcome if it is the answer to it
  abbrev pub as_struct : (answer : Outcome G → R)
      → ((o : Outcome G) → (refusal (answer o) ≡ refusal_number o) × (place (answer o) ≡ refusal_place o))
      → ((number at : ℕ) → answer (refused number at) ≡ bare number at) → Shape G R (by_number refusal place bare)
  as_struct answer numbers rest =
      by_number_lem (λ o r. r ≡ answer o) (λ o r e. rw e (numbers o)) (λ number at r e. e ∙ rest number at) (λ o r s e f. e ∙ sym f)

-- a call, and that it meets demand 1
pub record Entry : Type 1 where
  pub call : Call
  pub meets : Demand1 call

-- the calls of a list of entries
abbrev pub calls_of : List Entry → List Call
calls_of [] = []
calls_of (e ∷ es) = e.call ∷ calls_of es

-- each of them meets demand 1
pub each_meets : (es : List Entry) → EachMeets (calls_of es)
each_meets [] = tt
each_meets (e ∷ es) = (e.meets, each_meets es)

module _ {K : Type 0} {A R S : K → Type 0} (asked : (κs : K) → A κs → Type 0) (told : (κs : K) → A κs → R κs → S κs → Type 0) where
  -- What a caller has of a call with this contract is `seen`.
  module _ {Has : K → Type 0} (seen : (κs : K) → R κs → S κs → Has κs) where
    -- what is entered of the call
    pub record Answers (G : Type 0) : Type 1 where
      -- what is said of it: its promise, its numbers in their order, how it shows a refusal, and what stays unwritten
      pub promised : (κs : K) → A κs → R κs → S κs → Type 0
      pub order : (κs : K) → A κs → List Line
      pub shown : (κs : K) → A κs → Shown (Has κs)
      pub Unwritten : (κs : K) → A κs → S κs → Type 0
      -- why: what it comes to, and what it is to answer that; its contract asks nothing and tells its promise, its promise is that what the caller has
      -- answers what it comes to, and that is refused in its order
      pub outcome : (κs : K) → A κs → Outcome G
      pub shape : (κs : K) (a : A κs) → Shape G (Has κs) (shown κs a)
      pub asks : (κs : K) (a : A κs) → asked κs a
      pub promises : (κs : K) (a : A κs) (r : R κs) (x : S κs) → told κs a r x → promised κs a r x
      pub keeps : (κs : K) (a : A κs) (r : R κs) (x : S κs) → promised κs a r x → (shape κs a).Means (outcome κs a) (seen κs r x) × Unwritten κs a x
      pub ordered : (κs : K) (a : A κs) → InOrder (order κs a) (outcome κs a)

    -- what it answers
    pub answers : {G : Type 0} (e : Answers G) (κs : K) (a : A κs) (r : R κs) (x : S κs) → told κs a r x
        → (e.shape κs a).Means (e.outcome κs a) (seen κs r x)
    answers e κs a r x h = (e.keeps κs a r x (e.promises κs a r x h)).0

    -- demand 1 follows
    abbrev pub filling : {G : Type 0} → Answers G → Entry
    filling e =
        record {
          call = record {
            K = K;
            A = A;
            R = R;
            S = S;
            asked = asked;
            told = told;
            promised = e.promised;
            order = e.order;
            Has = Has;
            seen = seen;
            shown = e.shown;
            Unwritten = e.Unwritten;
          };
          meets = record {
            keeps_promise = e.promises;
            answers_or_refuses = λ κs a r x h. (e.shape κs a).says _ _ (answers e κs a r x h) (e.ordered κs a);
            asks_nothing = e.asks;
            carries_only = λ κs a r x h. (e.shape κs a).bare _ _ (answers e κs a r x h);
            never_writes = λ κs a r x h. (e.keeps κs a r x (e.promises κs a r x h)).1;
            once = λ κs a r s x y h k. (e.shape κs a).once _ _ _ (answers e κs a r x h) (answers e κs a s y k);
          };
        }

  -- of a call that fills nothing, a caller has the result alone
  abbrev pub entered : {G : Type 0} → Answers (λ κs r x. r) G → Entry
  entered e = filling (λ κs r x. r) e
