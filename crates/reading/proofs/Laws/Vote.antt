-- What `vote` means: its code has the greatest sum of weights, and of those that tie it is the smallest; no other code has both. And where it is found: the
-- greatest of the eight sums, ties to the smaller code, is that of a corner that weighs in; of two codes it is the nearer one's. From the laws of weights.
-- Assumes nothing.
use mathlib.Core.Path.{◌≡◌, refl, sym, ◌∙◌, ap, subst}
use mathlib.Core.Logic.{◌⊎◌, inl, inr, ⊎_elim}
use mathlib.Core.Bool.{Bool, true, false, cond, ◌&&◌, and-eq-true_iff}
use mathlib.Core.List.{List, [], ◌∷◌}
use Prim.Native.Nat.{ℕ, zero, suc, ◌+◌, ◌-◌, ◌*◌, ◌≤◌, ◌<◌, max}
use Rattle.std.proofs.Math.Nat.{le-max_left, le-max_right, max-eq_left, max-eq_right}
use native.Mathlib.Nat.{le_of_lt, le_refl, le_of_eq, eq-or-lt_of_le, mul-le-mul_left, mul-lt-mul_of_pos_left}
use native.Mathlib.Decide.{dec_lt}
use native.Mathlib.Omega.{arith}
use lib.Dec.{eqb, eqb-suc-zero}
use borrow.Author.Tests.{lt-ltb, le-ltb, eqb-true, eqb-false, eq-eqb, ne_eqb}
use Rattle.ground.specs.declared.place.Place.{Place}
use Rattle.ground.proofs.Laws.Place.{Weighs, weighs}
use Rattle.index.specs.Bytes.{nth}
use Rattle.terrain.specs.Word.{code_of}
use Rattle.terrain.specs.Inside.{Measured}
use Rattle.reading.specs.Corner.{Corner, Corners, corner}
use Rattle.reading.specs.Vote.{weight_for, sum_for, greatest, Greatest, vote}
use Rattle.reading.specs.Inside.{first, second, weight_in, sum_in, Decides, joined, rank_of, told_by, weight_of, total_of, Reached, Top, from_to, corners_around, corners_along}
use Rattle.reading.specs.declared.edge.Edge.{Edge}
use Rattle.reading.specs.declared.vote.Sum.{Sum}

-- only one number is greatest in this sense
pub greatest_only : {f : ℕ → ℕ} {n a b : ℕ} → Greatest f n a → Greatest f n b → a ≡ b
greatest_only {f} {n} {a} {b} g h = go (dec_lt a b) (dec_lt b a)
  where
    go : Dec (a < b) → Dec (b < a) → a ≡ b
    go (yes l) d = omega (arith, h.tie a l, g.most b h.within)
    go (no l) (yes m) = omega (arith, g.tie b m, h.most a g.within)
    go (no l) (no m) = omega arith

-- the number that `greatest` gives: 0 of the number 0 alone; the next number where f is greater there, else the one so far
pub greatest_is : (f : ℕ → ℕ) (n : ℕ) → Greatest f n (greatest f n)
unfolding greatest
greatest_is f zero =
    record {
      within = le_refl 0;
      most = λ k l. let e : k ≡ 0 = omega arith in rw e (le_refl (f 0));
      tie = λ k l. omega arith;
    }
greatest_is f (suc n) = go (greatest_is f n) (dec_lt (f (greatest f n)) (f (suc n)))
  where
    go : Greatest f n (greatest f n) → Dec (f (greatest f n) < f (suc n)) → Greatest f (suc n) (greatest f (suc n))
    go g (yes h) =
        rw (lt-ltb _ _ h)
        (record {
          within = le_refl (suc n);
          most = λ k l. ⊎_elim (λ e. le_of_eq (ap f e)) (λ lt. omega (arith, g.most k (omega arith))) (eq-or-lt_of_le l);
          tie = λ k l. omega (arith, g.most k (omega arith));
        })
    go g (no h) =
        let less : f (suc n) ≤ f (greatest f n) = omega arith in
        rw (le-ltb _ _ less)
        (record {
          within = omega (arith, g.within);
          most = λ k l. ⊎_elim (λ e. rw e less) (λ lt. g.most k (omega arith)) (eq-or-lt_of_le l);
          tie = g.tie;
        })

-- a function with the same values at the numbers 0 to n is greatest at the same one
pub greatest_by : {f g : ℕ → ℕ} {n best : ℕ} → ((k : ℕ) → k ≤ n → f k ≡ g k) → Greatest f n best → Greatest g n best
greatest_by {best = best} e h =
    let at = e best h.within in
    record {
      within = h.within;
      most = λ k l. omega (arith, e k l, h.most k l);
      tie = λ k l. omega (arith, e k (omega arith), h.tie k l);
    }

-- the surface code is, of the codes 0 to 7, the one with the greatest sum of weights, ties to the smaller code
pub vote_is : (c : Corners) → Greatest (sum_for c) 7 (vote c)
unfolding vote
vote_is c = greatest_is (sum_for c) 7

-- weight 0 is weight 0 for every code
pub no_weight : (t : Bool) → ◌≡◌ {A = ℕ} (cond t 0 0) 0
no_weight true = refl
no_weight false = refl

-- a corner weighs for a code its weight if its word has the code, looked at or not
pub corner_for : (bytes : List ℕ) (code w weight : ℕ) → weight_for code (corner bytes w weight) ≡ cond (eqb (code_of (nth bytes w)) code) weight 0
unfolding corner
corner_for bytes code w zero = no_weight (eqb 0 code) ∙ sym (no_weight (eqb (code_of (nth bytes w)) code))
corner_for bytes code w (suc n) = rw eqb-suc-zero

-- a sum weighs all of it for its own code
own : (s : Sum) → weight_in s.code s ≡ s.weight
own s = rw (eq-eqb s.code s.code refl)

-- and nothing for another
pub other : (s : Sum) (code : ℕ) → (s.code ≡ code → ⊥) → weight_in code s ≡ 0
other s code n = rw (ne_eqb s.code code n)

-- two sums of one code weigh as much for any code as one
as_one : (s t : Sum) → s.code ≡ t.code → (code : ℕ) → weight_in code (joined s t) ≡ weight_in code s + weight_in code t
as_one s t e code = rw (← e) (go (eqb s.code code))
  where
    go : (b : Bool) → cond b (s.weight + t.weight) 0 ≡ cond b s.weight 0 + cond b t.weight 0
    go true = refl
    go false = refl

-- what holds of two numbers holds of the greater
max_either : (P : ℕ → Type 0) (a b : ℕ) → P a → P b → P (max a b)
max_either P a b p q = go (dec_lt a b)
  where
    go : Dec (a < b) → P (max a b)
    go (yes l) = rw (max-eq_right (le_of_lt l)) q
    go (no l) = let m : b ≤ a = omega arith in rw (max-eq_left m) p

-- sums that weigh the same for every code have the same highest rank
pub top_by : {l o : List Sum} {m : ℕ} → ((code : ℕ) → sum_in l code ≡ sum_in o code) → Top l m → Top o m
top_by e t =
    let r = t.reached in
    record {
      reached = record { best = r.best; within = r.within; is = r.is; most = omega (arith, r.most, e r.best.code) };
      highest = λ code h. rw (← e code) (t.highest code (omega (arith, e code)));
    }

-- a sum is joined with another one of its code, which stands among those that follow
pub top_joined : (s t : Sum) (l o : List Sum) {m : ℕ} → s.code ≡ t.code → ((code : ℕ) → sum_in o code ≡ weight_in code t + sum_in l code)
    → Top (joined s t ∷ l) m → Top (s ∷ o) m
top_joined s t l o e with = top_by (λ code. omega (arith, as_one s t e code, with code))

-- a sum whose code no other has is ranked by itself: the highest rank is its own, or that of the others
pub top_more : (s : Sum) (l : List Sum) (m : ℕ) → s.code ≤ 7 → sum_in l s.code ≡ 0 → Top l m → Top (s ∷ l) (max (rank_of s) m)
top_more s l m within alone t =
    let r = t.reached in
    record {
      reached =
          max_either (Reached (s ∷ l)) (rank_of s) m
          (record { best = s; within = within; is = refl; most = omega (arith, own s) })
          (record { best = r.best; within = r.within; is = r.is; most = omega (arith, r.most) });
      highest = λ code h. go code (eqb s.code code) refl h;
    }
  where
    go : (code : ℕ) (b : Bool) → eqb s.code code ≡ b → 0 < cond b s.weight 0 + sum_in l code
        → rank_of (record { code = code; weight = cond b s.weight 0 + sum_in l code }) ≤ max (rank_of s) m
    go code true e h = rw (← eqb-true s.code code e) (omega (arith, alone, le-max_left (rank_of s) m))
    go code false e h = omega (arith, t.highest code (omega arith), le-max_right (rank_of s) m)

-- the highest rank of no sums is that of nothing, for any code
top_none : (code : ℕ) → code ≤ 7 → Top [] (rank_of (record { code = code; weight = 0 }))
top_none code within =
    record {
      reached = record { best = record { code = code; weight = 0 }; within = within; is = refl; most = le_refl 0 };
      highest = λ k h. absurd (omega arith);
    }

-- the highest rank of one sum is its own
top_one : (s : Sum) → s.code ≤ 7 → Top (s ∷ []) (rank_of s)
top_one s within =
    let least : rank_of (record { code = s.code; weight = 0 }) ≤ rank_of s = omega arith in
    rw (max-eq_left least) at (top_more s [] _ within refl (top_none s.code within))

-- the highest rank of two sums, of one code and of two
pub top_two_same : (a b : Sum) → a.code ≤ 7 → a.code ≡ b.code → Top (a ∷ b ∷ []) (rank_of (joined a b))
top_two_same a b p e = top_joined a b [] (b ∷ []) e (λ k. refl) (top_one (joined a b) p)

pub top_two : (a b : Sum) → a.code ≤ 7 → b.code ≤ 7 → (a.code ≡ b.code → ⊥) → Top (a ∷ b ∷ []) (max (rank_of a) (rank_of b))
top_two a b p q n = top_more a (b ∷ []) (rank_of b) p (omega (arith, other b a.code (λ e. n (sym e)))) (top_one b q)

-- sums that weigh something weigh something for a code
some_code : (l : List Sum) → 0 < weight_of l → (code : ℕ) × (0 < sum_in l code)
some_code [] h = absurd (omega arith)
some_code (s ∷ l) h = go (dec_lt 0 (weight_of l)) (some_code l)
  where
    go : Dec (0 < weight_of l) → (0 < weight_of l → (code : ℕ) × (0 < sum_in l code)) → (code : ℕ) × (0 < sum_in (s ∷ l) code)
    go (yes some) rest = let r = rest some in (r.0, omega (arith, r.1))
    go (no none) rest = (s.code, omega (arith, own s))

-- the highest rank of sums that weigh something tells the code that they decide for
pub top_decides : (l : List Sum) (m : ℕ) → 0 < weight_of l → Top l m → Decides l (told_by m)
top_decides l m some t =
    let r = t.reached in
    let e : told_by m ≡ r.best.code = omega (arith, r.within, r.is) in
    rw e (record { within = r.within; most = λ k b. let h = higher k b in omega arith; tie = λ k b. let h = higher k (omega arith) in omega arith })
  where
    higher : (k : ℕ) → k ≤ 7 → rank_of (total_of l k) ≤ rank_of (total_of l t.reached.best.code)
    higher k b = go (dec_lt 0 (sum_in l k))
      where
        go : Dec (0 < sum_in l k) → rank_of (total_of l k) ≤ rank_of (total_of l t.reached.best.code)
        go (yes p) = omega (arith, t.highest k p, t.reached.is, t.reached.most)
        go (no p) = let c = some_code l some in omega (arith, t.highest c.0 c.1, t.reached.is, t.reached.most)

-- Of two sums that weigh something:
module _ (a b : Sum) (some : 0 < a.weight + b.weight) (p : a.code ≤ 7) (q : b.code ≤ 7) where
  -- a rank of this code that is the highest decides for it
  told : (s : Sum) → s.code ≤ 7 → Top (a ∷ b ∷ []) (rank_of s) → Decides (a ∷ b ∷ []) s.code
  told s h t = let e : told_by (rank_of s) ≡ s.code = omega arith in rw e at (top_decides (a ∷ b ∷ []) (rank_of s) (omega arith) t)

  -- the first decides where the second has no higher rank
  pub first_decides : rank_of b ≤ rank_of a → Decides (a ∷ b ∷ []) a.code
  first_decides h = go (eqb a.code b.code) refl
    where
      go : (t : Bool) → eqb a.code b.code ≡ t → Decides (a ∷ b ∷ []) a.code
      go true e = told (joined a b) p (top_two_same a b p (eqb-true _ _ e))
      go false e = told a p (rw (max-eq_left h) at (top_two a b p q (eqb-false _ _ e)))

  -- and the second where the first has none
  pub second_decides : rank_of a ≤ rank_of b → Decides (a ∷ b ∷ []) b.code
  second_decides h = go (eqb a.code b.code) refl
    where
      go : (t : Bool) → eqb a.code b.code ≡ t → Decides (a ∷ b ∷ []) b.code
      go true e =
          let same = eqb-true a.code b.code e in
          subst (λ (x : ℕ). Decides (a ∷ b ∷ []) x) same (told (joined a b) p (top_two_same a b p same))
      go false e = told b q (rw (max-eq_right h) at (top_two a b p q (eqb-false a.code b.code e)))

-- The vote is what sums decide for that weigh for every code a part of what the corners weigh for it, the same for each.
vote_by : (c : Corners) (l : List Sum) (n : ℕ) {code : ℕ} → 0 < n → ((k : ℕ) → n * sum_in l k ≡ sum_for c k) → Decides l code → code ≡ vote c
vote_by c l n {code} some e d =
    greatest_only
    (record {
      within = d.within;
      most = λ k h. rw (← e k, ← e code) (mul-le-mul_left n (d.most k h));
      tie = λ k h. rw (← e k, ← e code) (mul-lt-mul_of_pos_left (d.tie k h) some);
    })
    (vote_is c)

-- the corners as sums of one corner each
abbrev pub sums_of : Corners → List Sum
sums_of c =
    let of : Corner → Sum = λ k. record { code = k.code; weight = k.weight } in
    of c.sw ∷ of c.se ∷ of c.nw ∷ of c.ne ∷ []

-- they weigh for a code what the corners do
sums_are : (c : Corners) (code : ℕ) → sum_in (sums_of c) code ≡ sum_for c code
unfolding sum_for
sums_are c code = omega arith

-- what the four sums decide for is the vote
pub four_vote : (c : Corners) {code : ℕ} → Decides (sums_of c) code → code ≡ vote c
four_vote c = vote_by c (sums_of c) 1 (omega arith) (λ k. omega (arith, sums_are c k))

-- weights of one code that make 500 times another
both : (t : Bool) (v w u : ℕ) → v + w ≡ 500 * u → cond t v 0 + cond t w 0 ≡ 500 * cond t u 0
both true v w u e = e
both false v w u e = refl

-- two corners of a code and two of another, which weigh 500 times what two codes weigh f metres along a unit
two_codes : (from to f k : ℕ) (v w x y : ℕ) → v + x ≡ 500 * (500 - f) → w + y ≡ 500 * f
    → 500 * sum_in (from_to f from to) k ≡ cond (eqb from k) v 0 + cond (eqb to k) w 0 + cond (eqb from k) x 0 + cond (eqb to k) y 0
two_codes from to f k v w x y h g = omega (arith, both (eqb from k) v x (500 - f) h, both (eqb to k) w y f g)

-- the weights at a place make 500 times fx in the east, 500 times fy in the north, and 250,000 together
pub weigh : (p : Place) → Measured p → Weighs p.fx p.fy p.weights
weigh p m = rw m.weights (weighs p.fx p.fy (omega (arith, m.x)) (omega (arith, m.y)))

-- Of a point between two edges
module _ (s n : Edge) (p : Place) (m : Measured p) where
  -- the codes of the four corners
  abbrev sw : ℕ
  sw = code_of (first s.0)

  abbrev se : ℕ
  se = code_of (second s.0)

  abbrev nw : ℕ
  nw = code_of (first n.0)

  abbrev ne : ℕ
  ne = code_of (second n.0)

  -- where the edges have the same codes, the vote is between west and east
  pub columns_vote : {code : ℕ} → (eqb sw nw && eqb se ne) ≡ true → Decides (from_to p.fx.0 sw se) code → code ≡ vote (corners_around s n p.weights)
  unfolding sum_for
  columns_vote alike =
      let t = (and-eq-true_iff (eqb sw nw) (eqb se ne)).0 alike in
      let k = p.weights in
      vote_by (corners_around s n k) (from_to p.fx.0 sw se) 500 (omega arith)
      λ c.
      rw (← eqb-true sw nw t.0, ← eqb-true se ne t.1)
      (two_codes sw se p.fx.0 c k.sw k.se k.nw k.ne (omega (arith, weigh p m, m.x)) (omega (arith, weigh p m)))

  -- where each edge has one code, it is between south and north
  pub rows_vote : {code : ℕ} → eqb sw se ≡ true → eqb nw ne ≡ true → Decides (from_to p.fy.0 sw nw) code → code ≡ vote (corners_around s n p.weights)
  unfolding sum_for
  rows_vote south north =
      let k = p.weights in
      vote_by (corners_around s n k) (from_to p.fy.0 sw nw) 500 (omega arith)
      λ c.
      let sums = two_codes sw nw p.fy.0 c k.sw k.nw k.se k.ne (omega (arith, weigh p m, m.y)) (omega (arith, weigh p m)) in
      rw (← eqb-true sw se south, ← eqb-true nw ne north) (omega (arith, sums))

-- on an edge the two codes at its ends decide
pub along_vote : (e : Edge) (f : ℕ) {code : ℕ} → Decides (from_to f (code_of (first e.0)) (code_of (second e.0))) code → code ≡ vote (corners_along e f)
unfolding sum_for
along_vote e f =
    let from = code_of (first e.0) in
    let to = code_of (second e.0) in
    vote_by (corners_along e f) (from_to f from to) 500 (omega arith)
    λ k.
    let sums = two_codes from to f k (500 * (500 - f)) (500 * f) 0 0 (omega arith) (omega arith) in
    omega (arith, sums, no_weight (eqb from k), no_weight (eqb to k), no_weight (eqb 0 k))

-- one of the sums has the code, and weighs something
abbrev pub SomeHas : List Sum → ℕ → Type 0
SomeHas [] code = ⊥
SomeHas (s ∷ l) code = ((s.code ≡ code) × (0 < s.weight)) ⊎ SomeHas l code

-- a code for which sums weigh something is that of one that weighs something
some_has : (l : List Sum) (code : ℕ) → 0 < sum_in l code → SomeHas l code
some_has [] code h = omega arith
some_has (s ∷ l) code h = go (eqb s.code code) refl (dec_lt 0 s.weight) (some_has l code) h
  where
    go : (t : Bool) → eqb s.code code ≡ t → Dec (0 < s.weight) → (0 < sum_in l code → SomeHas l code) → 0 < cond t s.weight 0 + sum_in l code
        → SomeHas (s ∷ l) code
    go true e (yes some) rest h = inl (eqb-true _ _ e, some)
    go true e (no none) rest h = inr (rest (omega arith))
    go false e d rest h = inr (rest (omega arith))

-- The law behind all this, of the definition: the greatest of the eight sums, ties to the smaller code, is found among the codes of the corners that weigh in, if
-- one with a code of the eight does.
pub found_among : (c : Corners) (code : ℕ) → code ≤ 7 → 0 < sum_for c code → SomeHas (sums_of c) (vote c)
found_among c code h some = some_has (sums_of c) (vote c) (omega (arith, sums_are c (vote c), (vote_is c).most code h))
