-- What is to be known of a reader of a part of a line, so that the column of a bad line is the one that document 02 says: it reads just what spells a value,
-- stops only after bytes with which some spelling begins, and looks no further than the byte at which it stops. It is shown of the readers of one byte and of
-- a run of bytes, and of two parts of which it holds. From the definitions of specs/Line.antt alone. Assumes nothing.
use mathlib.Core.Path.{◌≡◌, refl, sym, ◌∙◌, ap}
use mathlib.Core.Bool.{Bool, true, false, cond, and-eq-true_iff, true≢false}
use mathlib.Core.List.{List, [], ◌∷◌, ◌++◌, append_assoc}
use Prim.Native.Nat.{ℕ, zero, suc, ◌+◌, ◌≤◌}
use native.Mathlib.Omega.{arith}
use lib.ListN.{length, take, drop, length-append, length-take, length-drop}
use lib.Seq.{take-add, take-append-le, take-append_seam, drop-append-le, drop-append_seam}
use Rattle.lines.specs.Spell.{all}
use Rattle.lines.specs.Line.{Part, part, stopped, later, next, ◌then◌, nothing, one, run, some}

-- which bytes spell which values
abbrev pub Language : Type 0 → Type 1
Language A = A → List ℕ → Type 0

-- a byte with which a part could go on does not come first
abbrev pub Ends : (ℕ → Bool) → List ℕ → Type 0
Ends more [] = Unit {0}
Ends more (b ∷ rest) = more b ≡ false

-- how many bytes are right
abbrev pub size : {A : Type 0} → Part A → ℕ
size (part a n) = n
size (stopped k) = k

-- a reader of what a language spells, where `more` are the bytes with which a part could go on
pub record Reads {A : Type 0} (r : List ℕ → Part A) (S : Language A) (more : ℕ → Bool) : Type 0 where
  -- something is spelled
  pub inhabited : (a : A) × ((w : List ℕ) × S a w)
  -- what is read is spelled by the bytes at the start
  pub sound : (l : List ℕ) (a : A) (n : ℕ) → r l ≡ part a n → (n ≤ length l) × S a (take n l)
  -- what is spelled at the start is read
  pub complete : (a : A) (w rest : List ℕ) → S a w → Ends more rest → r (w ++ rest) ≡ part a (length w)
  -- where the reader stops, some spelling begins with the bytes before
  pub viable : (l : List ℕ) (k : ℕ) → r l ≡ stopped k → (k ≤ length l) × ((a : A) × ((w : List ℕ) × S a (take k l ++ w)))
  -- the reader looks no further than the first byte after those that are right
  pub local : (p : List ℕ) (b : ℕ) (q q' : List ℕ) → size (r (p ++ (b ∷ q))) ≤ length p → r (p ++ (b ∷ q')) ≡ r (p ++ (b ∷ q))

-- any byte may follow
abbrev pub free : ℕ → Bool
free b = false

pub ends_free : (l : List ℕ) → Ends free l
ends_free [] = tt
ends_free (b ∷ l) = refl

-- no byte may follow
abbrev pub last : ℕ → Bool
last b = true

pub ends_last : (more : ℕ → Bool) (l : List ℕ) → Ends last l → Ends more l
ends_last more [] e = tt
ends_last more (b ∷ l) e = absurd (true≢false e)

-- one byte that passes the test spells itself
pub record One (test : ℕ → Bool) (b : ℕ) (w : List ℕ) : Type 0 where
  pub passes : test b ≡ true
  pub is : w ≡ b ∷ []

-- no bytes spell one value
pub record Nothing {A : Type 0} (a b : A) (w : List ℕ) : Type 0 where
  pub value : b ≡ a
  pub is : w ≡ []

-- a run of at most n bytes that pass the test spells itself
pub record Run (test : ℕ → Bool) (n : ℕ) (v w : List ℕ) : Type 0 where
  pub value : v ≡ w
  pub passes : all test w ≡ true
  pub most : length w ≤ n

-- two spellings, one after the other
pub record Joined {A B : Type 0} (S : Language A) (T : A → Language B) (b : B) (w : List ℕ) : Type 0 where
  pub a : A
  pub u : List ℕ
  pub v : List ℕ
  pub first : S a u
  pub second : T a b v
  pub is : w ≡ u ++ v

-- parts that were read and parts that were not are told apart
never : {A : Type 0} {B : Type 0} {a : A} {n k : ℕ} → ◌≡◌ {A = Part A} (part a n) (stopped k) → B
never e = let z : ◌≡◌ {A = ℕ} 0 1 = cc in absurd (omega arith)

-- no bytes are read as no bytes
pub reads_nothing : {A : Type 0} {more : ℕ → Bool} (a : A) → Reads (nothing a) (Nothing a) more
reads_nothing a =
    record {
      inhabited = (a, ([], record { value = refl; is = refl }));
      sound = λ l b n e. (omega (arith, ap size e), none l b n e);
      complete = λ b w rest s e. rw (s.value, s.is);
      viable = λ l k e. never e;
      local = λ p b q q' h. refl;
    }
  where
    none : (l : List ℕ) (b : _) (n : ℕ) → part a 0 ≡ part b n → Nothing a b (take n l)
    none l b n e = let z : 0 ≡ n = cc in rw (← z) (record { value = cc; is = refl })

-- one byte is read
module _ (test : ℕ → Bool) where
  one_sound : (l : List ℕ) (a n : ℕ) → one test l ≡ part a n → (n ≤ length l) × One test a (take n l)
  unfolding one
  one_sound [] a n e = never (sym e)
  one_sound (b ∷ l) a n e = go (test b) refl e
    where
      go : (t : Bool) → test b ≡ t → cond t (part b 1) (stopped 0) ≡ part a n → (n ≤ suc (length l)) × One test a (take n (b ∷ l))
      go true h e =
          let i : b ≡ a = cc in
          let j : 1 ≡ n = cc in
          rw (← i, ← j) (omega arith, record { passes = h; is = refl })
      go false h e = never (sym e)

  one_complete : (a : ℕ) (w rest : List ℕ) → One test a w → one test (w ++ rest) ≡ part a (length w)
  unfolding one
  one_complete a w rest s = rw s.is (rw s.passes)

  one_viable : (example : ℕ) → test example ≡ true → (l : List ℕ) (k : ℕ) → one test l ≡ stopped k
      → (k ≤ length l) × ((a : ℕ) × ((w : List ℕ) × One test a (take k l ++ w)))
  unfolding one
  one_viable x h [] k e = let z : 0 ≡ k = cc in rw (← z) (omega arith, (x, (x ∷ [], record { passes = h; is = refl })))
  one_viable x h (b ∷ l) k e = go (test b) e
    where
      go : (t : Bool) → cond t (part b 1) (stopped 0) ≡ stopped k
          → (k ≤ suc (length l)) × ((a : ℕ) × ((w : List ℕ) × One test a (take k (b ∷ l) ++ w)))
      go true e = never e
      go false e = let z : 0 ≡ k = cc in rw (← z) (omega arith, (x, (x ∷ [], record { passes = h; is = refl })))

  one_local : (p : List ℕ) (b : ℕ) (q q' : List ℕ) → one test (p ++ (b ∷ q')) ≡ one test (p ++ (b ∷ q))
  unfolding one
  one_local [] b q q' = refl
  one_local (c ∷ p) b q q' = refl

  pub reads_one : {more : ℕ → Bool} (example : ℕ) → test example ≡ true → Reads (one test) (One test) more
  reads_one x h =
      record {
        inhabited = (x, (x ∷ [], record { passes = h; is = refl }));
        sound = one_sound;
        complete = λ a w rest s e. one_complete a w rest s;
        viable = one_viable x h;
        local = λ p b q q' s. one_local p b q q';
      }

-- a run of bytes is read
module _ (test : ℕ → Bool) where
  run_within : (n : ℕ) (l : List ℕ) → (run test n l ≤ n) × ((run test n l ≤ length l) × (all test (take (run test n l) l) ≡ true))
  unfolding run all
  run_within zero l = (omega arith, (omega arith, refl))
  run_within (suc n) [] = (omega arith, (omega arith, refl))
  run_within (suc n) (b ∷ l) = go (test b) refl (run_within n l)
    where
      go : (t : Bool) → test b ≡ t → (run test n l ≤ n) × ((run test n l ≤ length l) × (all test (take (run test n l) l) ≡ true)) → (
          let k : ℕ = cond t (suc (run test n l)) 0 in
          (k ≤ suc n) × ((k ≤ suc (length l)) × (all test (take k (b ∷ l)) ≡ true))
          )
      go true h i = (omega (arith, i.0), (omega (arith, i.1.0), rw (h, i.1.1)))
      go false h i = (omega arith, (omega arith, refl))

  run_complete : (n : ℕ) (w rest : List ℕ) → all test w ≡ true → length w ≤ n → Ends test rest → run test n (w ++ rest) ≡ length w
  unfolding run all
  run_complete zero [] rest a m e = refl
  run_complete zero (b ∷ w) rest a m e = absurd (omega arith)
  run_complete (suc n) [] [] a m e = refl
  run_complete (suc n) [] (b ∷ rest) a m e = rw e
  run_complete (suc n) (b ∷ w) rest a m e =
      let h = (and-eq-true_iff (test b) (all test w)).0 a in
      rw h.0 (ap suc (run_complete n w rest h.1 (omega arith) e))

  run_local : (n : ℕ) (p : List ℕ) (b : ℕ) (q q' : List ℕ) → run test n (p ++ (b ∷ q)) ≤ length p
      → run test n (p ++ (b ∷ q')) ≡ run test n (p ++ (b ∷ q))
  unfolding run
  run_local zero p b q q' h = refl
  run_local (suc n) [] b q q' h = go (test b) h
    where
      go : (t : Bool) → cond t (suc (run test n q)) 0 ≤ 0 → cond t (suc (run test n q')) 0 ≡ cond t (suc (run test n q)) 0
      go true h = absurd (omega arith)
      go false h = refl
  run_local (suc n) (c ∷ p) b q q' h = go (test c) h (run_local n p b q q')
    where
      go : (t : Bool) → cond t (suc (run test n (p ++ (b ∷ q)))) 0 ≤ suc (length p)
          → (run test n (p ++ (b ∷ q)) ≤ length p → run test n (p ++ (b ∷ q')) ≡ run test n (p ++ (b ∷ q)))
          → cond t (suc (run test n (p ++ (b ∷ q')))) 0 ≡ cond t (suc (run test n (p ++ (b ∷ q)))) 0
      go true h i = ap suc (i (omega arith))
      go false h i = refl

  pub reads_some : (n : ℕ) → Reads (some test n) (Run test n) test
  unfolding some all
  reads_some n =
      record {
        inhabited = ([], ([], record { value = refl; passes = refl; most = omega arith }));
        sound = sound;
        complete = complete;
        viable = λ l k e. never e;
        local = local;
      }
    where
      sound : (l : List ℕ) (v : List ℕ) (k : ℕ) → part (take (run test n l) l) (run test n l) ≡ part v k → (k ≤ length l) × Run test n v (take k l)
      sound l v k e =
          let i = run_within n l in
          let value : take (run test n l) l ≡ v = cc in
          let count : run test n l ≡ k = cc in
          rw (← count) (
            i.1.0,
            record { value = sym value; passes = i.1.1; most = omega (arith, length-take (run test n l) l, i.0) },
          )

      complete : (v w rest : List ℕ) → Run test n v w → Ends test rest
          → part (take (run test n (w ++ rest)) (w ++ rest)) (run test n (w ++ rest)) ≡ part v (length w)
      complete v w rest s e = rw (run_complete n w rest s.passes s.most e, take-append_seam, s.value)

      local : (p : List ℕ) (b : ℕ) (q q' : List ℕ) → run test n (p ++ (b ∷ q)) ≤ length p
          → part (take (run test n (p ++ (b ∷ q'))) (p ++ (b ∷ q'))) (run test n (p ++ (b ∷ q')))
          ≡ part (take (run test n (p ++ (b ∷ q))) (p ++ (b ∷ q))) (run test n (p ++ (b ∷ q)))
      local p b q q' h =
          rw (run_local n p b q q' h, take-append-le (run test n (p ++ (b ∷ q))) p (b ∷ q') h, take-append-le (run test n (p ++ (b ∷ q))) p (b ∷ q) h)

-- Two parts, one after the other, of which both are readers' and what the second spells never goes on with the first:
module _ {A B : Type 0} {r : List ℕ → Part A} {S : Language A} {more : ℕ → Bool} {f : A → List ℕ → Part B} {T : A → Language B} {more' : ℕ → Bool}
    (R : Reads r S more) (F : (a : A) (u : List ℕ) → S a u → Reads (f a) (T a) more')
    (follows : (a : A) (b : B) (v rest : List ℕ) → T a b v → Ends more' rest → Ends more (v ++ rest)) where
  then_sound : (l : List ℕ) (b : B) (n : ℕ) → (r then f) l ≡ part b n → (n ≤ length l) × Joined S T b (take n l)
  then_sound l b n e = go (r l) refl e
    where
      second : (a : A) (m : ℕ) → r l ≡ part a m → (y : Part B) → f a (drop m l) ≡ y → later m y ≡ part b n → (n ≤ length l) × Joined S T b (take n l)
      second a m h (stopped k) g e = never (sym e)
      second a m h (part c k) g e =
          let s = R.sound l a m h in
          let t = (F a (take m l) s.1).sound (drop m l) c k g in
          let same : c ≡ b = cc in
          let count : m + k ≡ n = cc in
          rw (← same, ← count) (
            omega (arith, s.0, t.0, length-drop m l),
            record { a = a; u = take m l; v = take k (drop m l); first = s.1; second = t.1; is = take-add m k l },
          )

      go : (x : Part A) → r l ≡ x → next l x f ≡ part b n → (n ≤ length l) × Joined S T b (take n l)
      go (stopped k) h e = never (sym e)
      go (part a m) h e = second a m h (f a (drop m l)) refl e

  then_complete : (b : B) (w rest : List ℕ) → Joined S T b w → Ends more' rest → (r then f) (w ++ rest) ≡ part b (length w)
  then_complete b w rest j e =
      let i = R.complete j.a j.u (j.v ++ rest) j.first (follows j.a b j.v rest j.second e) in
      let k = (F j.a j.u j.first).complete b j.v rest j.second e in
      rw (j.is, append_assoc, i, drop-append_seam, k, length-append)

  then_viable : (l : List ℕ) (k : ℕ) → (r then f) l ≡ stopped k → (k ≤ length l) × ((b : B) × ((w : List ℕ) × Joined S T b (take k l ++ w)))
  then_viable l k e = go (r l) refl e
    where
      second : (a : A) (m : ℕ) → r l ≡ part a m → (y : Part B) → f a (drop m l) ≡ y → later m y ≡ stopped k
          → (k ≤ length l) × ((b : B) × ((w : List ℕ) × Joined S T b (take k l ++ w)))
      second a m h (part c j) g e = never e
      second a m h (stopped j) g e =
          let s = R.sound l a m h in
          let t = (F a (take m l) s.1).viable (drop m l) j g in
          let v = t.1.1.0 in
          let count : m + j ≡ k = cc in
          rw (← count) (
            omega (arith, s.0, t.0, length-drop m l),
            (
              t.1.0,
              (
                v,
                record { a = a; u = take m l; v = take j (drop m l) ++ v; first = s.1; second = t.1.1.1; is = rw (take-add m j l, append_assoc) },
              ),
            ),
          )

      go : (x : Part A) → r l ≡ x → next l x f ≡ stopped k → (k ≤ length l) × ((b : B) × ((w : List ℕ) × Joined S T b (take k l ++ w)))
      go (part a m) h e = second a m h (f a (drop m l)) refl e
      go (stopped j) h e =
          let same : j ≡ k = cc in
          let s = R.viable l j h in
          let a = s.1.0 in
          let w = s.1.1.0 in
          let o = (F a (take j l ++ w) s.1.1.1).inhabited in
          rw (← same) (
            s.0,
            (
              o.0,
              (w ++ o.1.0, record { a = a; u = take j l ++ w; v = o.1.0; first = s.1.1.1; second = o.1.1; is = sym (append_assoc (take j l) w o.1.0) }),
            ),
          )

  then_local : (p : List ℕ) (b : ℕ) (q q' : List ℕ) → size ((r then f) (p ++ (b ∷ q))) ≤ length p → (r then f) (p ++ (b ∷ q')) ≡ (r then f) (p ++ (b ∷ q))
  then_local p b q q' h = go (r (p ++ (b ∷ q))) refl h
    where
      grows : (m : ℕ) (y : Part B) → size (later m y) ≡ m + size y
      grows m (part c k) = refl
      grows m (stopped k) = refl

      go : (x : Part A) → r (p ++ (b ∷ q)) ≡ x → size (next (p ++ (b ∷ q)) x f) ≤ length p
          → next (p ++ (b ∷ q')) (r (p ++ (b ∷ q'))) f ≡ next (p ++ (b ∷ q)) x f
      go (stopped k) e h =
          let i : size (r (p ++ (b ∷ q))) ≤ length p = rw e h in
          rw (R.local p b q q' i, e)
      go (part a m) e h =
          let h' = rw (grows m (f a (drop m (p ++ (b ∷ q))))) at h in
          let before : m ≤ length p = omega arith in
          let i : size (r (p ++ (b ∷ q))) ≤ length p = rw e before in
          let s = R.sound (p ++ (b ∷ q)) a m e in
          let same = R.local p b q q' i ∙ e in
          let there = drop-append-le m p (b ∷ q) before in
          let there' = drop-append-le m p (b ∷ q') before in
          let room : size (f a (drop m p ++ (b ∷ q))) ≤ length (drop m p) = rw (← there) (omega (arith, length-drop m p)) in
          let j = (F a (take m (p ++ (b ∷ q))) s.1).local (drop m p) b q q' room in
          rw same (rw (there, there') (ap (later m) j))

  pub reads_then : Reads (r then f) (Joined S T) more'
  reads_then =
      let a = R.inhabited in
      let b = (F a.0 a.1.0 a.1.1).inhabited in
      record {
        inhabited = (
          b.0,
          (
            a.1.0 ++ b.1.0,
            record { a = a.0; u = a.1.0; v = b.1.0; first = a.1.1; second = b.1.1; is = refl },
          ),
        );
        sound = then_sound;
        complete = then_complete;
        viable = then_viable;
        local = then_local;
      }

-- a reader of one language is a reader of any other that spells the same
pub reads_as : {A : Type 0} {r : List ℕ → Part A} {S T : Language A} {more : ℕ → Bool} → Reads r S more
    → ((a : A) (w : List ℕ) → S a w → T a w) → ((a : A) (w : List ℕ) → T a w → S a w) → Reads r T more
reads_as R to from =
    record {
      inhabited = let i = R.inhabited in (i.0, (i.1.0, to _ _ i.1.1));
      sound = λ l a n e. let s = R.sound l a n e in (s.0, to _ _ s.1);
      complete = λ a w rest s e. R.complete a w rest (from _ _ s) e;
      viable = λ l k e. let v = R.viable l k e in (v.0, (v.1.0, (v.1.1.0, to _ _ v.1.1.1)));
      local = R.local;
    }

-- a reader of what any bytes may follow is one of what no byte may follow
pub reads_last : {A : Type 0} {r : List ℕ → Part A} {S : Language A} {more : ℕ → Bool} → Reads r S more → Reads r S last
reads_last {more = more} R =
    record {
      inhabited = R.inhabited;
      sound = R.sound;
      complete = λ a w rest s e. R.complete a w rest s (ends_last more rest e);
      viable = R.viable;
      local = R.local;
    }

-- what may follow a part may follow the first of two
pub first_ends : {A B : Type 0} {S : Language A} {T : A → Language B} {more : ℕ → Bool} → ((a : A) (u rest : List ℕ) → S a u → Ends more (u ++ rest))
    → (b : B) (v rest : List ℕ) → Joined S T b v → Ends more (v ++ rest)
first_ends ends b v rest j = rw (j.is, append_assoc) (ends j.a j.u (j.v ++ rest) j.first)
