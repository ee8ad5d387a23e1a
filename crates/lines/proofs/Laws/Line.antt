-- The reading of a line: exactly the legal lines are accepted, each with the one command that it spells; any other line is bad, at the column after the longest
-- beginning with which some legal line begins. No name and no number is taken for a command. What is read depends on the first 48 bytes alone. From the law
-- that a command is read as it is spelled. Assumes nothing.
use mathlib.Core.Path.{◌≡◌, refl, sym, ◌∙◌, ap}
use mathlib.Core.Logic.{◌↔◌, ◌⊎◌, inl, inr, ⊎_elim}
use mathlib.Core.Bool.{Bool, true, false, cond, ◌&&◌, and-eq-true_iff}
use mathlib.Core.List.{List, [], ◌∷◌, ◌++◌, append_assoc, append-nil}
use Prim.Native.Nat.{ℕ, suc, ◌+◌, ◌≤◌, ◌<◌}
use native.Mathlib.Decide.{dec_lt}
use native.Mathlib.Omega.{arith}
use lib.Dec.{leb, eqb}
use lib.ListN.{length, take, drop, get_or, length-append, get_or-append}
use lib.Seq.{split_at, take-suc, take-length, take-take, take-append-le, get_or-take, length-take-le}
use borrow.Author.Tests.{leb-true, eqb-true, eq-eqb, ne_eqb}
use Rattle.lines.specs.Spell.{Command, «use», site, path, masts, capital, digit, in_name, all, is_name, is_number, use_word, site_word, path_word, masts_word, Spells, Legal}
use Rattle.lines.specs.Bad.{Begins, BadAfter}
use Rattle.lines.specs.Line.{Part, part, stopped, command, Reading, legal, bad, ended, reading}
use Rattle.lines.proofs.Laws.Reader.{size}
use Rattle.lines.proofs.Laws.Grammar.{reads_command}

-- a line that spells a command is read as that command
pub legal_read : (c : Command) (line : List ℕ) → Spells c line → reading line ≡ legal c
unfolding reading
legal_read c line s =
    let e : command line ≡ part c (length line) = rw append-nil at (reads_command.complete c line [] s tt) in
    rw e (rw (eq-eqb (length line) (length line) refl))

-- a command that is read is spelled by the whole line
pub read_legal : (c : Command) (line : List ℕ) → reading line ≡ legal c → Spells c line
unfolding reading
read_legal c line e = go (command line) refl e
  where
    go : (x : Part Command) → command line ≡ x → ended (length line) x ≡ legal c → Spells c line
    go (stopped k) h e = let z : ◌≡◌ {A = ℕ} 0 1 = cc in absurd (omega arith)
    go (part d n) h e = whole (eqb n (length line)) refl e
      where
        whole : (t : Bool) → eqb n (length line) ≡ t → cond t (legal d) (bad (n + 1)) ≡ legal c → Spells c line
        whole false g e = let z : ◌≡◌ {A = ℕ} 0 1 = cc in absurd (omega arith)
        whole true g e =
            let same : d ≡ c = cc in
            let s = (reads_command.sound line d n h).1 in
            rw (← same) (rw (eqb-true n (length line) g, take-length line) at s)

-- exactly the legal lines are accepted
pub accepted : (c : Command) (line : List ℕ) → (reading line ≡ legal c) ↔ Spells c line
accepted c line = (read_legal c line, legal_read c line)

-- each legal line has one reading
pub one_reading : (c d : Command) (line : List ℕ) → Spells c line → Spells d line → c ≡ d
one_reading c d line s t =
    let e : legal c ≡ legal d = sym (legal_read c line s) ∙ legal_read d line t in
    cc

-- Of a line:
module _ (line : List ℕ) where
  -- how many of its bytes are right
  abbrev pub right : ℕ
  right = size (command line)

  -- these are bytes of the line, and some legal line begins with them
  right_begins : (right ≤ length line) × Begins (take right line)
  right_begins = go (command line) refl
    where
      go : (x : Part Command) → command line ≡ x → (size x ≤ length line) × Begins (take (size x) line)
      go (part c n) e =
          let s = reads_command.sound line c n e in
          (s.0, record { rest = []; legal = record { command = c; spells = rw (append-nil (take n line)) s.1 } })
      go (stopped k) e =
          let v = reads_command.viable line k e in
          (v.0, record { rest = v.1.1.0; legal = record { command = v.1.0; spells = v.1.1.1 } })

  -- a legal line that begins with one byte more of this line than are right would be read, and be read otherwise
  no_longer : (j : ℕ) → j ≤ length line → right < j → Begins (take j line) → ⊥
  no_longer j m more b =
      let p = take right line in
      let legal-line = take j line ++ b.rest in
      let whole = split_at line right 0 (omega arith) in
      let long = length-take-le j line m in
      let whole' = split_at legal-line right 0 (omega (arith, length-append (take j line) b.rest)) in
      let same-front : take right legal-line ≡ p = take-append-le right (take j line) b.rest (omega arith) ∙ take-take right j line (omega arith) in
      let same_byte : get_or legal-line right 0 ≡ get_or line right 0 =
      get_or-append (take j line) b.rest 0 right (omega arith) ∙ get_or-take j line right 0 more in
      let q = drop (suc right) line in
      let q' = drop (suc right) legal-line in
      let is : legal-line ≡ p ++ (get_or line right 0 ∷ q') = rw (← same_byte, ← same-front) whole' in
      let counted : size (command (p ++ (get_or line right 0 ∷ q))) ≤ length p =
      rw (← whole) (omega (arith, length-take-le right line right_begins.0)) in
      let local = reads_command.local p (get_or line right 0) q q' counted in
      let read : command legal-line ≡ command line = rw (is, local, ← whole) refl in
      let c = b.legal.command in
      let full : command legal-line ≡ part c (length legal-line) = rw append-nil at (reads_command.complete c legal-line [] b.legal.spells tt) in
      let sized : right ≡ length legal-line = ap size (sym read ∙ full) in
      omega (arith, length-append (take j line) b.rest)

  -- the bytes that are right are the longest beginning with which some legal line begins
  pub right_longest : (j : ℕ) → j ≤ length line → Begins (take j line) → j ≤ right
  right_longest j m b = go (dec_lt right j)
    where
      go : Dec (right < j) → j ≤ right
      go (yes h) = absurd (no_longer j m h b)
      go (no h) = omega arith

  -- a line that is read as bad is bad at the column after the bytes that are right
  bad_right : (n : ℕ) → reading line ≡ bad n → n ≡ right + 1
  unfolding reading
  bad_right n e = go (command line) e
    where
      go : (x : Part Command) → ended (length line) x ≡ bad n → n ≡ size x + 1
      go (stopped k) e = cc
      go (part c k) e = whole (eqb k (length line)) e
        where
          whole : (t : Bool) → cond t (legal c) (bad (k + 1)) ≡ bad n → n ≡ k + 1
          whole true e = let z : ◌≡◌ {A = ℕ} 0 1 = cc in absurd (omega arith)
          whole false e = cc

  -- a line is legal, or bad at the column after the bytes that are right
  pub legal_or_bad : Legal line ⊎ (reading line ≡ bad (right + 1))
  legal_or_bad = go (reading line) refl
    where
      go : (q : Reading) → reading line ≡ q → Legal line ⊎ (reading line ≡ bad (right + 1))
      go (legal c) e = inl (record { command = c; spells = read_legal c line e })
      go (bad n) e = inr (e ∙ ap bad (bad_right n e))

  -- `bad` is answered exactly for the lines that are not legal, with the column of which document 02 speaks
  pub bad_exactly : (k : ℕ) → (reading line ≡ bad (k + 1)) ↔ BadAfter k line
  bad_exactly k = (
    (λ e.
        let is : k ≡ right = omega (arith, bad_right (k + 1) e) in
        record {
          illegal = λ l. never (sym (legal_read l.command line l.spells) ∙ e);
          within = rw is right_begins.0;
          begins = rw is right_begins.1;
          longest = rw is right_longest;
        }),
    λ b.
        let is : right ≡ k = le_antisymm (b.longest right right_begins.0 right_begins.1) (right_longest k b.within b.begins) in
        ⊎_elim (λ l. absurd (b.illegal l)) (λ e. e ∙ rw is) legal_or_bad,
  )
    where
      never : {B : Type 0} {c : Command} {n : ℕ} → legal c ≡ bad n → B
      never e = let z : ◌≡◌ {A = ℕ} 0 1 = cc in absurd (omega arith)

      le_antisymm : {m n : ℕ} → m ≤ n → n ≤ m → m ≡ n
      le_antisymm h g = omega arith

-- a NAME has at most 12 bytes, a number at most 7
name_short : (w : List ℕ) → is_name w ≡ true → length w ≤ 12
unfolding is_name
name_short [] e = omega arith
name_short (b ∷ w) e =
    let h = (and-eq-true_iff (all in_name w) (leb (length w) 11)).0 ((and-eq-true_iff (capital b) (all in_name w && leb (length w) 11)).0 e).1 in
    omega (arith, leb-true (length w) 11 h.1)

number_short : (w : List ℕ) → is_number w ≡ true → length w ≤ 7
unfolding is_number
number_short [] e = omega arith
number_short (b ∷ w) e =
    let h = (and-eq-true_iff (all digit w) (leb (length w) (cond (eqb b 48) 0 6))).0
    ((and-eq-true_iff (digit b) (all digit w && leb (length w) (cond (eqb b 48) 0 6))).0 e).1 in
    omega (arith, leb-true (length w) (cond (eqb b 48) 0 6) h.1, six (eqb b 48))
  where
    six : (t : Bool) → cond t 0 6 ≤ 6
    six true = omega arith
    six false = omega arith

-- the longest legal line has 47 bytes
pub longest_legal : (c : Command) (line : List ℕ) → Spells c line → length line ≤ 47
longest_legal («use» b z) line s = omega (arith, ap length s.is)
longest_legal (site n e m) line s =
    omega (
      arith,
      simp length-append at (ap length s.is),
      name_short n s.named,
      number_short s.e s.east.well,
      number_short s.n s.north.well,
    )
longest_legal (path m n) line s = omega (arith, simp length-append at (ap length s.is), name_short m s.named, name_short n s.other)
longest_legal (masts m n a b) line s =
    omega (
      arith,
      simp length-append at (ap length s.is),
      name_short m s.named,
      name_short n s.other,
      number_short s.la s.limit.well,
      number_short s.lb s.limit2.well,
    )

-- so no more than 47 bytes of any line are right, and no column is beyond 48
pub right_most : (line : List ℕ) → right line ≤ 47
right_most line =
    let b = right_begins line in
    let l = b.1.legal in
    let most = longest_legal l.command (take (right line) line ++ b.1.rest) l.spells in
    omega (arith, length-append (take (right line) line) b.1.rest, length-take-le (right line) line b.0)

-- what is read of a line of 48 bytes or more depends on its first 48 bytes alone
pub cut : (line more : List ℕ) → 48 ≤ length line → reading (take 48 line ++ more) ≡ reading (line ++ more)
unfolding reading
cut line more h =
    let p = take 47 line in
    let b = get_or line 47 0 in
    let split = split_at line 47 0 (omega arith) in
    let front : take 48 line ≡ p ++ (b ∷ []) = take-suc line 47 0 (omega arith) in
    let here : take 48 line ++ more ≡ p ++ (b ∷ more) = rw front (append_assoc p (b ∷ []) more) in
    let there : line ++ more ≡ p ++ (b ∷ (drop 48 line ++ more)) = ap (λ l. l ++ more) split ∙ append_assoc p (b ∷ drop 48 line) more in
    let long = length-take-le 47 line (omega arith) in
    let counted : size (command (p ++ (b ∷ (drop 48 line ++ more)))) ≤ length p = rw (← there) (omega (arith, right_most (line ++ more))) in
    let same : command (take 48 line ++ more) ≡ command (line ++ more) =
    rw (here, there) (reads_command.local p b (drop 48 line ++ more) more counted) in
    rw same (ends (command (line ++ more)) (right_most (line ++ more))
    (omega (arith, length-append (take 48 line) more, length-take-le 48 line h)) (omega (arith, length-append line more)))
  where
    -- a line of 48 bytes or more has some after its command
    ends : {m n : ℕ} (x : Part Command) → size x ≤ 47 → 48 ≤ m → 48 ≤ n → ended m x ≡ ended n x
    ends (stopped k) s a b = refl
    ends {m} {n} (part c k) s a b = rw (ne_eqb k m (λ e. omega arith), ne_eqb k n (λ e. omega arith))

-- the word that a command begins with
abbrev pub word_of : Command → List ℕ
word_of («use» base zone) = use_word
word_of (site name easting northing) = site_word
word_of (path first second) = path_word
word_of (masts first second a b) = masts_word

-- the word that begins with a byte
abbrev word_from : ℕ → List ℕ
word_from b = cond (eqb b 117) use_word (cond (eqb b 115) site_word (cond (eqb b 112) path_word masts_word))

-- a word is known by its first byte
by_first : (c : Command) (rest : List ℕ) → word_of c ≡ word_from (get_or (word_of c ++ rest) 0 0)
by_first («use» b z) rest = refl
by_first (site n e m) rest = refl
by_first (path m n) rest = refl
by_first (masts m n a b) rest = refl

-- what spells a command begins with its word
pub begins_word : (c : Command) (line : List ℕ) → Spells c line → (rest : List ℕ) × (line ≡ word_of c ++ rest)
begins_word («use» b z) line s = (_, s.is)
begins_word (site n e m) line s = (_, s.is)
begins_word (path m n) line s = (_, s.is)
begins_word (masts m n a b) line s = (_, s.is)

-- No name and no number that a line holds is ever taken for a command: a line that begins with the word of a command says a command of that word, whatever
-- stands after it.
pub word_tells : (c d : Command) (rest : List ℕ) → Spells c (word_of d ++ rest) → word_of c ≡ word_of d
word_tells c d rest s =
    let own = begins_word c (word_of d ++ rest) s in
    by_first c own.0 ∙ ap (λ l. word_from (get_or l 0 0)) (sym own.1) ∙ sym (by_first d rest)

-- the names of a command are written as names are
abbrev pub WellNamed : Command → Type 0
WellNamed («use» base zone) = Unit {0}
WellNamed (site name easting northing) = is_name name ≡ true
WellNamed (path first second) = (is_name first ≡ true) × (is_name second ≡ true)
WellNamed (masts first second a b) = (is_name first ≡ true) × (is_name second ≡ true)

-- so are those of a command that is read
pub names_well : (c : Command) (line : List ℕ) → reading line ≡ legal c → WellNamed c
names_well c line e = go c (read_legal c line e)
  where
    go : (c : Command) → Spells c line → WellNamed c
    go («use» b z) s = tt
    go (site n e m) s = s.named
    go (path m n) s = (s.named, s.other)
    go (masts m n a b) s = (s.named, s.other)
