-- E1 holds: document 02's session comes to what the document says. Its file keeps document 01's rules, as the file of terrain's witness does, which
-- has the same index; and each line is read and answered by computing. Assumes nothing.
use mathlib.Core.Path.{◌≡◌, refl, sym, ◌∙◌, ap, ap₂}
use mathlib.Core.Bool.{Bool, true, false, not, ◌&&◌, and-eq-true_iff}
use mathlib.Core.List.{List, [], ◌∷◌, ◌++◌}
use Prim.Native.Nat.{ℕ, ◌+◌, ◌-◌, ◌*◌, ◌≤◌, ◌<◌}
use native.Mathlib.Omega.{arith}
use lib.Dec.{eqb}
use lib.ListN.{length, drop, get_or, replicate, get_or-append}
use Rattle.ground.specs.Outcome.{Outcome, given, ◌and_then◌}
use Rattle.ground.specs.Measure.{metres}
use Rattle.ground.specs.Boundary.{y_b, rows, named}
use Rattle.ground.specs.Ground.{ground_of, on_ground, holds}
use Rattle.ground.specs.Place.{weights_of, place_at, place_of}
use Rattle.ground.specs.Seam.{allowed}
use Rattle.ground.specs.Every.{every}
use Rattle.ground.specs.Figure.{AllHold}
use Rattle.ground.specs.declared.point.Point.{Point}
use Rattle.index.specs.Bytes.{nth, record_bytes}
use Rattle.index.specs.Index.{position, highest, Passes}
use Rattle.terrain.specs.Check.{terrain_of, checked}
use Rattle.terrain.specs.Record.{entry, first_covered, taken, record_in}
use Rattle.terrain.specs.declared.check.Terrain.{Terrain}
use Rattle.terrain.proofs.Laws.Checked.{check_passes}
use Rattle.terrain.proofs.Laws.Witness.{file, some_passes}
use Rattle.reading.specs.Corner.{corner, corners_at, any_lacks_height, exact_height}
use Rattle.reading.specs.Vote.{sum_for, greatest, vote}
use Rattle.reading.specs.Reading.{read_corners, read_taken, point_in}
use Rattle.path.specs.First.{first_from}
use Rattle.path.specs.Path.{Q, N, along, sample, path_on, ask_masts}
use Rattle.profile.specs.Profile.{Link, zeros, up_to, link_in, linked}
use Rattle.masts.specs.Clear.{clear_by}
use Rattle.masts.specs.Plan.{first_mast, least_sum, plan_of}
use Rattle.masts.specs.declared.Masts.{Masts}
use Rattle.link.specs.declared.clear.Seen.{Seen}
use Rattle.link.specs.Clear.{T, G, need, clear, sight}
use Rattle.plan.specs.Plan.{plan}
use Rattle.lines.specs.Spell.{all, value_after}
use Rattle.lines.specs.Line.{
  one,
  run,
  some,
  text,
  name,
  number,
  spaced_number,
  use_rest,
  site_rest,
  two_names,
  path_rest,
  masts_rest,
  after_first,
  command,
  reading,
}
use Rattle.shell.specs.Answer.{decimal, words_of, said}
use Rattle.shell.specs.Session.{
  holds as holding,
  in_use,
  start,
  Reply,
  on_use,
  same_name,
  site_of,
  on_site,
  seen,
  on_path,
  planned,
  on_masts,
  lines_from,
  answers,
  session,
}
use Rattle.shell.specs.Figure.{flat_words, flat_index, flat, folder, ended, input, E1}
use Rattle.shell.specs.declared.answer.Answer.TheVariants as answer
use Rattle.shell.proofs.Laws.Pieces.{unended, lines_after}

-- the file of terrain's witness has the session's index, and zeros after it
witness_is : file ≡ flat_index ++ replicate 1024 0
unfolding file flat_index
witness_is = refl

-- the two files have 7 records, and the index 6
long : (length flat ≡ 7168) × ((length file ≡ 7168) × (length flat_index ≡ 6144))
unfolding flat file flat_index flat_words
long = (refl, (refl, refl))

-- so the two hold the same in each position of the index
same_position : (n : ℕ) → 1 ≤ n → n ≤ 3072 → position flat n ≡ position file n
unfolding nth flat
same_position n a b = rw (at (2 * (n - 1)) (omega arith), at (2 * (n - 1) + 1) (omega arith))
  where
    at : (i : ℕ) → i < 6144 → get_or flat i 0 ≡ get_or file i 0
    at i h =
        let l : i < length flat_index = omega (arith, long) in
        rw witness_is (get_or-append flat_index (flat_words 512) 0 i l ∙ sym (get_or-append flat_index (replicate 1024 0) 0 i l))

-- the session's file passes, on a ground of 28 rows
flat_passes : Passes flat 28
flat_passes =
    let p = some_passes in
    let M = same_position 3072 (omega arith) (omega arith) in
    record {
      whole = omega (arith, long);
      lowest_m = omega (arith, M, p.lowest_m);
      highest_m = omega (arith, M, p.highest_m, long);
      entries = λ n a b. rw (same_position n a (omega arith), M) (p.entries n a b);
      once = λ m n a b c e.
          let same = same_position n (omega arith) (omega arith) in
          same ∙ p.once m n a b c (sym (same_position m a (omega arith)) ∙ e ∙ same);
      rest = λ n a b. same_position n (omega arith) (omega arith) ∙ p.rest n a b;
    }

-- so its check passes
flat_checked : checked flat 40 17 ≡ given (terrain_of (ground_of 40 17) (highest flat))
unfolding y_b rows named
flat_checked = check_passes flat 40 17 refl flat_passes

-- the points of the two sites
abbrev A1 : Point
A1 = record { zone = 17; easting = metres 500000; northing = metres 4433000 }

abbrev B1 : Point
B1 = record { zone = 17; easting = metres 501000; northing = metres 4433000 }

-- the path between them with these masts, or limits, from what the check gave
abbrev between : (a b : ℕ) → Outcome Terrain → Outcome Link
between a b o = o and_then λ t. path_on t.ground (ask_masts A1 B1 a b) and_then link_in flat t

-- it has 2 steps and is blocked with masts 0 and 0, and with limits 100 the masts are 0 and 1
seen_and_planned : (sight flat 40 17 A1 B1 0 0 ≡ given (record { n = 2; clear = false }))
    × (plan flat 40 17 A1 B1 100 100 ≡ given (record { first = 0; second = 1 }))
unfolding y_b rows named on_ground holds weights_of place_at place_of allowed nth record_bytes entry first_covered taken record_in corner corners_at
    any_lacks_height exact_height sum_for greatest vote read_corners read_taken point_in Q first_from N along sample path_on zeros up_to link_in linked flat
    flat_index flat_words every T G need clear_by clear sight first_mast least_sum plan_of
seen_and_planned = (
  ap (λ o. between 0 0 o and_then λ l. given (record { n = l.path.n; clear = clear l 0 0 })) flat_checked,
  ap (λ o. between 100 100 o and_then λ l. plan_of (clear l) 100 100) flat_checked,
)

-- the first line puts the file in use
file_used : on_use start 40 17 (holding flat) ≡ record { answer = answer.Used 40 17; state = record { file = in_use flat 40 17; sites = [] } }
unfolding on_use
file_used = rw (long.0, flat_checked)

-- no byte of these lines is a line feed
plain : List (List ℕ) → Bool
plain [] = true
plain (line ∷ lines) = all (λ c. not (eqb c 10)) line && plain lines

-- such lines, each ended by a line feed, are the lines of the input that they make
lines_are : (lines : List (List ℕ)) → plain lines ≡ true → lines_from [] (ended lines) ≡ lines
unfolding lines_from plain
lines_are [] e = refl
lines_are (line ∷ lines) e =
    let t = (and-eq-true_iff (all (λ c. not (eqb c 10)) line) _).0 e in
    lines_after (unended line t.0) [] (10 ∷ ended lines) ∙ ap (λ l. line ∷ l) (lines_are lines t.1)

-- the output by the reply to the first line
after_use : Reply → List ℕ
after_use r = said r.answer ++ answers folder r.state (drop 1 input)

-- the output by what is seen and what is planned
after_sites : Outcome Seen → Outcome Masts → List ℕ
after_sites s m =
    said (answer.Used 40 17) ++ (said (answer.Held 1) ++ (said (answer.Held 2) ++ (said (seen s) ++ (said (planned m) ++ said (answer.Bad 12)))))

-- document 02's session is as the document says
pub figures : AllHold (E1 ∷ [])
unfolding all plain value_after one run some text name number spaced_number use_rest site_rest two_names path_rest masts_rest after_first command reading
    decimal words_of same_name site_of on_site on_path on_masts answers session after_use after_sites
figures = (
  ap (answers folder start) (lines_are input refl) ∙ ap after_use file_used ∙ ap₂ after_sites seen_and_planned.0 seen_and_planned.1,
  tt,
)
