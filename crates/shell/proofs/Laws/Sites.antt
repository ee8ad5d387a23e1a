-- What a search among the keys comes to for the names, in a state that is held; and what is held after a site is added. From the law that no
-- two names have one key. Assumes nothing.
use Rattle.std.specs.Prelude.{Option, Some, None}
use mathlib.Core.Path.{◌≡◌, refl, sym, ◌∙◌, ap}
use mathlib.Core.Bool.{Bool, true, false}
use mathlib.Core.List.{List, [], ◌∷◌, ◌++◌}
use Prim.Native.Nat.{ℕ, zero, suc, ◌<◌}
use native.Mathlib.Omega.{arith}
use native.Mathlib.Decide.{dec_lt}
use lib.ListN.{length, length-append, length-set, get_or-append}
use lib.Seq.{get_or-append_seam, get_or-set_same, get_or-set_other}
use Rattle.lines.specs.Key.{key}
use Rattle.lines.proofs.Laws.Key.{key_once}
use Rattle.shell.specs.Session.{Site, State, found, missing, same_name, site_of}
use Rattle.shell.specs.Inside.{Finds, Holds, Named, site_at, entry_at, entry_of, with_entry}
use Rattle.shell.specs.declared.command.Shell.{Shell}
use Rattle.shell.proofs.Laws.Names.{same_name_lem}

-- names are the same exactly if their keys are
same : (v w : List ℕ) → Named v → Named w → key v ≡ key w → same_name v w ≡ true
same v w p q e = (same_name_lem v w).1 (key_once v w p q e)

other : (v w : List ℕ) → (key v ≡ key w → ⊥) → same_name v w ≡ false
other v w n = go (same_name v w) refl
  where
    go : (t : Bool) → same_name v w ≡ t → t ≡ false
    go false e = refl
    go true e = absurd (n (ap (λ u. key u) ((same_name_lem v w).0 e)))

-- The site of a name is the first that has it;
module _ (name : List ℕ) where
  first_at : (sites : List Site) (r : ℕ) → r < length sites → ((i : ℕ) → i < r → same_name (site_at sites i).name name ≡ false)
      → same_name (site_at sites r).name name ≡ true → site_of name sites ≡ found (site_at sites r)
  unfolding site_of site_at
  first_at [] r h n e = absurd (omega arith)
  first_at (s ∷ sites) zero h n e = rw e
  first_at (s ∷ sites) (suc r) h n e = rw (n zero (omega arith)) (first_at sites r (omega arith) (λ i l. n (suc i) (omega arith)) e)

  -- there is none where none has it.
  none_at : (sites : List Site) → ((i : ℕ) → i < length sites → same_name (site_at sites i).name name ≡ false) → site_of name sites ≡ missing
  unfolding site_of site_at
  none_at [] n = refl
  none_at (s ∷ sites) n = rw (n zero (omega arith)) (none_at sites λ i l. n (suc i) (omega arith))

-- r is the place of the site of a name, if there is one
abbrev pub Looked : (name : List ℕ) (sites : List Site) → Option ℕ → Type 0
Looked name sites (Some r) = (r < length sites) × (site_of name sites ≡ found (site_at sites r))
Looked name sites None = site_of name sites ≡ missing

-- a search among the keys of a state's names finds the site of the name
pub looked : {shell : Shell} {bytes : List ℕ} {s : State} {k : ℕ} (name : List ℕ) (r : Option ℕ) → Holds shell bytes s → Named name → k ≡ key name
    → Finds shell.sites k r → Looked name s.sites r
looked {s = s} name (Some r) h n e f =
    let within : r < length s.sites = omega (arith, f.1.0, h.count) in
    let its = same _ _ (h.named r within) n (sym (ap (λ x. x.key) (h.entries r within)) ∙ f.1.1.0 ∙ e) in
    (within, first_at name s.sites r within (λ i b. other _ _ λ same. f.1.1.1 i b (ap (λ x. x.key) (h.entries i (omega arith)) ∙ same ∙ sym e)) its)
looked {s = s} name None h n e f =
    none_at name s.sites λ i l. other _ _ λ same. f i (omega (arith, h.count)) (omega (arith, h.most)) (ap (λ x. x.key) (h.entries i l) ∙ same ∙ sym e)

-- what holds of each site at its place, and of a new one after them, holds of each with that one
kept : (P : ℕ → Site → Type 0) (sites : List Site) (new : Site) → ((i : ℕ) → i < length sites → P i (site_at sites i)) → P (length sites) new
    → (i : ℕ) → i < length (sites ++ (new ∷ [])) → P i (site_at (sites ++ (new ∷ [])) i)
unfolding site_at
kept P sites new all one i h = go (dec_lt i (length sites))
  where
    go : Dec (i < length sites) → P i (site_at (sites ++ (new ∷ [])) i)
    go (yes l) = rw (get_or-append sites (new ∷ []) _ i l) (all i l)
    go (no l) =
        let e : i ≡ length sites = omega (arith, simp length-append at h) in
        rw (e, get_or-append_seam sites new [] _) one

-- what is held after a site is added
pub holds_added : {shell : Shell} {bytes : List ℕ} {s : State} (new : Site) → Holds shell bytes s → Named new.name
    → shell.sites.count < 32 → (
    Holds
    (record { sites = with_entry shell.sites (entry_of new); file = shell.file })
    bytes
    (record { file = s.file; sites = s.sites ++ (new ∷ []) })
    )
holds_added {shell} {s = s} new h n room =
    record {
      count = simp length-append (omega (arith, h.count));
      most = simp length-append (omega (arith, h.count));
      long = simp length-set h.long;
      named = kept (λ i x. Named x.name) s.sites new h.named n;
      entries = kept (λ i x. entry_at (with_entry shell.sites (entry_of new)) i ≡ entry_of x) s.sites new
          (λ i l. get_or-set_other shell.sites.entries shell.sites.count i (entry_of new) _ (λ e. omega (arith, h.count)) ∙ h.entries i l)
          (rw h.count (get_or-set_same shell.sites.entries (length s.sites) (entry_of new) _ (omega (arith, h.count, h.long))));
      file = h.file;
    }
