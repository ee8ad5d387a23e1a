-- Two parts of the caller's bytes that a promise allows are the same; and the record that a call
-- hands back is empty exactly where the call is refused. From the laws of the record taken. Assumes nothing.
use mathlib.Core.Path.{◌≡◌, refl, sym, ◌∙◌, ap}
use mathlib.Core.Logic.{◌↔◌}
use mathlib.Core.List.{List, []}
use Prim.Native.Nat.{ℕ}
use native.Mathlib.Omega.{arith}
use lib.ListN.{length}
use denote.Ref.{Bor}
use Rattle.ground.specs.Outcome.{Outcome, given, refused}
use Rattle.ground.specs.declared.point.Point.{Point}
use Rattle.ground.proofs.Laws.Outcome.{step}
use Rattle.index.specs.Bytes.{record_bytes, Part}
use Rattle.index.proofs.Laws.Bytes.{record_long}
use Rattle.terrain.specs.Check.{checked}
use Rattle.terrain.specs.Record.{record_in, record_for, part_bytes}
use Rattle.terrain.specs.declared.record.Taken.{Taken}
use Rattle.terrain.proofs.Laws.Taken.{record_is}

-- two parts of the caller's bytes that a promise allows have the same bytes, at the same place
pub part_once : {file r s : Bor (List ℕ)} {start : ℕ} {bytes : List ℕ} → Part file r start bytes → Part file s start bytes
    → (r.now ≡ s.now) × ((r.ref_ptr.0 ≡ s.ref_ptr.0) × (r.ref_ptr.1 ≡ s.ref_ptr.1))
part_once f g = (f.bytes ∙ sym g.bytes, (f.block ∙ sym g.block, f.start ∙ sym g.start))

module _ (file : List ℕ) (b z : ℕ) (p : Point) where
  -- a record that is handed back is 1024 bytes long
  pub record_given : (t : Taken) → record_for file b z p ≡ given t → length (record_bytes file t.entry) ≡ 1024
  unfolding record_for
  record_given t e =
      let c = step (checked file b z) (λ u. record_in file u p) t e in
      let r = (record_is (record { base = b; zone = z; gave = c.gave }) p t c.then).reaches in
      record_long file t.entry (omega (arith, r.past)) r.recorded

  -- the bytes are empty exactly where a refusal holds, 5 among them
  pub record_empty : (part_bytes file (record_for file b z p) ≡ []) ↔ ((t : Taken) → record_for file b z p ≡ given t → ⊥)
  record_empty = ((λ e t q. omega (arith, record_given t q, ap length (rw q at e))), λ none. go (record_for file b z p) refl none)
    where
      go : (o : Outcome Taken) → record_for file b z p ≡ o → ((t : Taken) → record_for file b z p ≡ given t → ⊥)
          → part_bytes file (record_for file b z p) ≡ []
      go (given t) q none = absurd (none t q)
      go (refused number place) q none = simp q
