-- Whole metres and 500-metre units. Document 01, "Ground of a file": two measures, of which one turns into the other only by the stated division.
-- Assumes nothing.
use Rattle.std.specs.Prelude.{ℕ, ◌/◌, ◌%◌}
use Rattle.ground.specs.declared.measure.Metres.{Metres}
use Rattle.ground.specs.declared.measure.Units.{Units}

-- n metres
abbrev pub metres : ℕ → Metres
metres n = record { 0 = n }

-- n units
abbrev pub units : ℕ → Units
units n = record { 0 = n }

-- metres in units: divided by 500, truncated
abbrev pub in_units : Metres → Units
in_units m = units (m.0 / 500)

-- the metres past the last whole unit: mod 500. Of an easting this is fx, of a northing fy
abbrev pub past_unit : Metres → Metres
past_unit m = metres (m.0 % 500)
