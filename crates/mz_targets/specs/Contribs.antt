-- The file of contributions: which fraction of a feature's amount a zone holds.
use Rattle.std.specs.Prelude.{ℕ, List, Result}
use Rattle.mz_tables.specs.Table.{Row}
use Rattle.mz_tables.specs.declared.fault.RowFault.{RowFault}
use Rattle.mz_rows.specs.ByZone.{by_zone_of}

-- the fractions that a table gives, or its first fault: of each zone and feature its number, at
-- `zone * features + feature`
abbrev pub fractions_of : List ℕ → List ℕ → List Row → Result (List ℕ) RowFault
fractions_of zones features rows = by_zone_of zones features rows
