-- The file of zone costs: what a zone multiplies a cost by.
use Rattle.std.specs.Prelude.{ℕ, List, Result}
use Rattle.mz_tables.specs.Table.{Row}
use Rattle.mz_tables.specs.declared.fault.RowFault.{RowFault}
use Rattle.mz_rows.specs.ByZone.{by_zone_of}

-- the multipliers that a table gives, or its first fault: of each zone and cost its number, at `zone * costs + cost`
abbrev pub multipliers_of : List ℕ → List ℕ → List Row → Result (List ℕ) RowFault
multipliers_of zones costs rows = by_zone_of zones costs rows
