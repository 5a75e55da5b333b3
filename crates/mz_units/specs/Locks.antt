-- The file of locks: a unit that is locked to a zone.
use Rattle.std.specs.Prelude.{ℕ, ◌≡◌, ◌^◌, ◌<◌, ◌==◌, ◌⊎◌, Bool, List, length, slice_index, Result, Ok, Err, if◌then◌else◌}
use Rattle.std.specs.Int.{bit_at}
use Rattle.mz_tables.specs.Table.{Row}
use Rattle.mz_tables.specs.declared.fault.RowFault.{RowFault}
use Rattle.mz_tables.specs.declared.fault.RowFault.TheVariants.{LockConflict}
use Rattle.mz_rows.specs.Keyed.{values_below}
use Rattle.mz_rows.specs.Rows.{RowReader, go_on, items_of, line_behind, once}
use Rattle.mz_units.specs.ZoneSets.{unit_zone_in}
use Rattle.mz_units.specs.ZoneSets.{UnitZone}

-- the zone of a lock is one of those that its unit is limited to
abbrev pub is_allowed : List ℕ → UnitZone → Bool
is_allowed allowed lock = bit_at (slice_index allowed lock.0) lock.1 == 1

-- the lock, unless its zone isn't allowed
abbrev pub unless_outside : Bool → ℕ → ℕ → UnitZone → Result UnitZone RowFault
unless_outside allowed line id lock = (if allowed then Ok lock else Err (LockConflict line id))

-- a lock must be in its unit's zones; this is tested last
abbrev pub within_sets : List ℕ → List ℕ → RowReader UnitZone → RowReader UnitZone
within_sets units allowed read earlier row =
    go_on (read earlier row)
    (λ lock. unless_outside (is_allowed allowed lock) (line_behind earlier) (slice_index units lock.0) lock)

-- the rows of the file: no unit twice, and each lock in its unit's zones
unfoldable pub lock_rows : List ℕ → List ℕ → List ℕ → List Row → Result (List UnitZone) RowFault
lock_rows units zones allowed rows =
    items_of (within_sets units allowed
    (once (λ lock. lock.0) (λ earlier. unit_zone_in units zones (line_behind earlier)))) rows

-- the zone sets under locks: the one zone of a unit's lock, and for a unit without a lock its set
abbrev pub locked_sets : List ℕ → List UnitZone → List ℕ
locked_sets allowed locks = values_below (length allowed) (λ lock. lock.0) (λ lock. 2 ^ lock.1)
    (λ unit. slice_index allowed unit) locks

-- a set as it was, or one zone of it
abbrev pub IsNarrowed : ℕ → ℕ → ℕ → Type 0
IsNarrowed zones before after = (after ≡ before)
    ⊎ ((zone : ℕ) × (zone < zones) × (bit_at before zone ≡ 1) × (after ≡ 2 ^ zone))

-- the zone sets under the locks that a table gives, or its first fault
unfoldable pub locked_sets_of : List ℕ → List ℕ → List ℕ → List Row → Result (List ℕ) RowFault
locked_sets_of units zones allowed rows =
    go_on (lock_rows units zones allowed rows) (λ locks. Ok (locked_sets allowed locks))
