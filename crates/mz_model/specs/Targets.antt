-- Target rows: what a plan holds for a row, how much it falls short, and when the row is met.
use Rattle.std.specs.Prelude.{ℕ, ◌+◌, ◌-◌, ◌*◌, ◌≤◌, ◌==◌, Bool, cond, List, map, Option, None, Some}
use Rattle.std.specs.Prelude.{nat_le, nat_lt, slice_index}
use Rattle.mz_num.specs.Round.{round}
use Rattle.mz_model.specs.declared.parts.Parts.{Parts}
use Rattle.mz_model.specs.declared.touch.Touch.{Touch}
use Rattle.mz_model.specs.Amounts.{amount_of}
use Rattle.mz_model.specs.Parts.{unit_count, zone_count, target_count, fraction_at, target_at}
use Rattle.mz_num.specs.Places.{sum_below, greatest_below, places_below}
use Rattle.mz_num.specs.Limits.{million}

-- what an amount in a zone counts: for an overall row, which has no zone, the rounded part of it that the
-- fraction says; for a zone row all of it in the row's zone, and nothing elsewhere
abbrev pub counted : Option ℕ → ℕ → ℕ → ℕ → ℕ
counted None amount fraction zone = round (amount * fraction) million
counted (Some own) amount fraction zone = cond (zone == own) amount 0

-- what an amount of a row's feature counts for the row in a zone
unfoldable pub gain_from : Parts → ℕ → ℕ → ℕ → ℕ
gain_from parts row amount zone =
    let target = target_at parts row in
    counted target.zone amount (fraction_at parts zone target.feature) zone

-- what is held for a row once a unit that touches it went from one zone to another, where so much was held before
abbrev pub held_after : Parts → Touch → ℕ → ℕ → ℕ → ℕ
held_after parts touch held from to =
    held + gain_from parts touch.row touch.amount to - gain_from parts touch.row touch.amount from

-- a unit's amount of a row's feature
unfoldable pub amount_for : Parts → ℕ → ℕ → ℕ
amount_for parts row unit = amount_of parts.amounts unit (target_at parts row).feature

-- what a unit gains for a target row in a zone
unfoldable pub gain_of : Parts → ℕ → ℕ → ℕ → ℕ
gain_of parts row unit zone = gain_from parts row (amount_for parts row unit) zone

-- what a plan holds for a target row: the gains of all units in their zones
unfoldable pub held_of : Parts → List ℕ → ℕ → ℕ
held_of parts zones row = sum_below (unit_count parts) (λ unit. gain_of parts row unit (slice_index zones unit))

-- how much is missing where so much is held: the level less what is held, at least 0
unfoldable pub shortfall_of : Parts → ℕ → ℕ → ℕ
shortfall_of parts row held = (target_at parts row).level - held

-- the shortfall of a plan: that of all target rows
unfoldable pub shortfall_of_plan : Parts → List ℕ → ℕ
shortfall_of_plan parts zones = sum_below (target_count parts) (λ row. shortfall_of parts row (held_of parts zones row))

-- whether what is held reaches the part of the level that MISSLEVEL asks, in millionths: then the target is met
abbrev pub is_met : ℕ → ℕ → ℕ → Bool
is_met miss_level level held = nat_le (miss_level * level) (held * million)

-- a target is met where what is held reaches the part of the level that MISSLEVEL asks, in millionths
abbrev pub IsMet : ℕ → ℕ → ℕ → Type 0
IsMet miss_level level held = miss_level * level ≤ held * million

-- whether a unit gains for a target row in some zone
unfoldable pub is_touched : Parts → ℕ → ℕ → Bool
is_touched parts unit row = nat_lt 0 (greatest_below (zone_count parts) (gain_of parts row unit))

-- the target rows for which a unit gains in some zone, in rising order
unfoldable pub touched_rows : Parts → ℕ → List ℕ
touched_rows parts unit = places_below (target_count parts) (is_touched parts unit)

-- a target row with an amount of its feature
abbrev pub as_touch : ℕ → ℕ → Touch
as_touch row amount = record { row = row; amount = amount }

-- what stands for one past the last
abbrev pub no_touch : Touch
no_touch = as_touch 0 0

-- these rows, each with the unit's amount of its feature
unfoldable pub touches_of : Parts → ℕ → List Touch
touches_of parts unit = map (λ row. as_touch row (amount_for parts row unit)) (touched_rows parts unit)
