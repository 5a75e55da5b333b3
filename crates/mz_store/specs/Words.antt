-- The words that a store publishes: one for the zone of each unit, and behind these one for what is held for each
-- target row.
use Rattle.std.specs.Prelude.{◌<◌, ◌+◌, ℕ, Bool, nat_le, nat_lt, if◌then◌else◌, List, ◌++◌}
use Rattle.mz_num.specs.Limits.{greatest_quantity}
use Rattle.mz_model.specs.declared.parts.Parts.{Parts}
use Rattle.mz_model.specs.Items.{Item, row_item, unit_item}
use Rattle.mz_model.specs.Parts.{target_count, unit_count}
use Rattle.mz_model.specs.Zones.{is_allowed}
use Rattle.mz_delta.specs.Reading.{totals_of_plan}
use Rattle.mz_history.specs.Replay.{Setting}
use Rattle.mz_history.specs.Start.{starting_plan}

-- the place of an item's word
abbrev pub word_of_item : Parts → Item → ℕ
word_of_item parts (unit_item unit) = unit
word_of_item parts (row_item row) = unit_count parts + row

-- an item of the problem
abbrev pub IsItem : Parts → Item → Type 0
IsItem parts (unit_item unit) = unit < unit_count parts
IsItem parts (row_item row) = row < target_count parts

-- a unit's word may be a zone that the unit may have, and a target row's word a total of at most 10^18
abbrev pub may_have : Parts → ℕ → ℕ → Bool
may_have parts word value =
    if nat_lt word (unit_count parts) then is_allowed parts word value else nat_le value greatest_quantity

-- the zones of the starting plan, and what it holds for each target row
abbrev pub opening_words : Setting → List ℕ
opening_words s =
    starting_plan s.parts s.prop s.seed s.run ++ totals_of_plan s.parts (starting_plan s.parts s.prop s.seed s.run)
