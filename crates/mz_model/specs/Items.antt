-- The items of a unit: what a move of the unit reads.
use Rattle.std.specs.Prelude.{ℕ, List, ◌∷◌, ◌++◌, map}
use Rattle.mz_model.specs.declared.neighbour.Neighbour.{Neighbour}
use Rattle.mz_model.specs.declared.parts.Parts.{Parts}
use Rattle.mz_model.specs.Boundary.{neighbours_of}
use Rattle.mz_model.specs.Targets.{touched_rows}

-- the zone of a unit, or what is held for a target row
pub data Item : Type 0 where
  unit_item : ℕ → Item
  row_item : ℕ → Item

-- the unit, its neighbours, and the target rows for which it gains in some zone
unfoldable pub items_of : Parts → ℕ → List Item
items_of parts unit =
    unit_item unit
    ∷ (map (λ (neighbour : Neighbour). unit_item neighbour.unit) (neighbours_of parts unit)
    ++ map row_item (touched_rows parts unit))
