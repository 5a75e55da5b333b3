-- Readings that are right for a history, and what a look gives.
use Rattle.std.specs.Prelude.{◌≡◌, ℕ, List, ◌∷◌, ◌++◌, length}
use Rattle.std.specs.List.{zip}
use Rattle.mz_model.specs.declared.parts.Parts.{Parts}
use Rattle.mz_model.specs.Items.{Item, items_of}
use Rattle.mz_delta.specs.declared.reading.Reading.{Reading}
use Rattle.mz_delta.specs.Reading.{Agrees, IsWellFormed}
use Rattle.mz_history.specs.declared.entry.Entry.{Entry}
use Rattle.mz_history.specs.Items.{IsCurrent}
use Rattle.mz_history.specs.Replay.{plan_of_history, Setting}
use Rattle.mz_state.specs.Kept.{KeptState}

-- the items of a reading's unit, each with its read value
abbrev pub read_values : Parts → Reading → List (Item × ℕ)
read_values parts reading =
    zip (items_of parts reading.unit) (reading.zone ∷ (reading.neighbours.items ++ reading.totals.items))

-- the reading is right for a history: each item that no accepted entry at its front or later changes has there the
-- value that was read
abbrev pub IsRightFor : Setting → List Entry → Reading → Type 0
IsRightFor s history reading = IsCurrent s history reading.front (read_values s.parts reading)

-- a reading of the unit with the seat, behind the whole journal and right for it, with which its plan agrees
pub record IsLook (k : KeptState) (own place : ℕ) (reading : Reading) : Type 0 where
  pub seat : reading.seat ≡ own
  pub front : reading.front ≡ length k.journal
  pub unit : reading.unit ≡ place
  pub well_formed : IsWellFormed k.setting.parts reading
  pub agrees : Agrees k.setting.parts (plan_of_history k.setting k.journal) reading
  pub right : IsRightFor k.setting k.journal reading
