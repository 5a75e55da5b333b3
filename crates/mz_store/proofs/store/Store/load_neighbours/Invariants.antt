use Rattle.std.proofs.Common.{◌<◌, ◌≤◌, ℕ, take}
use Rattle.std.specs.Prelude.{IsTrue, slice_index}
use Rattle.mz_model.specs.Zones.{is_allowed}
use Rattle.mz_delta.specs.Reading.{neighbour_at}
use Rattle.mz_store.specs.Loads.{places_around}
use Rattle.mz_store.proofs.LoadLaws.{HasLoaded}
use Rattle.mz_store.proofs.store.Store.load_neighbours.Given as goal

abbrev pub invariant-loop-neighbour : goal.invariant-loop-neighbour
invariant-loop-neighbour l =
    HasLoaded l.fn.chair l.chair (take l.neighbour-index (places_around l.self.run.setting.parts l.unit)) l.zones.items
    × ((i : ℕ) → i < l.neighbour-index → IsTrue (is_allowed l.self.run.setting.parts (neighbour_at l.self.run.setting.parts l.unit i) (slice_index l.zones.items i)))
    × (l.fn.zones.room ≤ l.zones.room)
