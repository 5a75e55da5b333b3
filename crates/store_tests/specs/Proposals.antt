-- What the tests' passes propose.
use Rattle.std.specs.Prelude.{◌≡◌, ◌<◌, ℕ, List, Some, length, slice_index_or}
use Rattle.mz_model.specs.declared.parts.Parts.{Parts}
use Rattle.mz_model.specs.Zones.{free_units}
use Rattle.mz_delta.specs.declared.judged.Judged.{Judged}
use Rattle.mz_delta.specs.declared.reading.Reading.{Reading}
use Rattle.mz_delta.specs.Judged.{IsRight}
use Rattle.mz_store.specs.Pass.{draw_of, PassState}
use Rattle.mz_store.specs.Store.{StoreState}

-- the store's run is the first one of the problem, some unit of which is free, with the random seed
pub record IsRunOf (store : StoreState) (parts : Parts) (seed : ℕ) : Type 0 where
  pub problem : parts ≡ store.run.setting.parts
  pub seed_is : store.run.setting.seed ≡ seed
  pub run : store.run.setting.run ≡ 1
  pub some_free : 0 < length (free_units parts)

-- the passes of the store's seats 0 and 1
pub record AreOf (store : StoreState) (a b : PassState) : Type 0 where
  pub first : a.store ≡ store.board
  pub second : b.store ≡ store.board
  pub first_seat : a.seat ≡ 0
  pub second_seat : b.seat ≡ 1

-- passes of the store, one for each seat, in the order of the seats
pub record AreInOrder (store : StoreState) (passes : List PassState) : Type 0 where
  pub count : length passes ≡ store.run.seats
  pub each : (seat : ℕ) (other : PassState) → seat < length passes
      → ((slice_index_or passes seat other).store ≡ store.board) × ((slice_index_or passes seat other).seat ≡ seat)

-- this was read last by the pass, and judged for its next draw
pub record IsProposed (store : StoreState) (pass : PassState) (reading : Reading) (judged : Judged) : Type 0 where
  pub last : pass.reading ≡ Some reading
  pub right : IsRight store.run.setting.parts reading (draw_of store.run pass) judged
