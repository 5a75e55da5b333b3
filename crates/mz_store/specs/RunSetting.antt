-- What the entries of a run have in common.
use Rattle.std.specs.Prelude.{ℕ}
use Rattle.mz_history.specs.Replay.{Setting}
use Rattle.mz_state.specs.Kept.{KeptState}

-- what a run is played with, the most entries that its journal may have, and its number of seats
pub record RunSetting : Type 0 where
  pub setting : Setting
  pub limit : ℕ
  pub seats : ℕ

-- that of a kept state
abbrev pub run_of : KeptState → RunSetting
run_of k = record { setting = k.setting; limit = k.limit; seats = k.seats }
