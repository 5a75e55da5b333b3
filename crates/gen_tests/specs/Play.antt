-- A play: a kept state of run 1, played with these rules by sixty seats.
use Rattle.std.specs.Prelude.{◌≡◌, ℕ, ◌<◌, length}
use Rattle.mz_model.specs.declared.parts.Parts.{Parts}
use Rattle.mz_model.specs.Zones.{free_units}
use Rattle.mz_history.specs.declared.rules.Rules.{Rules}
use Rattle.mz_history.specs.Rules.{setting_with}
use Rattle.mz_state.specs.Kept.{KeptState}

pub record IsPlay (parts : Parts) (rules : Rules) (seed : ℕ) (kept : KeptState) : Type 0 where
  pub setting : kept.setting ≡ setting_with parts rules seed 1
  pub limit : kept.limit ≡ rules.limit
  pub seats : kept.seats ≡ 60
  pub some_free : 0 < length (free_units parts)
