use Rattle.mz_history.proofs.StartLemmas.{allowed_at, some_zone}
use Rattle.mz_history.proofs.starting_plan.resting_zone.Goals as goal

pub bounds-allowed_zones-0 : goal.bounds-allowed_zones-0
bounds-allowed_zones-0 c = some_zone _ _ _ c.requires.valid c.requires.unit c.allowed_zones.ensures.zones

pub returns-else-is_allowed-clause-allowed : goal.returns-else-is_allowed-clause-allowed
returns-else-is_allowed-clause-allowed c = allowed_at _ _ 0 _ c.allowed_zones.ensures.zones (some_zone _ _ _ c.requires.valid c.requires.unit c.allowed_zones.ensures.zones)
