-- Every zone for each unit.
use Rattle.std.proofs.Common.{ℕ, ◌-◌, ◌^◌, ◌<◌}
use Rattle.std.proofs.lemmas.List.{length-replicate}
use Rattle.std.proofs.lemmas.List.Elements.{All-replicate}
use Rattle.mz_num.specs.ZoneSet.{IsZoneSet}
use Rattle.mz_units.proofs.ZoneSetLemmas.{set-every}
use Rattle.mz_project.specs.Sets.{AreZoneSets}
use Rattle.mz_project.specs.Sets.{every_zone}

pub every-fit : (units zones : ℕ) → 0 < zones → AreZoneSets units zones (every_zone units zones)
every-fit units zones some = record { all_units = length-replicate units (2 ^ zones - 1); each = All-replicate (IsZoneSet zones) units (2 ^ zones - 1) (set-every zones some) }
