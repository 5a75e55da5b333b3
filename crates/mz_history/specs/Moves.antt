-- Entries whose unit and zones are those of a problem.
use Rattle.std.specs.Prelude.{◌<◌, IsTrue}
use Rattle.mz_model.specs.declared.parts.Parts.{Parts}
use Rattle.mz_model.specs.Parts.{unit_count}
use Rattle.mz_model.specs.Zones.{is_allowed}
use Rattle.mz_history.specs.declared.entry.Entry.{Entry}

-- the unit is one of the problem, and may have both zones
pub record IsMove (parts : Parts) (entry : Entry) : Type 0 where
  pub unit : entry.unit < unit_count parts
  pub old : IsTrue (is_allowed parts entry.unit entry.old)
  pub new : IsTrue (is_allowed parts entry.unit entry.new)
