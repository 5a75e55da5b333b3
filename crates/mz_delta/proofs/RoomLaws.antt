-- Laws of rooms.
use Rattle.std.proofs.Common.{ℕ, ◌<◌, ◌≤◌, length}
use Rattle.mz_model.specs.declared.parts.Parts.{Parts}
use Rattle.mz_model.specs.Boundary.{neighbours_of}
use Rattle.mz_model.specs.Parts.{unit_count}
use Rattle.mz_model.specs.Targets.{touched_rows}
use Rattle.mz_num.proofs.PlaceLaws.{at-le-greatest_below}
use Rattle.mz_delta.specs.Rooms.{greatest_degree, greatest_touched}

pub degree-le : (parts : Parts) (unit : ℕ) → unit < unit_count parts → length (neighbours_of parts unit) ≤ greatest_degree parts
unfolding greatest_degree
degree-le parts unit h = at-le-greatest_below (unit_count parts) unit (λ u. length (neighbours_of parts u)) h

pub touched-le : (parts : Parts) (unit : ℕ) → unit < unit_count parts → length (touched_rows parts unit) ≤ greatest_touched parts
unfolding greatest_touched
touched-le parts unit h = at-le-greatest_below (unit_count parts) unit (λ u. length (touched_rows parts u)) h
