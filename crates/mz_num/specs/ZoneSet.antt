-- Sets of zones, as numbers whose bits are the zones' places.
use Rattle.std.specs.Prelude.{ℕ, ◌<◌, ◌^◌}

-- a set of zones that isn't empty
pub record IsZoneSet (zones set : ℕ) : Type 0 where
  pub some_zone : 0 < set
  pub in_range : set < 2 ^ zones
