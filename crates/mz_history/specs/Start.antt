-- The starting plan.
use Rattle.std.specs.Prelude.{ℕ, ◌+◌, ◌*◌, ◌/◌, ◌^◌, Bool, if◌then◌else◌, nat_lt, List, length, slice_index}
use Rattle.mz_model.specs.declared.parts.Parts.{Parts}
use Rattle.mz_model.specs.Parts.{unit_count}
use Rattle.mz_num.specs.Places.{list_below, places_below}
use Rattle.mz_model.specs.Zones.{is_allowed, is_free, allowed_zones}
use Rattle.mz_draw.specs.Words.{word_at, pick_of}

-- the seat whose words draw the starting plan
abbrev pub start_seat : ℕ
start_seat = 62

-- how many units before this one are free
abbrev pub free_before : Parts → ℕ → ℕ
free_before parts unit = length (places_below unit (is_free parts))

-- the zone of a unit that isn't drawn: the available zone if it is allowed, else the first allowed zone
abbrev pub resting_zone : Parts → ℕ → ℕ
resting_zone parts unit =
    if is_allowed parts unit parts.available then parts.available else slice_index (allowed_zones parts unit) 0

-- whether a word draws a share of so many millionths
abbrev pub is_drawn : ℕ → ℕ → Bool
is_drawn prop word = nat_lt word (prop * 2 ^ 32 / 10 ^ 6)

-- each free unit in order has two words of the start's seat: the first says whether its zone is drawn,
-- the second which of its allowed zones it is
abbrev pub starting_zone : Parts → ℕ → ℕ → ℕ → ℕ → ℕ
starting_zone parts prop seed run unit =
    let zones = allowed_zones parts unit in
    let place = 2 * free_before parts unit in
    if is_free parts unit
    then (if is_drawn prop (word_at seed run start_seat place)
    then slice_index zones (pick_of (length zones) (word_at seed run start_seat (place + 1)))
    else resting_zone parts unit)
    else slice_index zones 0

-- the plan that a run starts from
unfoldable pub starting_plan : Parts → ℕ → ℕ → ℕ → List ℕ
starting_plan parts prop seed run = list_below (unit_count parts) (starting_zone parts prop seed run)
