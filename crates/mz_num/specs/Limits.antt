-- The limits of this project's profile, each once: how many things a project may have, and how great its
-- numbers may be.
use Rattle.std.specs.Prelude.{ℕ, ◌^◌}

-- the greatest cost, amount, length, rate, level, weight, and sum of such: in their ten-thousandths or millionths
abbrev pub greatest_quantity : ℕ
greatest_quantity = 10 ^ 18

-- the greatest score of a plan, and the greatest change of one: in ten-thousandths
abbrev pub greatest_score : ℕ
greatest_score = 10 ^ 25

-- the greatest id of a unit, zone, feature or cost
abbrev pub greatest_id : ℕ
greatest_id = 2147483647

-- a whole in millionths, as multipliers, fractions and rates have them
abbrev pub million : ℕ
million = 1000000

abbrev pub most_units : ℕ
most_units = 100000

abbrev pub most_zones : ℕ
most_zones = 60

abbrev pub most_costs : ℕ
most_costs = 60

abbrev pub most_features : ℕ
most_features = 10000

-- overall rows and rows of zones together
abbrev pub most_target_rows : ℕ
most_target_rows = 100000

abbrev pub most_zone_target_rows : ℕ
most_zone_target_rows = 90000

abbrev pub most_amount_rows : ℕ
most_amount_rows = 5000000

abbrev pub most_boundary_rows : ℕ
most_boundary_rows = 1000000

abbrev pub most_zone_set_rows : ℕ
most_zone_set_rows = 6000000

abbrev pub most_workers : ℕ
most_workers = 60

abbrev pub most_runs : ℕ
most_runs = 1000

-- the proposals of one run
abbrev pub most_proposals : ℕ
most_proposals = 10000000

-- the levels of a falling temperature
abbrev pub most_levels : ℕ
most_levels = 1000000

-- the bytes of one file
abbrev pub most_file_bytes : ℕ
most_file_bytes = 268435456
