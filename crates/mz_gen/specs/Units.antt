-- The files of units and of amounts.
use Rattle.std.specs.Prelude.{ℕ, ◌+◌, if◌then◌else◌, nat_lt, List, [], ◌++◌, slice_index, codes, decimal}
use Rattle.std.specs.List.{concat}
use Rattle.mz_num.specs.Places.{list_below}
use Rattle.mz_draw.specs.Words.{pick_of}
use Rattle.mz_gen.specs.Words.{cost_place, amount_place}

-- a unit's cost is 1 to 100
abbrev pub cost_of : List ℕ → ℕ → ℕ
cost_of words unit = 1 + pick_of 100 (slice_index words (cost_place unit))

-- a unit's id and its cost
abbrev pub unit_line : List ℕ → ℕ → List ℕ
unit_line words unit = decimal (unit + 1) ++ codes "," ++ decimal (cost_of words unit) ++ codes "\n"

unfoldable pub units_text : ℕ → List ℕ → List ℕ
units_text units words = codes "id,cost\n" ++ concat (list_below units (unit_line words))

-- of 40 numbers, the first ten stand for the amounts 1 to 10, and the others for no amount
abbrev pub number_drawn : List ℕ → ℕ → ℕ → ℕ
number_drawn words unit feature = pick_of 40 (slice_index words (amount_place unit feature))

-- the ids of a feature and a unit, and the amount, where there is one
abbrev pub amount_line : List ℕ → ℕ → ℕ → List ℕ
amount_line words unit feature =
    if nat_lt (number_drawn words unit feature) 10
    then decimal (feature + 1) ++ codes "," ++ decimal (unit + 1) ++ codes ","
    ++ decimal (number_drawn words unit feature + 1) ++ codes "\n"
    else []

abbrev pub amount_lines : ℕ → List ℕ → ℕ → List ℕ
amount_lines features words unit = concat (list_below features (amount_line words unit))

-- in order of unit and feature
unfoldable pub amounts_text : ℕ → ℕ → List ℕ → List ℕ
amounts_text features units words =
    codes "featureid,puid,amount\n" ++ concat (list_below units (amount_lines features words))
