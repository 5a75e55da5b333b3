-- The file of boundaries: the units stand in rows of 50.
use Rattle.std.specs.Prelude.{ℕ, ◌+◌, ◌%◌, ◌==◌, if◌then◌else◌, nat_lt, List, [], ◌++◌, codes, decimal}
use Rattle.std.specs.List.{concat}
use Rattle.mz_num.specs.Places.{list_below}

-- two units by their places share a boundary of length 1
abbrev pub boundary_line : ℕ → ℕ → List ℕ
boundary_line first second = decimal (first + 1) ++ codes "," ++ decimal (second + 1) ++ codes ",1\n"

-- with the next unit, unless the row ends here
abbrev pub line_with_next : ℕ → List ℕ
line_with_next unit = if unit % 50 == 49 then [] else boundary_line unit (unit + 1)

-- with the unit in the next row, unless this is the last row
abbrev pub line_with_next_row : ℕ → ℕ → List ℕ
line_with_next_row units unit = if nat_lt (unit + 50) units then boundary_line unit (unit + 50) else []

abbrev pub boundary_lines : ℕ → ℕ → List ℕ
boundary_lines units unit = line_with_next unit ++ line_with_next_row units unit

unfoldable pub bounds_text : ℕ → List ℕ
bounds_text units = codes "id1,id2,boundary\n" ++ concat (list_below units (boundary_lines units))
