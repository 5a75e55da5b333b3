-- How a table keeps its rows: the fields of all wanted columns one after another, an empty one where the
-- column isn't there.
use Rattle.std.specs.Prelude.{ℕ, zero, suc, List, [], ◌∷◌, length, drop, get_or, Option, Some, None}
use Rattle.mz_num.specs.Blank.{trimmed}
use Rattle.mz_tables.specs.Table.{Row}

-- what is kept of a record for a column
abbrev pub kept_of : List (List ℕ) → Option ℕ → List ℕ
kept_of fields None = []
kept_of fields (Some place) = trimmed (get_or fields place [])

-- a kept cell, seen as a field
abbrev pub seen_as : Option ℕ → List ℕ → Option (List ℕ)
seen_as None cell = None
seen_as (Some place) cell = Some cell

-- the row that the first cells hold
unfoldable pub row_in : List (Option ℕ) → List (List ℕ) → Row
row_in [] cells = []
row_in (column ∷ columns) cells = seen_as column (get_or cells 0 []) ∷ row_in columns (drop 1 cells)

-- so many rows of cells
unfoldable pub rows_in : List (Option ℕ) → ℕ → List (List ℕ) → List Row
rows_in columns zero cells = []
rows_in columns (suc count) cells = row_in columns cells ∷ rows_in columns count (drop (length columns) cells)
