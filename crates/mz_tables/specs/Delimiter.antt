-- The byte that stands between the fields of a table.
use Rattle.std.specs.Prelude.{ℕ, Bool, ◌||◌, ◌==◌, List, if◌then◌else◌}
use Rattle.std.specs.List.{list_any, before_first}

abbrev pub is_line_end : ℕ → Bool
is_line_end byte = byte == 13 || byte == 10

abbrev pub is_comma : ℕ → Bool
is_comma byte = byte == 44

-- the comma where the bytes before the first carriage return or line feed hold one, else the tab
unfoldable pub delimiter_of : List ℕ → ℕ
delimiter_of bytes = (if list_any is_comma (before_first is_line_end bytes) then 44 else 9)
