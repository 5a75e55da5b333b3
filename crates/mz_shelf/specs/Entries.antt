-- The files that the entries of a map of texts stand for.
use Rattle.std.specs.Prelude.{ℕ, List, map, String, Vec, string_bytes}
use Rattle.std.specs.FinMap.{from_entries, code}
use Rattle.std.specs.Coded.{Coded, coded_ℕ, coded_list}
use Rattle.mz_shelf.specs.State.{Files}

-- each name by its bytes
abbrev pub files_of : {A B : Type 0} → List (String A × Vec ℕ B) → Files
files_of entries = from_entries (map (λ entry. (string_bytes entry.0, entry.1.items)) entries)

abbrev pub files_code : Coded Files
files_code = code (coded_list coded_ℕ) (coded_list coded_ℕ)
