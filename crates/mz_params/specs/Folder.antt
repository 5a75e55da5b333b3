-- A file's name within a folder, in this project's profile.
use Rattle.std.specs.Prelude.{ℕ, ◌-◌, ◌==◌, ◌||◌, Bool, List, [], ◌∷◌, ◌++◌, length, take, drop, if◌then◌else◌}
use Rattle.std.specs.List.{list_any}

-- `/` or `\`
abbrev pub is_folder_mark : ℕ → Bool
is_folder_mark byte = byte == 47 || byte == 92

-- the last byte is such a mark
abbrev pub ends_in_mark : List ℕ → Bool
ends_in_mark folder = list_any is_folder_mark (drop (length folder - 1) folder)

-- the folder without the one mark at its end
unfoldable pub without_end_mark : List ℕ → List ℕ
without_end_mark folder = (if ends_in_mark folder then take (length folder - 1) folder else folder)

-- the name behind the folder and a `/`; an empty folder adds nothing
abbrev pub behind_folder : List ℕ → List ℕ → List ℕ
behind_folder [] name = name
behind_folder (byte ∷ folder) name = (byte ∷ folder) ++ 47 ∷ name

-- the file of that name in a folder as it is given
abbrev pub file_in : List ℕ → List ℕ → List ℕ
file_in folder name = behind_folder (without_end_mark folder) name
