-- The lines of a parameter file that are taken.
use Rattle.std.specs.Prelude.{ℕ, Bool, ◌==◌, nat_eq, List, [], ◌∷◌, ◌++◌, length, drop, Option, Some, None}
use Rattle.std.specs.Prelude.{if◌then◌else◌}
use Rattle.std.specs.List.{filter_map, slice_split, starts_with, list_any, find}
use Rattle.std.specs.Option.{option_or, option_map}
use Rattle.std.specs.Str.Lines.{strip_carriage_return}
use Rattle.mz_num.specs.Blank.{trimmed}
use Rattle.mz_params.specs.declared.key.Key.{Key}
use Rattle.mz_params.specs.declared.fault.ParamFault.{ParamFault}
use Rattle.mz_params.specs.declared.fault.ParamFault.TheVariants.{Repeated}
use Rattle.mz_params.specs.KeyLine.{KeyLine}
use Rattle.mz_params.specs.KeyName.{key_of, same_key}
use Rattle.mz_params.specs.Value.{first_word, value_fault}

abbrev pub is_line_feed : ℕ → Bool
is_line_feed byte = byte == 10

-- the bytes without a byte order mark at their start
abbrev pub without_mark : List ℕ → List ℕ
without_mark bytes = (if starts_with nat_eq bytes (239 ∷ 187 ∷ 191 ∷ []) then drop 3 bytes else bytes)

-- a key with the rest of its line
abbrev pub line_with : List ℕ → Option Key → Option KeyLine
line_with value None = None
line_with value (Some key) = Some (record { key = key; value = value })

-- what stands on a line without blanks at its ends, if its first word is a key
abbrev pub line_in : List ℕ → Option KeyLine
line_in text = line_with (trimmed (drop (length (first_word text)) text)) (key_of (first_word text))

-- what stands on a line that is taken
unfoldable pub line_of : List ℕ → Option KeyLine
line_of line = line_in (trimmed (strip_carriage_return line))

-- the lines of a file that are taken; each ends at a line feed
unfoldable pub lines_of : List ℕ → List KeyLine
lines_of bytes = filter_map line_of (slice_split is_line_feed (without_mark bytes))

-- a line of the key stands among these
abbrev pub has_key : Key → List KeyLine → Bool
has_key key lines = list_any (λ e. same_key e.key key) lines

-- the value of a key among these lines
unfoldable pub value_of : Key → List KeyLine → Option (List ℕ)
value_of key lines = option_map (λ e. e.value) (find (λ e. same_key e.key key) lines)

-- the fault of a line behind earlier ones
unfoldable pub line_fault : List KeyLine → KeyLine → Option ParamFault
line_fault earlier e = (if has_key e.key earlier then Some (Repeated e.key) else value_fault e.key e.value)

-- the first fault of lines behind earlier ones
abbrev pub first_fault : List KeyLine → List KeyLine → Option ParamFault
first_fault earlier [] = None
first_fault earlier (e ∷ later) = option_or (line_fault earlier e) (first_fault (earlier ++ e ∷ []) later)
