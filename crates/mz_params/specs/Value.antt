-- What the value of a key reads as, by the kind of the key, in this project's profile.
use Rattle.std.specs.Prelude.{ℕ, ℤ, pos, negsuc, ◌||◌, ◌==◌, nat_lt, List, Option, Some, None, Result, Ok, Err}
use Rattle.std.specs.Prelude.{if◌then◌else◌}
use Rattle.std.specs.Result.{result_err}
use Rattle.std.specs.Str.{is_utf8}
use Rattle.std.specs.List.{before_first}
use Rattle.mz_num.specs.Blank.{is_blank}
use Rattle.mz_num.specs.NumberText.{ten4_of, mic6_of, whole_of, signed_of}
use Rattle.mz_num.specs.declared.fault.NumFault.{NumFault}
use Rattle.mz_num.specs.declared.fault.NumFault.TheVariants.{Empty, NotANumber, Negative, TooLarge}
use Rattle.mz_params.specs.declared.key.Key.{Key}
use Rattle.mz_params.specs.declared.key_kind.KeyKind.{KeyKind}
use Rattle.mz_params.specs.declared.key_kind.KeyKind.TheVariants.{Text, Whole, Millionths, Seed, Start, Mode, Zero}
use Rattle.mz_params.specs.declared.fault.ParamFault.{ParamFault}
use Rattle.mz_params.specs.declared.fault.ParamFault.TheVariants.{BadValue, OutOfRange, LeftOut}
use Rattle.mz_params.specs.KeyKind.{kind_of}
use Rattle.mz_params.specs.KeyRange.{least_of, greatest_of}

-- the first word: what stands before the first blank
abbrev pub first_word : List ℕ → List ℕ
first_word text = before_first is_blank text

-- the fault of a key that takes no number below 0
abbrev pub number_fault : Key → NumFault → ParamFault
number_fault key Empty = BadValue key
number_fault key NotANumber = BadValue key
number_fault key Negative = OutOfRange key
number_fault key TooLarge = OutOfRange key

-- a text, which is UTF-8
unfoldable pub text_value : Key → List ℕ → Result (List ℕ) ParamFault
text_value key text = (if is_utf8 text then Ok text else Err (BadValue key))

-- a number from the least to the greatest that the key takes
abbrev pub in_range : Key → Result ℕ NumFault → Result ℕ ParamFault
in_range key (Err fault) = Err (number_fault key fault)
in_range key (Ok n) = (if nat_lt n (least_of key) || nat_lt (greatest_of key) n then Err (OutOfRange key) else Ok n)

-- a whole number in the key's range
unfoldable pub whole_value : Key → List ℕ → Result ℕ ParamFault
whole_value key text = in_range key (whole_of (greatest_of key) (first_word text))

-- a number of millionths in the key's range
unfoldable pub millionths_value : Key → List ℕ → Result ℕ ParamFault
millionths_value key text = in_range key (mic6_of (first_word text))

-- a seed: none where the number is below 0
abbrev pub seed_from : Key → Result ℤ NumFault → Result (Option ℕ) ParamFault
seed_from key (Err fault) = Err (number_fault key fault)
seed_from key (Ok (pos n)) = Ok (Some n)
seed_from key (Ok (negsuc n)) = Ok None

unfoldable pub seed_value : Key → List ℕ → Result (Option ℕ) ParamFault
seed_value key text = seed_from key (signed_of (first_word text))

-- a temperature to start at: none where the number is below 0
abbrev pub start_from : Key → Result ℕ NumFault → Result (Option ℕ) ParamFault
start_from key (Err Negative) = Ok None
start_from key (Err Empty) = Err (BadValue key)
start_from key (Err NotANumber) = Err (BadValue key)
start_from key (Err TooLarge) = Err (OutOfRange key)
start_from key (Ok n) = Ok (Some n)

unfoldable pub start_value : Key → List ℕ → Result (Option ℕ) ParamFault
start_value key text = start_from key (ten4_of (first_word text))

-- a run mode: annealing and improvement, improvement, annealing; every other is left out
abbrev pub mode_from : Key → Result ℤ NumFault → Result ℕ ParamFault
mode_from key (Err fault) = Err (number_fault key fault)
mode_from key (Ok (pos n)) = (if n == 1 || n == 4 || n == 6 then Ok n else Err (LeftOut key))
mode_from key (Ok (negsuc n)) = Err (LeftOut key)

unfoldable pub mode_value : Key → List ℕ → Result ℕ ParamFault
mode_value key text = mode_from key (signed_of (first_word text))

-- the number 0; every other number is left out
abbrev pub zero_from : Key → Result ℕ NumFault → Result ℕ ParamFault
zero_from key (Err Empty) = Err (BadValue key)
zero_from key (Err NotANumber) = Err (BadValue key)
zero_from key (Err Negative) = Err (LeftOut key)
zero_from key (Err TooLarge) = Err (LeftOut key)
zero_from key (Ok n) = (if n == 0 then Ok 0 else Err (LeftOut key))

unfoldable pub zero_value : Key → List ℕ → Result ℕ ParamFault
zero_value key text = zero_from key (mic6_of (first_word text))

-- the fault of a value, read as a kind
abbrev pub fault_by : KeyKind → Key → List ℕ → Option ParamFault
fault_by Text key text = result_err (text_value key text)
fault_by Whole key text = result_err (whole_value key text)
fault_by Millionths key text = result_err (millionths_value key text)
fault_by Seed key text = result_err (seed_value key text)
fault_by Start key text = result_err (start_value key text)
fault_by Mode key text = result_err (mode_value key text)
fault_by Zero key text = result_err (zero_value key text)

-- the fault of a key's value
unfoldable pub value_fault : Key → List ℕ → Option ParamFault
value_fault key text = fault_by (kind_of key) key text
