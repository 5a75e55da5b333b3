-- How numbers are written in the input files, in this project's profile.
use Rattle.std.specs.Prelude.{ℕ, ◌+◌, ◌*◌, ◌^◌, Bool, true, false, ◌&&◌, ◌||◌, ◌==◌, nat_lt, List, [], ◌∷◌, ◌++◌, length, drop, Option, Some, None, Result, Ok, Err, if◌then◌else◌, ℤ, pos, neg_ℤ}
use Rattle.std.specs.List.{before_first, after_first, position_or_len}
use Rattle.mz_num.specs.Blank.{trimmed}
use Rattle.mz_num.specs.Digits.{digits_number}
use Rattle.mz_num.specs.Limits.{greatest_quantity}
use Rattle.mz_num.specs.Round.{round}
use Rattle.mz_num.specs.declared.fault.NumFault.{NumFault}
use Rattle.mz_num.specs.declared.fault.NumFault.TheVariants.{Empty, NotANumber, Negative, TooLarge}

-- a number as it is written: its value is `mantissa * 10^raised / 10^lowered`, below 0 where it is negative
pub record WrittenNumber : Type 0 where
  pub negative : Bool
  pub mantissa : ℕ
  pub raised : ℕ
  pub lowered : ℕ

-- by how many places of ten an exponent raises a number, and by how many it lowers it
pub record PowerOfTen : Type 0 where
  pub raised : ℕ
  pub lowered : ℕ

-- a minus sign stands first
abbrev pub has_minus : List ℕ → Bool
has_minus [] = false
has_minus (b ∷ text) = b == 45

-- what follows the sign, or all where no sign stands first
abbrev pub behind_sign : List ℕ → List ℕ
behind_sign [] = []
behind_sign (b ∷ text) = (if b == 45 || b == 43 then text else b ∷ text)

-- the mark of an exponent, `E` or `e`
abbrev pub is_mark : ℕ → Bool
is_mark b = b == 69 || b == 101

abbrev pub is_point : ℕ → Bool
is_point b = b == 46

-- the power of an exponent whose sign is a minus or not
abbrev pub power_of : Bool → Option ℕ → Option PowerOfTen
power_of minus None = None
power_of true (Some n) = Some (record { raised = 0; lowered = n })
power_of false (Some n) = Some (record { raised = n; lowered = 0 })

-- what stands from the mark of the exponent on: nothing, or the mark, a sign and one to four digits
abbrev pub exponent_of : List ℕ → Option PowerOfTen
exponent_of [] = Some (record { raised = 0; lowered = 0 })
exponent_of (mark ∷ text) = power_of (has_minus text) (digits_number 4 (behind_sign text))

-- a mantissa's number without its point: one to 38 digits with at most one point before, among or behind them
abbrev pub mantissa_of : List ℕ → Option ℕ
mantissa_of text = digits_number 38 (before_first is_point text ++ after_first is_point text)

-- how many digits stand behind the point
abbrev pub decimals_of : List ℕ → ℕ
decimals_of text = length (after_first is_point text)

-- a number of its parts
abbrev pub number_of : Bool → ℕ → Option ℕ → Option PowerOfTen → Option WrittenNumber
number_of minus decimals None power = None
number_of minus decimals (Some mantissa) None = None
number_of minus decimals (Some mantissa) (Some power) =
    Some (record { negative = minus; mantissa = mantissa; raised = power.raised; lowered = decimals + power.lowered })

-- a mantissa and an exponent without the sign before them
abbrev pub number_behind : Bool → List ℕ → Option WrittenNumber
number_behind minus text =
    let mantissa = before_first is_mark text in
    number_of minus (decimals_of mantissa) (mantissa_of mantissa)
    (exponent_of (drop (position_or_len is_mark text) text))

-- the number that a text writes: a sign, a mantissa and an exponent
unfoldable pub number_in : List ℕ → Option WrittenNumber
number_in text = number_behind (has_minus text) (behind_sign text)

-- the exact value times a power of ten, rounded half up
unfoldable pub scaled_value : ℕ → WrittenNumber → ℕ
scaled_value scale n = round (n.mantissa * 10 ^ (n.raised + scale)) (10 ^ n.lowered)

-- the value, where it is no greater than the greatest that is taken
abbrev pub at_most : ℕ → ℕ → Result ℕ NumFault
at_most most value = (if nat_lt most value then Err TooLarge else Ok value)

-- the value of a number that may not be negative; `-0` is 0
abbrev pub unsigned_value : Bool → ℕ → Result ℕ NumFault → Result ℕ NumFault
unsigned_value minus magnitude value = (if minus && nat_lt 0 magnitude then Err Negative else value)

-- the value of a text at a scale, or its first fault
abbrev pub scaled_answer : ℕ → Option WrittenNumber → Result ℕ NumFault
scaled_answer scale None = Err NotANumber
scaled_answer scale (Some n) = unsigned_value n.negative n.mantissa (at_most greatest_quantity (scaled_value scale n))

abbrev pub scaled_in : ℕ → List ℕ → Result ℕ NumFault
scaled_in scale [] = Err Empty
scaled_in scale (b ∷ text) = scaled_answer scale (number_in (b ∷ text))

-- a text's value in ten-thousandths, or its first fault
unfoldable pub ten4_of : List ℕ → Result ℕ NumFault
ten4_of text = scaled_in 4 (trimmed text)

-- a text's value in millionths, or its first fault
unfoldable pub mic6_of : List ℕ → Result ℕ NumFault
mic6_of text = scaled_in 6 (trimmed text)

-- a whole number: a sign and one to 38 digits
abbrev pub whole_answer : ℕ → Bool → Option ℕ → Result ℕ NumFault
whole_answer most minus None = Err NotANumber
whole_answer most minus (Some n) = unsigned_value minus n (at_most most n)

abbrev pub whole_in : ℕ → List ℕ → Result ℕ NumFault
whole_in most [] = Err Empty
whole_in most (b ∷ text) = whole_answer most (has_minus (b ∷ text)) (digits_number 38 (behind_sign (b ∷ text)))

-- a text's whole number, or its first fault against a greatest value
unfoldable pub whole_of : ℕ → List ℕ → Result ℕ NumFault
whole_of most text = whole_in most (trimmed text)

-- a whole number that may be negative, from -2147483648 to 2147483647
abbrev pub signed_answer : Bool → Option ℕ → Result ℤ NumFault
signed_answer minus None = Err NotANumber
signed_answer true (Some n) = (if nat_lt 2147483648 n then Err TooLarge else Ok (neg_ℤ (pos n)))
signed_answer false (Some n) = (if nat_lt 2147483647 n then Err TooLarge else Ok (pos n))

abbrev pub signed_in : List ℕ → Result ℤ NumFault
signed_in [] = Err Empty
signed_in (b ∷ text) = signed_answer (has_minus (b ∷ text)) (digits_number 38 (behind_sign (b ∷ text)))

unfoldable pub signed_of : List ℕ → Result ℤ NumFault
signed_of text = signed_in (trimmed text)
