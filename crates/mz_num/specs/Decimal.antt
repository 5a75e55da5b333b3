-- How a whole number of ten-thousandths is written.
use Rattle.std.specs.Prelude.{ℕ, ◌+◌, ◌/◌, ◌%◌, List, [], ◌∷◌, ◌++◌, decimal}

-- the code of the digit of that place value
abbrev pub digit_code : ℕ → ℕ → ℕ
digit_code place n = 48 + n / place % 10

-- a point and four digits
abbrev pub fraction_text : ℕ → List ℕ
fraction_text value = 46 ∷ digit_code 1000 value ∷ digit_code 100 value ∷ digit_code 10 value ∷ digit_code 1 value ∷ []

-- the whole part, a point and four digits
unfoldable pub ten4_text : ℕ → List ℕ
ten4_text value = decimal (value / 10000) ++ fraction_text value
