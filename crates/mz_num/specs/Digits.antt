-- Decimal digits and the number that they write.
use Rattle.std.specs.Prelude.{ℕ, Bool, ◌&&◌, nat_lt, nat_le, List, length, Option, Some, None, if◌then◌else◌}
use Rattle.std.specs.Str.{all_ascii_digits}
use Rattle.std.specs.Str.Parse.{digits_value}

-- from one digit to `most` of them, and nothing else
abbrev pub are_digits : ℕ → List ℕ → Bool
are_digits most text = nat_lt 0 (length text) && nat_le (length text) most && all_ascii_digits text

-- the number that such digits write, or none where the text is another
abbrev pub digits_number : ℕ → List ℕ → Option ℕ
digits_number most text = (if are_digits most text then Some (digits_value 10 text) else None)
