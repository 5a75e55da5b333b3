-- Numbers in notes, and the number that a report makes of them.
use Rattle.std.specs.Prelude.{ℕ, ◌-◌, ◌^◌, min, ℤ, pos, negsuc, ◌+ℤ◌}
use Rattle.std.specs.Int.{saturate_to_bits}

-- a sum of two numbers, which stops at the ends of an i128
abbrev pub sum_to_ends : ℤ → ℤ → ℤ
sum_to_ends a b = saturate_to_bits 127 (a +ℤ b)

-- the number itself, and at most the last value of a u64
abbrev pub reported : ℤ → ℕ
reported (pos n) = min n (2 ^ 64 - 1)
reported (negsuc n) = 0
