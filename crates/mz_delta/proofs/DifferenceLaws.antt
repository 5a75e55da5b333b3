-- Laws of differences of numbers.
use Rattle.std.proofs.Common.{◌≡◌, ℕ, ◌+◌, ap, ◌∙◌, arith}
use Rattle.std.specs.Prelude.{ℤ, pos, ◌+ℤ◌, ◌-ℤ◌}
use Rattle.std.proofs.lemmas.Int.{ints}

-- two sums that are equal crosswise differ alike
pub crosswise : (after before new old : ℕ) → after + old ≡ before + new → pos new -ℤ pos old ≡ pos after -ℤ pos before
crosswise after before new old e = omega (arith, ints)

pub same_difference : (a b a' b' : ℕ) → a ≡ a' → b ≡ b' → pos a -ℤ pos b ≡ pos a' -ℤ pos b'
same_difference a b a' b' e f = ap (λ n. pos n -ℤ pos b) e ∙ ap (λ n. pos a' -ℤ pos n) f

-- the sum of three differences is the difference of the sums
pub sum_of_differences : (cost boundary penalty cost' boundary' penalty' : ℕ) (a b c d : ℤ) → a ≡ pos cost' -ℤ pos cost → b ≡ pos boundary' -ℤ pos boundary → c ≡ pos penalty' -ℤ pos penalty → d ≡ a +ℤ b +ℤ c → d ≡ pos (cost' + boundary' + penalty') -ℤ pos (cost + boundary + penalty)
sum_of_differences cost boundary penalty cost' boundary' penalty' a b c d e f g h = omega (arith, ints)
