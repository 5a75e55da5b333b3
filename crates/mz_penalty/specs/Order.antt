-- The order in which the units that hold a feature are taken, in this project's profile.
use Rattle.std.specs.Prelude.{ℕ, ◌*◌, Bool, ◌&&◌, ◌||◌, ◌==◌, nat_lt}

-- what a unit holds of a feature: its place, its raw cost and its amount, in ten-thousandths
pub record HeldAmount : Type 0 where
  pub place : ℕ
  pub cost : ℕ
  pub amount : ℕ

-- the unit of less raw cost per amount comes first, compared by cross products, and of two with
-- equal products that of the lesser place
abbrev pub comes_before : HeldAmount → HeldAmount → Bool
comes_before a b =
    nat_lt (a.cost * b.amount) (b.cost * a.amount)
    || ((a.cost * b.amount == b.cost * a.amount) && nat_lt a.place b.place)
