-- The same over a list of units that stands in their order.
use Rattle.std.specs.Prelude.{ℕ, ◌+◌, ◌-◌, zero, suc, max, List, [], ◌∷◌}
use Rattle.mz_penalty.specs.declared.holder.Holder.{Holder}
use Rattle.mz_penalty.specs.Order.{HeldAmount}

-- what a unit of the program holds
abbrev pub held : Holder → HeldAmount
held unit = record { place = unit.place; cost = unit.cost; amount = unit.amount }

-- the raw costs of the units at the front of a list whose amounts reach the level, of all where no
-- front reaches it
abbrev pub cost_until : ℕ → List HeldAmount → ℕ
cost_until zero units = 0
cost_until (suc below) [] = 0
cost_until (suc below) (unit ∷ units) = unit.cost + cost_until (suc below - unit.amount) units

-- the base of a row of this level
abbrev pub base_until : List HeldAmount → ℕ → ℕ
base_until units level = max (cost_until level units) 10000
