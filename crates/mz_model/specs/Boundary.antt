-- Boundaries: the pairs of neighbours, and the term of a length between two zones.
use Rattle.std.specs.Prelude.{ℕ, ◌*◌, ◌≤◌, List, [], ◌∷◌, length, slice_index}
use Rattle.std.specs.List.{flat_map}
use Rattle.mz_num.specs.Round.{round}
use Rattle.mz_model.specs.declared.neighbour.Neighbour.{Neighbour}
use Rattle.mz_model.specs.declared.parts.Parts.{Parts}
use Rattle.mz_model.specs.Parts.{rate_at}
use Rattle.mz_num.specs.Places.{greatest_below, values_at}
use Rattle.mz_num.specs.Limits.{greatest_quantity, million}

-- the term of a boundary of that length between two zones
unfoldable pub edge_term_of : Parts → ℕ → ℕ → ℕ → ℕ
edge_term_of parts len k l = round (len * rate_at parts k l) million

-- a unit as the neighbour of another, with the length between the two
abbrev pub as_neighbour : ℕ → ℕ → Neighbour
as_neighbour unit len = record { unit = unit; length = len }

-- what stands for one past the last
abbrev pub no_neighbour : Neighbour
no_neighbour = as_neighbour 0 0

-- a pair as each of its two units sees it: the unit, with the other one and the length between them
abbrev pub ends_of : ℕ × ℕ × ℕ → List (ℕ × Neighbour)
ends_of edge = (edge.0, as_neighbour edge.1 edge.2) ∷ (edge.1, as_neighbour edge.0 edge.2) ∷ []

-- the neighbours of a unit, each with the length between the two, in the order of the pairs
unfoldable pub neighbours_of : Parts → ℕ → List Neighbour
neighbours_of parts unit = values_at unit (flat_map ends_of parts.edges)

-- the greatest rate of a boundary
unfoldable pub greatest_rate : Parts → ℕ
greatest_rate parts = greatest_below (length parts.rates) (slice_index parts.rates)

-- a length within the limits: at most 10^18, and so is its term under the greatest rate
pub record IsLength (parts : Parts) (len : ℕ) : Type 0 where
  pub small : len ≤ greatest_quantity
  pub term : round (len * greatest_rate parts) million ≤ greatest_quantity
