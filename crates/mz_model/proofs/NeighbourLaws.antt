-- Laws of neighbours.
use Rattle.std.proofs.Common.{◌≡◌, ℕ, ◌*◌, ◌<◌, ◌≤◌, List, [], ◌∷◌, length, refl, arith}
use Rattle.std.specs.List.{All, flat_map}
use Rattle.std.proofs.lemmas.List.Elements.{All-nil, All-cons, All-head, All-tail, All-weaker}
use Rattle.mz_model.specs.declared.neighbour.Neighbour.{Neighbour}
use Rattle.mz_model.specs.declared.parts.Parts.{Parts}
use Rattle.mz_model.specs.Boundary.{as_neighbour, ends_of, neighbours_of, IsLength}
use Rattle.mz_model.specs.Parts.{unit_count}
use Rattle.mz_model.specs.Valid.{IsValid, IsPair}
use Rattle.mz_num.proofs.PlaceLaws.{values_at-All, length-values_at}

-- what holds of both ends of each pair holds of all ends
ends_of-All : (P : ℕ × Neighbour → Type 0) (edges : List (ℕ × ℕ × ℕ)) → All (λ e. P (e.0, as_neighbour e.1 e.2) × P (e.1, as_neighbour e.0 e.2)) edges → All P (flat_map ends_of edges)
ends_of-All P [] all = All-nil P
ends_of-All P (e ∷ edges) all =
    let here : P (e.0, as_neighbour e.1 e.2) × P (e.1, as_neighbour e.0 e.2) = All-head (λ e. P (e.0, as_neighbour e.1 e.2) × P (e.1, as_neighbour e.0 e.2)) e edges all in
    All-cons P (e.0, as_neighbour e.1 e.2) ((e.1, as_neighbour e.0 e.2) ∷ flat_map ends_of edges) here.0 (All-cons P (e.1, as_neighbour e.0 e.2) (flat_map ends_of edges) here.1 (ends_of-All P edges (All-tail (λ e. P (e.0, as_neighbour e.1 e.2) × P (e.1, as_neighbour e.0 e.2)) e edges all)))

length-ends : (edges : List (ℕ × ℕ × ℕ)) → length (flat_map ends_of edges) ≡ 2 * length edges
length-ends [] = refl
length-ends (e ∷ edges) = omega (arith, length-ends edges)

pub neighbours_of-in_range : (parts : Parts) (unit : ℕ) → IsValid parts → All (λ neighbour. neighbour.unit < unit_count parts) (neighbours_of parts unit)
unfolding neighbours_of
neighbours_of-in_range parts unit valid =
    values_at-All (λ neighbour. neighbour.unit < unit_count parts) unit (flat_map ends_of parts.edges)
    (ends_of-All (λ end. end.1.unit < unit_count parts) parts.edges
    (All-weaker (IsPair (unit_count parts)) (λ e. (e.1 < unit_count parts) × (e.0 < unit_count parts)) (λ e is. (is.second, omega (arith, is.first, is.second))) parts.edges valid.shape.pairs))

pub neighbours_of-lengths : (parts : Parts) (unit : ℕ) → IsValid parts → All (λ neighbour. IsLength parts neighbour.length) (neighbours_of parts unit)
unfolding neighbours_of
neighbours_of-lengths parts unit valid =
    values_at-All (λ neighbour. IsLength parts neighbour.length) unit (flat_map ends_of parts.edges)
    (ends_of-All (λ end. IsLength parts end.1.length) parts.edges
    (All-weaker (λ e. IsLength parts e.2) (λ e. IsLength parts e.2 × IsLength parts e.2) (λ e is. (is, is)) parts.edges valid.limits.pairs))

pub length-neighbours_of : (parts : Parts) (unit : ℕ) → IsValid parts → length (neighbours_of parts unit) ≤ 2000000
unfolding neighbours_of
length-neighbours_of parts unit valid = omega (arith, length-values_at unit (flat_map ends_of parts.edges), length-ends parts.edges, valid.small.edges)
