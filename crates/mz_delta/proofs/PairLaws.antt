-- Laws of the pairs of neighbours where one unit moves.
use Rattle.std.proofs.Common.{◌≡◌, ℕ, ◌+◌, ◌<◌, true, false, cond, List, [], ◌∷◌, refl, ap, sym, ◌∙◌, subst, inl, inr, zero-add, arith, ◌==◌}
use Rattle.std.specs.List.{All, sum_by, flat_map}
use Rattle.std.proofs.lemmas.Bool.{cases_eq, cond-true, cond-false, eq-eqb, ne_eqb}
use Rattle.std.proofs.lemmas.List.Elements.{All-nil, All-cons, All-head, All-tail}
use Rattle.std.proofs.lemmas.List.Sums.{sum_by-append, sum_by-cons}
use Rattle.mz_model.specs.declared.neighbour.Neighbour.{Neighbour}
use Rattle.mz_model.specs.declared.parts.Parts.{Parts}
use Rattle.mz_model.specs.Boundary.{as_neighbour, ends_of, neighbours_of}
use Rattle.mz_model.specs.Parts.{unit_count}
use Rattle.mz_num.specs.Places.{values_at}
use Rattle.mz_model.specs.Valid.{IsPair, IsValid}
use Rattle.mz_num.proofs.PlaceLaws.{values_at-append}

-- what a pair adds to a sum, by the zones of its two units
abbrev pub pair_by : (ℕ → ℕ → ℕ → ℕ) → (ℕ → ℕ) → ℕ × ℕ × ℕ → ℕ
pair_by term zone edge = term edge.2 (zone edge.0) (zone edge.1)

-- what a unit's pair with one of its neighbours adds, seen from the unit
abbrev pub near_by : (ℕ → ℕ → ℕ → ℕ) → (ℕ → ℕ) → ℕ → Neighbour → ℕ
near_by term zone unit neighbour = term neighbour.length (zone unit) (zone neighbour.unit)

-- of one pair, what each of its two units sees
abbrev pub ends_at : ℕ → ℕ × ℕ × ℕ → List Neighbour
ends_at unit edge = values_at unit (ends_of edge)

ends_at-first : (unit : ℕ) (edge : ℕ × ℕ × ℕ) → (edge.0 == unit) ≡ true → (edge.1 == unit) ≡ false → ends_at unit edge ≡ as_neighbour edge.1 edge.2 ∷ []
ends_at-first unit edge one two =
    let rest : List Neighbour = cond (edge.1 == unit) (as_neighbour edge.0 edge.2 ∷ []) [] in
    cond-true (edge.0 == unit) (as_neighbour edge.1 edge.2 ∷ rest) rest one ∙ ap (λ xs. as_neighbour edge.1 edge.2 ∷ xs) (cond-false (edge.1 == unit) (as_neighbour edge.0 edge.2 ∷ []) [] two)

ends_at-not_first : (unit : ℕ) (edge : ℕ × ℕ × ℕ) → (edge.0 == unit) ≡ false → ends_at unit edge ≡ cond (edge.1 == unit) (as_neighbour edge.0 edge.2 ∷ []) []
ends_at-not_first unit edge one =
    let rest : List Neighbour = cond (edge.1 == unit) (as_neighbour edge.0 edge.2 ∷ []) [] in
    cond-false (edge.0 == unit) (as_neighbour edge.1 edge.2 ∷ rest) rest one

ends_at-second : (unit : ℕ) (edge : ℕ × ℕ × ℕ) → (edge.0 == unit) ≡ false → (edge.1 == unit) ≡ true → ends_at unit edge ≡ as_neighbour edge.0 edge.2 ∷ []
ends_at-second unit edge one two = ends_at-not_first unit edge one ∙ cond-true (edge.1 == unit) (as_neighbour edge.0 edge.2 ∷ []) [] two

ends_at-neither : (unit : ℕ) (edge : ℕ × ℕ × ℕ) → (edge.0 == unit) ≡ false → (edge.1 == unit) ≡ false → ends_at unit edge ≡ []
ends_at-neither unit edge one two = ends_at-not_first unit edge one ∙ cond-false (edge.1 == unit) (as_neighbour edge.0 edge.2 ∷ []) [] two

sum_by-one : (f : Neighbour → ℕ) (x : Neighbour) (xs : List Neighbour) → xs ≡ x ∷ [] → sum_by f xs ≡ f x
sum_by-one f x xs e = ap (sum_by f) e ∙ zero-add (f x)

-- one pair whose ends differ: its terms under two plans that differ at one unit, with the near ones crosswise
pair_moved : (term : ℕ → ℕ → ℕ → ℕ) (units unit : ℕ) (zone zone' : ℕ → ℕ) (edge : ℕ × ℕ × ℕ)
    → IsPair units edge
    → ((k : ℕ) → (k ≡ unit → ⊥) → zone' k ≡ zone k)
    → ((len a b : ℕ) → a < units → b < units → term len (zone a) (zone b) ≡ term len (zone b) (zone a))
    → ((len a b : ℕ) → a < units → b < units → term len (zone' a) (zone' b) ≡ term len (zone' b) (zone' a))
    → pair_by term zone' edge + sum_by (near_by term zone unit) (ends_at unit edge) ≡ pair_by term zone edge + sum_by (near_by term zone' unit) (ends_at unit edge)
pair_moved term units unit zone zone' edge is other even even' =
    elim (cases_eq edge.0 unit) [
      | inl first ↦ (
          let one : (edge.0 == unit) ≡ true = eq-eqb edge.0 unit first in
          let two : (edge.1 == unit) ≡ false = ne_eqb edge.1 unit (λ e. omega (arith, is.first)) in
          let ends : ends_at unit edge ≡ as_neighbour edge.1 edge.2 ∷ [] = ends_at-first unit edge one two in
          let before : sum_by (near_by term zone unit) (ends_at unit edge) ≡ pair_by term zone edge = sum_by-one (near_by term zone unit) (as_neighbour edge.1 edge.2) (ends_at unit edge) ends ∙ ap (λ k. term edge.2 (zone k) (zone edge.1)) (sym first) in
          let after : sum_by (near_by term zone' unit) (ends_at unit edge) ≡ pair_by term zone' edge = sum_by-one (near_by term zone' unit) (as_neighbour edge.1 edge.2) (ends_at unit edge) ends ∙ ap (λ k. term edge.2 (zone' k) (zone' edge.1)) (sym first) in
          omega arith)
      | inr not_first ↦ elim (cases_eq edge.1 unit) [
        | inl second ↦ (
            let one : (edge.0 == unit) ≡ false = ne_eqb edge.0 unit not_first in
            let two : (edge.1 == unit) ≡ true = eq-eqb edge.1 unit second in
            let ends : ends_at unit edge ≡ as_neighbour edge.0 edge.2 ∷ [] = ends_at-second unit edge one two in
            let before : sum_by (near_by term zone unit) (ends_at unit edge) ≡ pair_by term zone edge = sum_by-one (near_by term zone unit) (as_neighbour edge.0 edge.2) (ends_at unit edge) ends ∙ ap (λ k. term edge.2 (zone k) (zone edge.0)) (sym second) ∙ even edge.2 edge.1 edge.0 is.second (omega (arith, is.first, is.second)) in
            let after : sum_by (near_by term zone' unit) (ends_at unit edge) ≡ pair_by term zone' edge = sum_by-one (near_by term zone' unit) (as_neighbour edge.0 edge.2) (ends_at unit edge) ends ∙ ap (λ k. term edge.2 (zone' k) (zone' edge.0)) (sym second) ∙ even' edge.2 edge.1 edge.0 is.second (omega (arith, is.first, is.second)) in
            omega arith)
        | inr not_second ↦ (
            let ends : ends_at unit edge ≡ [] = ends_at-neither unit edge (ne_eqb edge.0 unit not_first) (ne_eqb edge.1 unit not_second) in
            let before : sum_by (near_by term zone unit) (ends_at unit edge) ≡ 0 = ap (sum_by (near_by term zone unit)) ends in
            let after : sum_by (near_by term zone' unit) (ends_at unit edge) ≡ 0 = ap (sum_by (near_by term zone' unit)) ends in
            let same : pair_by term zone' edge ≡ pair_by term zone edge = ap (λ k. term edge.2 k (zone' edge.1)) (other edge.0 not_first) ∙ ap (λ k. term edge.2 (zone edge.0) k) (other edge.1 not_second) in
            omega arith)
      ]
    ]

near_more : (f : Neighbour → ℕ) (unit : ℕ) (edge : ℕ × ℕ × ℕ) (edges : List (ℕ × ℕ × ℕ)) → sum_by f (values_at unit (flat_map ends_of (edge ∷ edges))) ≡ sum_by f (ends_at unit edge) + sum_by f (values_at unit (flat_map ends_of edges))
near_more f unit edge edges = ap (sum_by f) (values_at-append unit (ends_of edge) (flat_map ends_of edges)) ∙ sum_by-append f (ends_at unit edge) (values_at unit (flat_map ends_of edges))

-- all pairs: the sum after a move with the near terms before it is the sum before it with the near terms after
pub pairs_moved : (term : ℕ → ℕ → ℕ → ℕ) (units unit : ℕ) (zone zone' : ℕ → ℕ) (edges : List (ℕ × ℕ × ℕ))
    → All (IsPair units) edges
    → ((k : ℕ) → (k ≡ unit → ⊥) → zone' k ≡ zone k)
    → ((len a b : ℕ) → a < units → b < units → term len (zone a) (zone b) ≡ term len (zone b) (zone a))
    → ((len a b : ℕ) → a < units → b < units → term len (zone' a) (zone' b) ≡ term len (zone' b) (zone' a))
    → sum_by (pair_by term zone') edges + sum_by (near_by term zone unit) (values_at unit (flat_map ends_of edges)) ≡ sum_by (pair_by term zone) edges + sum_by (near_by term zone' unit) (values_at unit (flat_map ends_of edges))
pairs_moved term units unit zone zone' [] all other even even' = refl
pairs_moved term units unit zone zone' (edge ∷ edges) all other even even' =
    let here : pair_by term zone' edge + sum_by (near_by term zone unit) (ends_at unit edge) ≡ pair_by term zone edge + sum_by (near_by term zone' unit) (ends_at unit edge) = pair_moved term units unit zone zone' edge (All-head (IsPair units) edge edges all) other even even' in
    let rest : sum_by (pair_by term zone') edges + sum_by (near_by term zone unit) (values_at unit (flat_map ends_of edges)) ≡ sum_by (pair_by term zone) edges + sum_by (near_by term zone' unit) (values_at unit (flat_map ends_of edges)) = pairs_moved term units unit zone zone' edges (All-tail (IsPair units) edge edges all) other even even' in
    let near : sum_by (near_by term zone unit) (values_at unit (flat_map ends_of (edge ∷ edges))) ≡ sum_by (near_by term zone unit) (ends_at unit edge) + sum_by (near_by term zone unit) (values_at unit (flat_map ends_of edges)) = near_more (near_by term zone unit) unit edge edges in
    let near' : sum_by (near_by term zone' unit) (values_at unit (flat_map ends_of (edge ∷ edges))) ≡ sum_by (near_by term zone' unit) (ends_at unit edge) + sum_by (near_by term zone' unit) (values_at unit (flat_map ends_of edges)) = near_more (near_by term zone' unit) unit edge edges in
    omega (arith, sum_by-cons (pair_by term zone) edge edges, sum_by-cons (pair_by term zone') edge edges)

-- ---- no unit is its own neighbour

-- the two ends of a pair differ
abbrev pub IsOther : ℕ → Neighbour → Type 0
IsOther unit neighbour = neighbour.unit ≡ unit → ⊥

values_at-own : (unit : ℕ) (ends : List (ℕ × Neighbour)) → All (λ end. IsOther end.0 end.1) ends → All (IsOther unit) (values_at unit ends)
values_at-own unit [] all = All-nil (IsOther unit)
values_at-own unit (end ∷ ends) all =
    let rest : All (IsOther unit) (values_at unit ends) = values_at-own unit ends (All-tail (λ (e : ℕ × Neighbour). IsOther e.0 e.1) end ends all) in
    elim (cases_eq end.0 unit) [
      | inl same ↦ subst (All (IsOther unit)) (sym (cond-true (end.0 == unit) (end.1 ∷ values_at unit ends) (values_at unit ends) (eq-eqb end.0 unit same)))
          (All-cons (IsOther unit) end.1 (values_at unit ends) (subst (λ u. IsOther u end.1) same (All-head (λ (e : ℕ × Neighbour). IsOther e.0 e.1) end ends all)) rest)
      | inr other ↦ subst (All (IsOther unit)) (sym (cond-false (end.0 == unit) (end.1 ∷ values_at unit ends) (values_at unit ends) (ne_eqb end.0 unit other))) rest
    ]

ends_of-others : (units : ℕ) (edges : List (ℕ × ℕ × ℕ)) → All (IsPair units) edges → All (λ (end : ℕ × Neighbour). IsOther end.0 end.1) (flat_map ends_of edges)
ends_of-others units [] all = All-nil (λ (end : ℕ × Neighbour). IsOther end.0 end.1)
ends_of-others units (edge ∷ edges) all =
    let is : IsPair units edge = All-head (IsPair units) edge edges all in
    All-cons (λ (end : ℕ × Neighbour). IsOther end.0 end.1) (edge.0, as_neighbour edge.1 edge.2) ((edge.1, as_neighbour edge.0 edge.2) ∷ flat_map ends_of edges) (λ e. omega (arith, is.first))
    (All-cons (λ (end : ℕ × Neighbour). IsOther end.0 end.1) (edge.1, as_neighbour edge.0 edge.2) (flat_map ends_of edges) (λ e. omega (arith, is.first)) (ends_of-others units edges (All-tail (IsPair units) edge edges all)))

pub neighbours_of-others : (parts : Parts) (unit : ℕ) → IsValid parts → All (IsOther unit) (neighbours_of parts unit)
unfolding neighbours_of
neighbours_of-others parts unit valid = values_at-own unit (flat_map ends_of parts.edges) (ends_of-others (unit_count parts) parts.edges valid.shape.pairs)
