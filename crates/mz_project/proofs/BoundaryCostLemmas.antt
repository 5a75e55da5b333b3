-- What a boundary between two zones counts where no file says it.
use Rattle.std.proofs.Common.{◌≡◌, ℕ, ◌+◌, ◌*◌, ◌/◌, ◌%◌, ◌^◌, ◌<◌, ◌≤◌, Bool, true, false, cond, List, [], ◌∷◌, ◌++◌, length, get_or, sym, ap, subst, ◌∙◌, arith}
use Rattle.std.specs.Prelude.{◌==◌}
use Rattle.std.specs.List.{All}
use Rattle.mz_bounds.specs.ZoneBounds.{AreZoneBounds}
use Rattle.mz_num.specs.Places.{list_below}
use Rattle.mz_num.proofs.PlaceLaws.{get_or-list_below, length-list_below, list_below-more}
use Rattle.mz_rows.proofs.KeyedLemmas.{eqb-sym}
use Rattle.mz_rows.proofs.PairLemmas.{pair-below, pair-first, pair-second}
use Rattle.mz_project.specs.Boundaries.{default_boundary_cost, default_boundary_costs}

even_cost : (k l : ℕ) → default_boundary_cost k l ≡ default_boundary_cost l k
even_cost k l = ap (λ b. cond b 0 (10 ^ 6)) (eqb-sym k l)

small_cost : (b : Bool) → cond b 0 (10 ^ 6) ≤ 10 ^ 18
small_cost true = omega arith
small_cost false = omega arith

-- one cost more
pub costs-more : (zones place : ℕ) (costs costs' : List ℕ) (cost : ℕ) → costs ≡ list_below place (λ p. default_boundary_cost (p / zones) (p % zones)) → cost ≡ default_boundary_cost (place / zones) (place % zones) → costs' ≡ costs ++ cost ∷ []
    → costs' ≡ list_below (place + 1) (λ p. default_boundary_cost (p / zones) (p % zones))
costs-more zones place costs costs' cost so_far one more =
    more ∙ ap (λ r. costs ++ r ∷ []) one ∙ ap (λ rs. rs ++ default_boundary_cost (place / zones) (place % zones) ∷ []) so_far ∙ sym (list_below-more place (λ p. default_boundary_cost (p / zones) (p % zones)))

length-costs : (zones : ℕ) → length (default_boundary_costs zones) ≡ zones * zones
unfolding default_boundary_costs
length-costs zones = length-list_below (zones * zones) (λ place. default_boundary_cost (place / zones) (place % zones))

cost-at : (zones place d : ℕ) → place < zones * zones → get_or (default_boundary_costs zones) place d ≡ default_boundary_cost (place / zones) (place % zones)
unfolding default_boundary_costs
cost-at zones place d within = get_or-list_below (zones * zones) place (λ p. default_boundary_cost (p / zones) (p % zones)) d within

cost-is : (zones k l : ℕ) → k < zones → l < zones → get_or (default_boundary_costs zones) (k * zones + l) 0 ≡ default_boundary_cost k l
cost-is zones k l below within =
    cost-at zones (k * zones + l) 0 (pair-below k zones zones l below within)
    ∙ ap (λ a. default_boundary_cost a ((k * zones + l) % zones)) (pair-first k zones l within)
    ∙ ap (default_boundary_cost k) (pair-second k zones l within)

costs-small : (zones : ℕ) → All (λ cost. cost ≤ 10 ^ 18) (default_boundary_costs zones)
costs-small zones k d within = subst (λ c. c ≤ 10 ^ 18) (sym (cost-at zones k d (subst (λ n. k < n) (length-costs zones) within))) (small_cost (k / zones == k % zones))

pub costs-fit : (zones : ℕ) → AreZoneBounds zones (default_boundary_costs zones)
costs-fit zones = record {
  all_pairs = length-costs zones;
  small = costs-small zones;
  even = λ k l below within. cost-is zones k l below within ∙ even_cost k l ∙ sym (cost-is zones l k within below);
}

-- all costs
pub costs-done : (zones place : ℕ) (costs all : List ℕ) → costs ≡ list_below place (λ p. default_boundary_cost (p / zones) (p % zones)) → place ≡ zones * zones → all ≡ costs → AreZoneBounds zones all
unfolding default_boundary_costs
costs-done zones place costs all so_far whole same =
    subst (AreZoneBounds zones) (sym (same ∙ so_far ∙ ap (λ n. list_below n (λ p. default_boundary_cost (p / zones) (p % zones))) whole)) (costs-fit zones)
