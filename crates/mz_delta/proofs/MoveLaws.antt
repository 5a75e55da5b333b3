-- Laws of a move of one unit: by what each sum of the score changes.
use Rattle.std.proofs.Common.{◌≡◌, ℕ, ◌+◌, ◌*◌, ◌<◌, List, length, ap, sym, ◌∙◌, subst, inl, inr, arith, length-set, get_or-set_other, get_or-set_same}
use Rattle.std.specs.Prelude.{IsTrue, slice_index}
use Rattle.std.specs.List.{sum_by}
use Rattle.std.proofs.lemmas.Bool.{cases_eq}
use Rattle.mz_num.specs.Round.{round}
use Rattle.mz_model.specs.declared.parts.Parts.{Parts}
use Rattle.mz_model.specs.Boundary.{edge_term_of, neighbours_of}
use Rattle.mz_model.specs.Parts.{unit_count, zone_count, cost_at, outer_at}
use Rattle.mz_num.specs.Places.{sum_below}
use Rattle.mz_model.specs.Plans.{IsLegalPlan}
use Rattle.mz_model.specs.Scores.{cost_of_plan, pair_term, outer_term}
use Rattle.mz_model.specs.Targets.{gain_of, held_of}
use Rattle.mz_model.specs.Valid.{IsValid}
use Rattle.mz_model.specs.Zones.{is_allowed}
use Rattle.mz_model.proofs.LimitLaws.{edge_term_of-is}
use Rattle.mz_num.proofs.PlaceLaws.{sum_below-change}
use Rattle.mz_model.proofs.ScoreLaws.{cost_of_plan-is, outer_term-is, plan-in_range}
use Rattle.mz_model.specs.Move.{moved_plan}
use Rattle.mz_delta.proofs.PairLaws.{pairs_moved, near_by}

-- ---- the moved plan

pub moved-own : (zones : List ℕ) (unit zone : ℕ) → unit < length zones → slice_index (moved_plan zones unit zone) unit ≡ zone
moved-own zones unit zone h = get_or-set_same zones unit zone 0 h

pub moved-other : (zones : List ℕ) (unit zone k : ℕ) → (k ≡ unit → ⊥) → slice_index (moved_plan zones unit zone) k ≡ slice_index zones k
moved-other zones unit zone k ne = get_or-set_other zones unit k zone 0 ne

pub moved-legal : (parts : Parts) (zones : List ℕ) (unit zone : ℕ) → IsLegalPlan parts zones → unit < unit_count parts → IsTrue (is_allowed parts unit zone) → IsLegalPlan parts (moved_plan zones unit zone)
moved-legal parts zones unit zone legal h allowed = record {
  whole = length-set zones unit zone ∙ legal.whole;
  allowed = λ k i. elim (cases_eq k unit) [
    | inl e ↦ subst (λ u. IsTrue (is_allowed parts u (slice_index (moved_plan zones unit zone) u))) (sym e) (subst (λ z. IsTrue (is_allowed parts unit z)) (sym (moved-own zones unit zone (subst (λ n. unit < n) (sym legal.whole) h))) allowed)
    | inr ne ↦ subst (λ z. IsTrue (is_allowed parts k z)) (sym (moved-other zones unit zone k ne)) (legal.allowed k i)
  ];
}

-- ---- cost

pub cost-moved : (parts : Parts) (zones : List ℕ) (unit zone : ℕ) → IsLegalPlan parts zones → unit < unit_count parts → cost_of_plan parts (moved_plan zones unit zone) + cost_at parts unit (slice_index zones unit) ≡ cost_of_plan parts zones + cost_at parts unit zone
cost-moved parts zones unit zone legal h =
    let inside : unit < length zones = subst (λ n. unit < n) (sym legal.whole) h in
    let own : cost_at parts unit (slice_index (moved_plan zones unit zone) unit) ≡ cost_at parts unit zone = ap (cost_at parts unit) (moved-own zones unit zone inside) in
    omega (
      arith,
      cost_of_plan-is parts zones,
      cost_of_plan-is parts (moved_plan zones unit zone),
      sum_below-change (unit_count parts) unit (λ u. cost_at parts u (slice_index (moved_plan zones unit zone) u)) (λ u. cost_at parts u (slice_index zones u)) h (λ k i ne. ap (cost_at parts k) (moved-other zones unit zone k ne)),
    )

-- ---- boundary

-- a term is the same from either side
pub edge_term-even : (parts : Parts) (len k l : ℕ) → IsValid parts → k < zone_count parts → l < zone_count parts → edge_term_of parts len k l ≡ edge_term_of parts len l k
edge_term-even parts len k l valid h i = edge_term_of-is parts len k l ∙ ap (λ rate. round (len * rate) 1000000) (valid.shape.even_rates k l h i) ∙ sym (edge_term_of-is parts len l k)

pub pairs-moved : (parts : Parts) (zones : List ℕ) (unit zone : ℕ) → IsValid parts → IsLegalPlan parts zones → unit < unit_count parts → IsTrue (is_allowed parts unit zone)
    → sum_by (pair_term parts (moved_plan zones unit zone)) parts.edges + sum_by (near_by (edge_term_of parts) (slice_index zones) unit) (neighbours_of parts unit)
    ≡ sum_by (pair_term parts zones) parts.edges + sum_by (near_by (edge_term_of parts) (slice_index (moved_plan zones unit zone)) unit) (neighbours_of parts unit)
unfolding pair_term neighbours_of
pairs-moved parts zones unit zone valid legal h allowed =
    let legal' : IsLegalPlan parts (moved_plan zones unit zone) = moved-legal parts zones unit zone legal h allowed in
    pairs_moved (edge_term_of parts) (unit_count parts) unit (slice_index zones) (slice_index (moved_plan zones unit zone)) parts.edges valid.shape.pairs (moved-other zones unit zone)
    (λ len a b i j. edge_term-even parts len (slice_index zones a) (slice_index zones b) valid (plan-in_range parts zones a valid legal i) (plan-in_range parts zones b valid legal j))
    (λ len a b i j. edge_term-even parts len (slice_index (moved_plan zones unit zone) a) (slice_index (moved_plan zones unit zone) b) valid (plan-in_range parts (moved_plan zones unit zone) a valid legal' i) (plan-in_range parts (moved_plan zones unit zone) b valid legal' j))

pub outer-moved : (parts : Parts) (zones : List ℕ) (unit zone : ℕ) → IsLegalPlan parts zones → unit < unit_count parts
    → sum_below (unit_count parts) (outer_term parts (moved_plan zones unit zone)) + edge_term_of parts (outer_at parts unit) (slice_index zones unit) parts.available
    ≡ sum_below (unit_count parts) (outer_term parts zones) + edge_term_of parts (outer_at parts unit) zone parts.available
outer-moved parts zones unit zone legal h =
    let inside : unit < length zones = subst (λ n. unit < n) (sym legal.whole) h in
    let own : outer_term parts (moved_plan zones unit zone) unit ≡ edge_term_of parts (outer_at parts unit) zone parts.available = outer_term-is parts (moved_plan zones unit zone) unit ∙ ap (λ k. edge_term_of parts (outer_at parts unit) k parts.available) (moved-own zones unit zone inside) in
    omega (
      arith,
      outer_term-is parts zones unit,
      sum_below-change (unit_count parts) unit (outer_term parts (moved_plan zones unit zone)) (outer_term parts zones) h
          (λ k i ne. outer_term-is parts (moved_plan zones unit zone) k ∙ ap (λ l. edge_term_of parts (outer_at parts k) l parts.available) (moved-other zones unit zone k ne) ∙ sym (outer_term-is parts zones k)),
    )

-- ---- what is held

pub held-moved : (parts : Parts) (zones : List ℕ) (unit zone row : ℕ) → IsLegalPlan parts zones → unit < unit_count parts → held_of parts (moved_plan zones unit zone) row + gain_of parts row unit (slice_index zones unit) ≡ held_of parts zones row + gain_of parts row unit zone
unfolding held_of
held-moved parts zones unit zone row legal h =
    let inside : unit < length zones = subst (λ n. unit < n) (sym legal.whole) h in
    let own : gain_of parts row unit (slice_index (moved_plan zones unit zone) unit) ≡ gain_of parts row unit zone = ap (gain_of parts row unit) (moved-own zones unit zone inside) in
    omega (arith, sum_below-change (unit_count parts) unit (λ u. gain_of parts row u (slice_index (moved_plan zones unit zone) u)) (λ u. gain_of parts row u (slice_index zones u)) h (λ k i ne. ap (gain_of parts row k) (moved-other zones unit zone k ne)))
