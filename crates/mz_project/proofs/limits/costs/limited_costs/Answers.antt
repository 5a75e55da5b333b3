use Rattle.std.proofs.Common.{refl, sym, ap, ◌∙◌, arith}
use Rattle.std.specs.List.{sum}
use Rattle.mz_project.proofs.CostLemmas.{are_terms, term_above, sum_above, sums_within}
use Rattle.mz_project.proofs.limits.costs.limited_costs.Goals as goal

pub returns-in_default : goal.returns-in_default
returns-in_default c = (
  term_above c.args.area.now c.in_ok-terms.terms.items c.deref.result.now (are_terms c.args.area.now _ _ _ c.requires c.as_slice-multipliers.ensures c.len-zones.ensures.len c.in_ok-terms.ensures) c.deref.ensures.value (rw c.in_default.is at c.in_ok-terms-2.ensures),
  refl,
)

pub returns-then-max-from : goal.returns-then-max-from
returns-then-max-from c =
    let narrow = rw c.in-Some.is at c.in_ok-terms-2.ensures in (
      sum_above c.args.area.now c.in_ok-terms.terms.items c.deref-2.result.now c.len.result c.len-zones.result c.total-raw.result c.greatest_cost-greatest.result
          (are_terms c.args.area.now _ _ _ c.requires c.as_slice-multipliers.ensures c.len-zones.ensures.len c.in_ok-terms.ensures)
          (c.deref-2.ensures.value ∙ narrow.0 ∙ c.deref.ensures.value) c.len.ensures.len c.len-zones.ensures.len (c.total-raw.ensures ∙ ap sum c.as_slice.ensures) c.greatest_cost-greatest.ensures (omega arith),
      refl,
    )

pub returns : goal.returns
returns c =
    let narrow = rw c.in-Some.is at c.in_ok-terms-2.ensures in
    sums_within c.args.area.now c.in_ok-terms.terms.items c.deref-2.result.now c.new.result c.len.result c.len-zones.result c.total-raw.result c.greatest_cost-greatest.result
    (are_terms c.args.area.now _ _ _ c.requires c.as_slice-multipliers.ensures c.len-zones.ensures.len c.in_ok-terms.ensures)
    (c.deref-2.ensures.value ∙ narrow.0 ∙ c.deref.ensures.value) (c.new.ensures ∙ sym c.deref-2.ensures.value) c.len.ensures.len c.len-zones.ensures.len (c.total-raw.ensures ∙ ap sum c.as_slice.ensures) c.greatest_cost-greatest.ensures (omega arith)
