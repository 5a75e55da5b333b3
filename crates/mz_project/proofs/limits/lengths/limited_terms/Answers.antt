use Rattle.std.proofs.Common.{refl}
use Rattle.std.proofs.lemmas.Bool.{or_left, or_right, or_from}
use Rattle.mz_project.specs.Limits.{terms_are_above}
use Rattle.mz_project.proofs.LengthLemmas.{edge_found, outer_found}
use Rattle.mz_project.proofs.limits.lengths.limited_terms.Goals.{then-some_edge_is_above-via-then-some_edge_is_above, then-some_edge_is_above-via-else-some_edge_is_above+then-some_outer_is_above}
use Rattle.mz_project.proofs.limits.lengths.limited_terms.Goals as goal

pub returns-then-some_edge_is_above : goal.returns-then-some_edge_is_above
unfolding terms_are_above
returns-then-some_edge_is_above c =
    let rates = c.args.rates.now in
    let rate = c.greatest_rate-rate in (
      elim c.then-some_edge_is_above.branch [
        | then-some_edge_is_above-via-then-some_edge_is_above w ↦ or_left _ _ (edge_found rates rate.result c.args.lengths.now.edges _ _ _ rate.ensures c.as_slice.ensures c.some_edge_is_above.ensures w.if-some_edge_is_above.true)
        | then-some_edge_is_above-via-else-some_edge_is_above+then-some_outer_is_above w ↦
            or_right _ _ (outer_found rates rate.result c.args.lengths.now.outer _ _ _ rate.ensures w.as_slice-else-some_edge_is_above.ensures w.some_outer_is_above.ensures w.if-some_outer_is_above.true)
      ],
      refl,
    )

pub returns : goal.returns
unfolding terms_are_above
returns c =
    let rates = c.args.rates.now in
    let rate = c.greatest_rate-rate in (
      or_from _ _ (edge_found rates rate.result c.args.lengths.now.edges _ _ _ rate.ensures c.as_slice.ensures c.some_edge_is_above.ensures c.if-some_edge_is_above.false)
          (outer_found rates rate.result c.args.lengths.now.outer _ _ _ rate.ensures c.as_slice-else-some_edge_is_above.ensures c.some_outer_is_above.ensures c.if-some_outer_is_above.false),
      refl,
    )
