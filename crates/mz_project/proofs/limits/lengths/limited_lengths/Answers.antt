use Rattle.std.proofs.Common.{refl, ◌∙◌}
use Rattle.std.proofs.lemmas.Bool.{or_left, or_right, or_from}
use Rattle.mz_project.specs.Limits.{lengths_are_above}
use Rattle.mz_project.proofs.LengthLemmas.{number_above, numbers_within, row_above, rows_within, same_lengths}
use Rattle.mz_project.proofs.limits.lengths.limited_lengths.Goals as goal

pub returns-in_default : goal.returns-in_default
unfolding lengths_are_above
returns-in_default c =
    (or_left _ _ (row_above c.args.bounds.now.edges _ c.as_slice.ensures (rw c.in_default.is at c.in_ok-edges.ensures)), refl)

pub returns-in_default-2 : goal.returns-in_default-2
unfolding lengths_are_above
returns-in_default-2 c =
    (or_right _ _ (number_above c.args.bounds.now.outer _ c.as_slice-2.ensures (rw c.in_default-2.is at c.in_ok-outer.ensures)), refl)

pub returns : goal.returns
unfolding lengths_are_above
returns c =
    let edges = rw c.in-Some.is at c.in_ok-edges.ensures in
    let outer = rw c.in-Some-2.is at c.in_ok-outer.ensures in
    let same_edges = edges.0 ∙ c.as_slice.ensures in
    let same_outer = outer.0 ∙ c.as_slice-2.ensures in
    (or_from _ _ (rows_within _ _ same_edges edges.1) (numbers_within _ _ same_outer outer.1), same_lengths c.args.bounds.now c.new.result c.new-2.result (c.new.ensures ∙ same_edges) (c.new-2.ensures ∙ same_outer))
