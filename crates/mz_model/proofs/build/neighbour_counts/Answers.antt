use Rattle.std.proofs.Common.{rules, ◌≡◌, ◌∙◌, ap, ℕ, length, take, get_or, arith}
use Rattle.std.proofs.Math.ListN.{replicate}
use Rattle.std.specs.List.{flat_map}
use Rattle.std.proofs.lemmas.List.{length-replicate, length-set}
use Rattle.mz_model.specs.declared.neighbour.Neighbour.{Neighbour}
use Rattle.mz_model.specs.Boundary.{ends_of}
use Rattle.mz_model.specs.Parts.{unit_count}
use Rattle.mz_model.specs.Valid.{IsPair}
use Rattle.mz_model.proofs.BuildLaws.{counts_with-start, length-counts_with, neighbour_counts-done, neighbour_counts-more, pair-at}
use Rattle.mz_model.proofs.build.neighbour_counts.Goals as goal

pub loop-edge-init : goal.loop-edge-init
loop-edge-init c =
    let none : c.in_ok-counts.counts.items ≡ replicate (unit_count c.args.parts.now) 0 = c.in_ok-counts.ensures.items_if_clones_equal (search rules) ∙ ap (λ n. replicate n 0) c.len.ensures in
    counts_with-start Neighbour (unit_count c.args.parts.now) c.in_ok-counts.counts.items none

pub count_one-requires : goal.count_one-requires
count_one-requires c =
    let is : IsPair (unit_count c.args.parts.now) (get_or c.as_slice-edges.result.now c.loop-edge.edge-index (0, 0, 0)) = pair-at c.args.parts.now c.as_slice-edges.result.now c.loop-edge.edge-index c.requires c.as_slice-edges.ensures c.loop-edge-test.true in
    omega (arith, is.first, is.second, ap length c.loop-edge.invariant, length-counts_with (replicate (unit_count c.args.parts.now) 0) (flat_map ends_of (take c.loop-edge.edge-index c.as_slice-edges.result.now)), length-replicate {A = ℕ} (unit_count c.args.parts.now) 0)

pub count_one-requires-in-loop-edge : goal.count_one-requires-in-loop-edge
count_one-requires-in-loop-edge c =
    let is : IsPair (unit_count c.args.parts.now) (get_or c.as_slice-edges.result.now c.loop-edge.edge-index (0, 0, 0)) = pair-at c.args.parts.now c.as_slice-edges.result.now c.loop-edge.edge-index c.requires c.as_slice-edges.ensures c.loop-edge-test.true in
    let same : length c.count_one.new.counts.items ≡ length c.loop-edge.counts.items = ap length c.in_ok-count_one.ensures ∙ length-set _ _ _ in
    omega (arith, is.second, same, ap length c.loop-edge.invariant, length-counts_with (replicate (unit_count c.args.parts.now) 0) (flat_map ends_of (take c.loop-edge.edge-index c.as_slice-edges.result.now)), length-replicate {A = ℕ} (unit_count c.args.parts.now) 0)

pub loop-edge-preserved : goal.loop-edge-preserved
loop-edge-preserved c =
    neighbour_counts-more (unit_count c.args.parts.now) c.as_slice-edges.result.now c.loop-edge.edge-index c.loop-edge.counts.items c.count_one.new.counts.items c.count_one-in-loop-edge.new.counts.items c.loop-edge-test.true (pair-at c.args.parts.now c.as_slice-edges.result.now c.loop-edge.edge-index c.requires c.as_slice-edges.ensures c.loop-edge-test.true) c.loop-edge.invariant c.in_ok-count_one.ensures c.in_ok-count_one-2.ensures

pub returns : goal.returns
returns c = neighbour_counts-done c.args.parts.now c.as_slice-edges.result.now c.loop-edge.edge-index c.loop-edge.counts.items c.as_slice-edges.ensures c.loop-edge-test.false c.loop-edge.invariant
