use Rattle.mz_model.proofs.BuildLaws.{holders-are}
use Rattle.mz_model.proofs.problem.Problem.build.Goals as goal

pub invariant_of-result : goal.invariant_of-result
invariant_of-result c = record {
  valid = c.requires;
  zones_are = c.in_ok-zones.ensures;
  free_are = c.in_ok-free.ensures;
  counts_are = c.in_ok-counts.ensures;
  neighbours_are = c.in_ok-neighbours.ensures;
  holders_are = holders-are c.args.parts c.as_slice-2.result.now c.len-features.result c.in_ok-holders.holders c.as_slice-2.ensures c.len-features.ensures c.in_ok-holders.ensures;
  touches_are = c.in_ok-touches.ensures;
  shares_are = c.in_ok-shares.ensures;
  narrow_rows = c.are_narrow-narrow.ensures;
}
