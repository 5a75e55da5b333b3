use Rattle.std.proofs.Common.{◌≡◌, ◌/◌, ◌%◌}
use Rattle.mz_num.specs.Places.{list_below}
use Rattle.mz_project.specs.Boundaries.{default_boundary_cost}
use Rattle.mz_project.proofs.boundaries.default_boundary_costs.Given as goal

abbrev pub invariant-loop-place : goal.invariant-loop-place
invariant-loop-place l = l.costs.items ≡ list_below l.place (λ place. default_boundary_cost (place / l.zones) (place % l.zones))
