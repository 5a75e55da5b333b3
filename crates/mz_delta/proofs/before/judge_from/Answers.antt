use Rattle.mz_model.proofs.ZoneLaws.{is_allowed-in_range}
use Rattle.mz_delta.proofs.before.judge_from.Goals as goal

pub cost_of-cost-requires-clause-zone : goal.cost_of-cost-requires-clause-zone
cost_of-cost-requires-clause-zone c = is_allowed-in_range c.args.problem.now c.args.reading.now.unit c.args.zone c.penalty_after-penalty.ensures.valid c.requires.well_formed.unit c.requires.allowed

pub boundary_around-boundary-requires-clause-zone : goal.boundary_around-boundary-requires-clause-zone
boundary_around-boundary-requires-clause-zone c = is_allowed-in_range c.args.problem.now c.args.reading.now.unit c.args.zone c.penalty_after-penalty.ensures.valid c.requires.well_formed.unit c.requires.allowed
