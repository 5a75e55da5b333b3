use Rattle.mz_model.proofs.ZoneLaws.{is_allowed-in_range}
use Rattle.mz_delta.proofs.before.prepare.Goals as goal

pub cost_of-requires-clause-zone : goal.cost_of-requires-clause-zone
cost_of-requires-clause-zone c = is_allowed-in_range c.args.problem.now c.args.reading.now.unit c.args.reading.now.zone c.penalty_before-penalty.ensures.valid c.requires.unit c.requires.zone

pub boundary_around-requires-clause-zone : goal.boundary_around-requires-clause-zone
boundary_around-requires-clause-zone c = is_allowed-in_range c.args.problem.now c.args.reading.now.unit c.args.reading.now.zone c.penalty_before-penalty.ensures.valid c.requires.unit c.requires.zone
