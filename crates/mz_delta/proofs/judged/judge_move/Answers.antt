use Rattle.mz_model.proofs.ZoneLaws.{is_allowed-in_range}
use Rattle.mz_delta.proofs.judged.judge_move.Goals as goal

pub cost_of-requires-clause-zone : goal.cost_of-requires-clause-zone
cost_of-requires-clause-zone c = is_allowed-in_range c.args.problem.now c.args.reading.now.unit c.args.zone c.rows_change-penalty.ensures.valid c.requires.well_formed.unit c.requires.allowed

pub cost_of-requires-2-clause-zone : goal.cost_of-requires-2-clause-zone
cost_of-requires-2-clause-zone c = is_allowed-in_range c.args.problem.now c.args.reading.now.unit c.args.reading.now.zone c.rows_change-penalty.ensures.valid c.requires.well_formed.unit c.requires.well_formed.zone

pub boundary_change-requires-clause-zone : goal.boundary_change-requires-clause-zone
boundary_change-requires-clause-zone c = is_allowed-in_range c.args.problem.now c.args.reading.now.unit c.args.zone c.rows_change-penalty.ensures.valid c.requires.well_formed.unit c.requires.allowed
