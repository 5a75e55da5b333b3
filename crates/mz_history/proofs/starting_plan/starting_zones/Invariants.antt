use Rattle.mz_history.proofs.StartLemmas.{HasStarted}
use Rattle.mz_history.proofs.starting_plan.starting_zones.Given as goal

abbrev pub invariant-loop-unit : goal.invariant-loop-unit
invariant-loop-unit l = HasStarted l.problem l.prop l.seed l.run l.unit l.zones.items l.drawer
