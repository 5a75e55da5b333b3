use Rattle.mz_state.proofs.KeptLaws.{none-touched, row-count, some-touched, unit-count}
use Rattle.mz_state.proofs.kept.Kept.touched_since.Goals as goal

pub returns-then-self-reading : goal.returns-then-self-reading
returns-then-self-reading c = none-touched _ _ _ _ _ c.args.reading.now.front c.args.reading.now.unit c.self.view_is c.self.invariant.0.agrees.versions c.if-self-reading.true

pub version_around-requires-clause-units : goal.version_around-requires-clause-units
version_around-requires-clause-units c = unit-count _ _ _ _ _ c.args.problem.now c.self.view_is c.requires.problem c.self.invariant.0.agrees.versions

pub version_around-requires-clause-rows : goal.version_around-requires-clause-rows
version_around-requires-clause-rows c = row-count _ _ _ _ _ c.args.problem.now c.self.view_is c.requires.problem c.self.invariant.0.agrees.versions

pub returns : goal.returns
returns c = some-touched _ _ _ _ _ c.args.reading.now.front c.args.reading.now.unit _ _ c.args.problem.now c.self.view_is c.requires.problem c.self.invariant.0.kept.valid c.self.invariant.0.agrees.versions c.requires.well_formed.unit c.version_around.ensures c.position_past.ensures
