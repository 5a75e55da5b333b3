use Rattle.std.proofs.Common.{refl}
use Rattle.mz_delta.proofs.ReadLaws.{length-totals_of_plan, read-reads}
use Rattle.mz_delta.proofs.reading.read_plan.Goals as goal

pub read_totals-requires-clause-totals : goal.read_totals-requires-clause-totals
read_totals-requires-clause-totals c = length-totals_of_plan c.args.problem.now c.args.plan.now c.args.totals.now c.requires.totals

pub returns-clause-reads : goal.returns-clause-reads
returns-clause-reads c =
    read-reads c.args.problem.now c.args.plan.now c.args.totals.now c.args.unit c.args.reading.now _ c.read_totals.ensures.valid c.requires.legal c.requires.totals refl refl refl
    (record { unit = c.requires.unit; zone = c.zone-reading.ensures; neighbours = c.read_neighbours.ensures.zones; totals = c.read_totals.ensures.totals })
