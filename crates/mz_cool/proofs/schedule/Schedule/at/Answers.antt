use Rattle.mz_cool.proofs.ScheduleLemmas.{temperature_at-read}
use Rattle.mz_cool.proofs.schedule.Schedule.at.Goals as goal

pub returns : goal.returns
returns c =
    let read =
    temperature_at-read _ _ c.args.position _ _ _ _ _ c.self.view_is c.self.invariant.0 c.self.invariant.1
    c.requires c.from.ensures c.from-2.ensures c.from-3.ensures c.index.ensures in
    record { value = read.0; above = read.1; below = read.2 }
