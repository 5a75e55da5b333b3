use Rattle.std.proofs.Common.{arith}
use Rattle.mz_cool.proofs.ScheduleLemmas.{temperature_of_level-first, temperature_of_level-next, temperature_of_level-le}
use Rattle.mz_cool.proofs.TableLemmas.{IsTable-none, IsTable-more}
use Rattle.mz_cool.proofs.schedule.temperatures.Goals as goal

pub loop-level-init : goal.loop-level-init
loop-level-init c = record {
  temperature = temperature_of_level-first _ _;
  table = IsTable-none _ _ c.in_ok-temperatures.ensures.items;
}

pub loop-level-preserved : goal.loop-level-preserved
loop-level-preserved c = record {
  temperature = temperature_of_level-next _ _ _ _ _ c.loop-level.invariant.temperature c.cooled-temperature.ensures;
  table = IsTable-more _ _ _ _ _ c.loop-level.invariant.table c.loop-level.invariant.temperature c.in_ok-push.ensures.items;
}

pub cooled-temperature-requires : goal.cooled-temperature-requires
cooled-temperature-requires c =
    let most = temperature_of_level-le c.args.first c.args.factor c.loop-level._level c.requires.above c.requires.factors in
    record { below = omega (arith, c.loop-level.invariant.temperature); factors = c.requires.factors }
