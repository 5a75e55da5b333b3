use Rattle.std.proofs.Common.{arith}
use Rattle.mz_cool.proofs.ScheduleLemmas.{temperature_of_level-first, temperature_of_level-next, temperature_of_level-le, low_enough}
use Rattle.mz_cool.proofs.adaptive.ends_within.Goals as goal

pub loop-level-init : goal.loop-level-init
loop-level-init c = temperature_of_level-first _ _

pub loop-level-preserved : goal.loop-level-preserved
loop-level-preserved c = temperature_of_level-next _ _ _ _ _ c.loop-level.invariant c.cooled-temperature.ensures

pub cooled-temperature-requires-clause-below : goal.cooled-temperature-requires-clause-below
cooled-temperature-requires-clause-below c =
    let most = temperature_of_level-le c.args.first c.args.factor c.loop-level._level c.requires.above c.requires.factors in
    omega (arith, c.loop-level.invariant)

pub returns-then-temperature-last : goal.returns-then-temperature-last
returns-then-temperature-last c = low_enough c.args.first c.args.factor c.loop-level._level c.args.levels _ c.args.last c.requires.above c.requires.factors c.loop-level.invariant (omega arith) (omega arith)
