use Rattle.std.proofs.Common.{◌≡◌, take}
use Rattle.mz_model.proofs.TargetLaws.{gains_of}
use Rattle.mz_model.proofs.score.held.Given as goal

abbrev pub invariant-loop-unit : goal.invariant-loop-unit
invariant-loop-unit l = l.held ≡ gains_of l.problem l.plan l.t (take l.unit-index l.holders)
