use Rattle.std.proofs.Common.{arith}
use Rattle.mz_cool.proofs.AdaptiveLemmas.{temperature_of_level-nothing, adaptive_factor-is, adaptive_factor-fail}
use Rattle.mz_cool.proofs.adaptive.adaptive_factor.Goals as goal

pub loop-passing-init : goal.loop-passing-init
loop-passing-init c = record {
  order = omega arith;
  below = omega arith;
  passes = omega (arith, temperature_of_level-nothing c.args.first c.args.levels c.requires.some_level);
  fail = λ g above below. absurd (omega arith);
}

pub loop-passing-preserved : goal.loop-passing-preserved
loop-passing-preserved c = record {
  order = omega arith;
  below = omega (arith, c.loop-passing.invariant.below);
  passes = c.loop-passing.invariant.passes;
  fail = λ g above below. adaptive_factor-fail _ _ _ _ g _ c.ends_within.ensures c.if-ends_within.false above;
}

pub returns-clause-value : goal.returns-clause-value
returns-clause-value c =
    adaptive_factor-is _ _ _ _ (omega arith) c.loop-passing.invariant.passes
    (λ g above below. c.loop-passing.invariant.fail g (omega arith) below)
