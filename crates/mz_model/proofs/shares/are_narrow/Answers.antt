use Rattle.std.proofs.Common.{sym, ◌∙◌}
use Rattle.std.proofs.lemmas.List.{take_all}
use Rattle.std.proofs.lemmas.List.Elements.{All-more, All-same}
use Rattle.mz_model.specs.Built.{IsNarrowRow}
use Rattle.mz_model.specs.Parts.{no_target}
use Rattle.mz_model.proofs.shares.are_narrow.Goals as goal

pub loop-target-preserved : goal.loop-target-preserved
loop-target-preserved c = All-more IsNarrowRow c.as_slice-targets.result.now c.loop-target.target-index no_target c.loop-target-test.true c.loop-target.invariant (c.is_narrow.ensures c.if-not-is_narrow.false)

pub returns : goal.returns
returns c = λ _.
    All-same IsNarrowRow c.args.parts.now.targets _ (sym (take_all c.loop-target.target-index c.as_slice-targets.result.now c.loop-target-test.false ∙ c.as_slice-targets.ensures)) c.loop-target.invariant
