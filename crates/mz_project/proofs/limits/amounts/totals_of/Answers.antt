use Rattle.std.proofs.Common.{[], ap, ◌∙◌}
use Rattle.std.specs.Prelude.{slice_index_or}
use Rattle.mz_project.proofs.AmountLemmas.{list-more, sum_of}
use Rattle.mz_project.proofs.limits.amounts.totals_of.Goals as goal

pub loop-feature-preserved : goal.loop-feature-preserved
loop-feature-preserved c =
    list-more (λ feature. sum_of (slice_index_or c.args.holders.now feature [])) c.loop-feature.feature c.total.result c.loop-feature.totals.items c.push.new.self.items
    (c.total.ensures ∙ ap sum_of c.at.ensures) c.loop-feature.invariant c.in_ok-push.ensures.items
