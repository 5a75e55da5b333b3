use Rattle.std.proofs.Common.{refl, sym, ap, ◌∙◌}
use Rattle.mz_history.specs.Core.{seats_of}
use Rattle.mz_run.proofs.AnnealLemmas.{annealed-of}
use Rattle.mz_run.proofs.anneal.anneal.Goals as goal

pub returns : goal.returns
returns g c =
    annealed-of c.args.job.now c.args.run _ _ _ _ _ _ (sym c.anneals.ensures ∙ c.if-not-anneals.false) c.in_ok-rules.ensures.asked c.in_ok-closed.ensures
    (c.in_ok-turns.ensures ∙ ap seats_of c.deref.ensures.value) refl refl refl refl
