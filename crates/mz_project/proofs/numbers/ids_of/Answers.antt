use Rattle.mz_project.proofs.PartLemmas.{ids-more}
use Rattle.mz_project.proofs.numbers.ids_of.Goals as goal

pub loop-place-preserved : goal.loop-place-preserved
loop-place-preserved c = ids-more c.args.ids.now c.loop-place.list.items _ c.loop-place.place c.id.result c.loop-place.invariant c.id.ensures c.in_ok-push.ensures.items
