use Rattle.std.proofs.Common.{◌++◌, ◌∷◌, [], ap, sym, ◌∙◌}
use Rattle.mz_num.proofs.PlaceLaws.{list_below-more}
use Rattle.mz_history.specs.Core.{new_seat}
use Rattle.mz_history.proofs.world.new_seats.Goals as goal

pub loop-preserved : goal.loop-preserved
loop-preserved c = c.in_ok-push.ensures.items ∙ ap (λ seats. seats ++ new_seat ∷ []) c.loop.invariant ∙ sym (list_below-more c.loop.counter (λ _. new_seat))
