use Rattle.std.proofs.Common.{◌++◌, ◌∷◌, [], ◌∙◌, ap, sym, arith}
use Rattle.std.proofs.lemmas.List.FromFn.{map-range_with_len_more}
use Rattle.mz_examples.proofs.parts.first_ids.Goals as goal

pub loop-id-preserved : goal.loop-id-preserved
loop-id-preserved c = c.in_ok-push.ensures.items ∙ ap (λ items. items ++ c.loop-id.id ∷ []) c.loop-id.invariant ∙ sym (map-range_with_len_more (λ id. id) 0 c.loop-id.id c.loop-id.id (omega arith))
