use Rattle.std.proofs.Common.{◌≡◌}
use Rattle.mz_num.specs.Places.{list_below}
use Rattle.mz_examples.proofs.parts.first_ids.Given as goal

abbrev pub invariant-loop-id : goal.invariant-loop-id
invariant-loop-id l = l.ids.items ≡ list_below l.id (λ id. id)
