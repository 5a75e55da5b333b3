use Rattle.std.proofs.Common.{rules}
use Rattle.std.proofs.lemmas.List.Sorted.{answers_always}
use Rattle.mz_penalty.specs.Order.{comes_before}
use Rattle.mz_penalty.specs.Ordered.{held}
use Rattle.mz_penalty.proofs.OrderLemmas.{units_are_ordered}
use Rattle.mz_penalty.proofs.BaseLemmas.{held_moved}
use Rattle.mz_penalty.proofs.bases.ordered_holders.Goals as goal

pub returns-clause-same : goal.returns-clause-same
returns-clause-same c = held_moved _ _ _ c.in_ok-holders.ensures c.sort_unstable_by.ensures.permutation

pub returns-clause-sorted : goal.returns-clause-sorted
returns-clause-sorted c =
    c.sort_unstable_by.ensures.sorted (λ a b. comes_before (held a) (held b)) units_are_ordered
    (answers_always _ _ _ (λ f a r g h. search rules))
