use Rattle.std.proofs.Common.{◌≡◌, None, map, vec_len}
use Rattle.std.specs.List.{All}
use Rattle.mz_turn.proofs.CloseLemmas.{GathersBut}
use Rattle.mz_turn.proofs.lock.TurnLock.gather.Given as goal

abbrev pub invariant-loop-holder : goal.invariant-loop-holder
invariant-loop-holder g l = record {
  table : l.seat.table_id ≡ l.self.table;
  here : All (λ chair. (chair.lock ≡ l.self) × (chair.taken ≡ None)) (map g.H.HoldsChair.chair l.holders.items);
  gathers : GathersBut g.T.Story.owner (map g.H.HoldsChair.chair l.initial.holders.items) (map g.H.HoldsChair.chair l.holders.items) l.seat.me;
}

abbrev pub decreases-loop-holder : goal.decreases-loop-holder
decreases-loop-holder g l = vec_len l.holders
