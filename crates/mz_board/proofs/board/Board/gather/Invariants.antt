use Rattle.std.proofs.Common.{◌≡◌, None, vec_len}
use Rattle.std.specs.List.{All}
use Rattle.mz_board.proofs.CloseLemmas.{GathersBut}
use Rattle.mz_board.proofs.board.Board.gather.Given as goal

abbrev pub invariant-loop-chair : goal.invariant-loop-chair
invariant-loop-chair g l = record {
  table : l.seat.table_id ≡ l.self.table;
  here : All (λ chair. (chair.lock ≡ l.self) × (chair.taken ≡ None)) l.chairs.items;
  gathers : GathersBut g.T.Story.owner l.initial.chairs.items l.chairs.items l.seat.me;
}

abbrev pub decreases-loop-chair : goal.decreases-loop-chair
decreases-loop-chair g l = vec_len l.chairs
