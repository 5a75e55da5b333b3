use Rattle.std.proofs.Common.{◌≡◌, ◌≤◌, [], vec_capacity}
use Rattle.mz_turn.specs.Chair.{AreFresh}
use Rattle.mz_turn.specs.Gathering.{dealt_to}
use Rattle.mz_turn.proofs.lock.TurnLock.deal.Given as goal

abbrev pub invariant-loop-number : goal.invariant-loop-number
invariant-loop-number g l = record {
  table : l.seat.table_id ≡ l.initial.seat.table_id;
  seat : l.seat.me ≡ (dealt_to l.self l.number, []);
  room : l.seats ≤ vec_capacity l.chairs;
  chairs : AreFresh l.self l.number l.chairs.items;
}
