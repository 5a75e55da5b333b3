use Rattle.std.proofs.Common.{◌≡◌}
use Rattle.mz_num.specs.Places.{list_below}
use Rattle.mz_history.specs.Core.{new_seat}
use Rattle.mz_history.proofs.world.new_seats.Given as goal

abbrev pub invariant-loop : goal.invariant-loop
invariant-loop l = l.seats.items ≡ list_below l.counter (λ _. new_seat)
