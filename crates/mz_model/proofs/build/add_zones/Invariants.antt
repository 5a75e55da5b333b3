use Rattle.std.proofs.Common.{◌≡◌, ◌==◌}
use Rattle.std.specs.Int.{bit_at}
use Rattle.mz_num.specs.Places.{places_below}
use Rattle.mz_model.proofs.build.add_zones.Given as goal

abbrev pub invariant-loop-zone : goal.invariant-loop-zone
invariant-loop-zone l = l.list.items ≡ places_below l.zone (λ zone. bit_at l.set zone == 1)
