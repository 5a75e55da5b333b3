use Rattle.std.proofs.Common.{◌≡◌, None}
use Rattle.std.specs.List.{last_or}
use Rattle.mz_num.specs.Places.{places_below}
use Rattle.mz_history.specs.Verdict.{overtakes}
use Rattle.mz_history.proofs.overtaking.overtaking_entry.Given as goal

abbrev pub invariant-loop-position : goal.invariant-loop-position
invariant-loop-position l = l.last ≡ last_or None (places_below l.position (overtakes l.problem l.journal l.front l.unit))
