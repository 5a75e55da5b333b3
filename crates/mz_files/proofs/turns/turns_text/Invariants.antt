use Rattle.std.proofs.Common.{◌≡◌, ◌++◌, take}
use Rattle.std.specs.List.{flat_map}
use Rattle.mz_files.specs.Turns.{run_turns}
use Rattle.mz_files.proofs.turns.turns_text.Given as goal

abbrev pub invariant-loop-trail : goal.invariant-loop-trail
invariant-loop-trail l = l.text.items ≡ l.initial.text.items ++ flat_map run_turns (take l.trail-index l.trails)
