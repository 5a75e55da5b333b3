use Rattle.std.proofs.Common.{◌≡◌, take}
use Rattle.mz_store.proofs.store.opening_words.Given as goal

abbrev pub invariant-loop-unit : goal.invariant-loop-unit
invariant-loop-unit l = l.words.items ≡ take l.unit l.plan-inside.zones.items
