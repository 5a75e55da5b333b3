use Rattle.mz_units.proofs.NamedLemmas.{IsNamedSoFar}
use Rattle.mz_units.proofs.named.read_named_list.Given as goal

abbrev pub invariant-loop-row : goal.invariant-loop-row
invariant-loop-row l = IsNamedSoFar l.table l.ids l.names.items l.row
