use Rattle.std.proofs.Common.{◌≡◌}
use Rattle.mz_num.specs.Places.{list_below}
use Rattle.mz_model.proofs.FillingLaws.{before}
use Rattle.mz_model.proofs.filling.Filling.new.Given as goal

abbrev pub invariant-loop-count : goal.invariant-loop-count
invariant-loop-count g l = record { ends : l.ends.items ≡ list_below l.count-index (before l.counts); total : l.total ≡ before l.counts l.count-index }
