use Rattle.std.proofs.Common.{◌≡◌}
use Rattle.mz_model.specs.Built.{share_at}
use Rattle.mz_num.specs.Places.{list_below}
use Rattle.mz_model.proofs.shares.shares_of.Given as goal

abbrev pub invariant-loop-place : goal.invariant-loop-place
invariant-loop-place l = l.shares.items ≡ list_below l.place (share_at l.parts)
