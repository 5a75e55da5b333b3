use Rattle.std.proofs.Common.{ℕ, ◌<◌}
use Rattle.std.specs.Prelude.{IsTrue, slice_index}
use Rattle.mz_model.specs.Zones.{is_allowed}
use Rattle.mz_model.proofs.plan.Plan.of.Given as goal

abbrev pub invariant-loop-unit : goal.invariant-loop-unit
invariant-loop-unit l = (k : ℕ) → k < l.unit → IsTrue (is_allowed l.problem k (slice_index l.zones k))
