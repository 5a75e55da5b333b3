use Rattle.mz_model.specs.Parts.{zone_count}
use Rattle.mz_model.proofs.BuildLaws.{zone-inside}
use Rattle.mz_files.proofs.MissedLemmas.{zone-if_some}
use Rattle.mz_files.proofs.missing.push_row.Goals as goal

pub push_target-requires-clause-zone : goal.push_target-requires-clause-zone
push_target-requires-clause-zone c =
    rw c.target-target.ensures.row (zone-if_some (zone_count c.args.problem.now) _ (zone-inside c.args.problem.now c.args.row c.zones.ensures.valid c.requires.in_range))
