use Rattle.mz_model.proofs.ZoneLaws.{is_allowed-in_range}
use Rattle.mz_files.proofs.solution.push_unit.Goals as goal

pub zone_id-requires : goal.zone_id-requires
zone_id-requires c =
    rw c.zone.ensures (is_allowed-in_range c.args.problem.now c.args.unit _ c.requires.valid c.requires.in_range (c.requires.legal.allowed c.args.unit c.requires.in_range))
