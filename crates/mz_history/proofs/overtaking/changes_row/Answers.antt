use Rattle.mz_model.proofs.ZoneLaws.{is_allowed-in_range}
use Rattle.mz_history.proofs.overtaking.changes_row.Goals as goal

pub gain-old-requires-clause-zone : goal.gain-old-requires-clause-zone
gain-old-requires-clause-zone c = is_allowed-in_range _ _ _ c.touched-i-end.ensures.valid c.requires.moves.unit c.requires.moves.old

pub gain-new-requires-clause-zone : goal.gain-new-requires-clause-zone
gain-new-requires-clause-zone c = is_allowed-in_range _ _ _ c.touched-i-end.ensures.valid c.requires.moves.unit c.requires.moves.new
