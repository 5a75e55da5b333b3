use Rattle.std.proofs.Common.{◌*◌}
use Rattle.mz_files.proofs.LineLemmas.{first_from}
use Rattle.mz_files.proofs.turns.turns_in.Goals as goal

pub returns : goal.returns
returns c = first_from c.args.turns.now (c.args.line * 64) 64 c.min.result c.min.ensures
