use Rattle.mz_project.proofs.ReadLemmas.{failed_as}
use Rattle.mz_project.proofs.file.read_bytes.Goals as goal

pub returns-in-Err-Failed-clause-read : goal.returns-in-Err-Failed-clause-read
returns-in-Err-Failed-clause-read g c = failed_as c.args.name.now c.in_ok-file.file c.args.which c.in-Err-Failed.field-0 c.in_ok-file.ensures c.in-Err-Failed.field-0-is c.in-Err-Failed.ensures
