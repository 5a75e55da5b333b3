use Rattle.std.proofs.Common.{◌∙◌}
use Rattle.mz_params.proofs.KeyLaws.{same_from_names}
use Rattle.mz_params.proofs.key.key_name.Goals as goal

pub returns-clause-own : goal.returns-clause-own
returns-clause-own c = λ other e. same_from_names other c.args.key (e ∙ c.name.ensures)
