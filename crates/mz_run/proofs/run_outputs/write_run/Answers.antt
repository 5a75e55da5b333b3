use Rattle.std.proofs.Common.{◌∙◌}
use Rattle.mz_run.proofs.run_outputs.write_run.Goals as goal

pub returns : goal.returns
returns g c = rw (c.requires.plan, c.as_str.ensures.value ∙ c.in_ok-part.ensures, c.as_str-2.ensures.value ∙ c.in_ok-missing_part.ensures) at c.write_plan.ensures
