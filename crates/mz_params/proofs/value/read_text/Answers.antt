use Rattle.mz_params.proofs.ValueLemmas.{text_value-good, text_value-bad}
use Rattle.mz_params.proofs.value.read_text.Goals as goal

pub returns-in-Ok : goal.returns-in-Ok
returns-in-Ok c = text_value-good c.args.key c.args.text.now c.in-Ok.text.now c.in-Ok.ensures.cases.0 c.in-Ok.ensures.cases.1

pub returns-in-Err : goal.returns-in-Err
returns-in-Err c = text_value-bad c.args.key c.args.text.now c.in-Err.ensures.cases.0
