use Rattle.std.proofs.Common.{ap, ◌∙◌}
use Rattle.std.proofs.lemmas.Result.{err_from_is_err_and}
use Rattle.mz_params.specs.Given.{params_of}
use Rattle.mz_params.specs.Lines.{lines_of}
use Rattle.mz_params.proofs.ReadLemmas.{answers_line_fault, answers_late_fault, answers_params, late_fault}
use Rattle.mz_params.proofs.AcceptedLemmas.{accepted}
use Rattle.mz_params.proofs.params.Params.read.Goals as goal

pub returns-in_err-lines-clause-answer : goal.returns-in_err-lines-clause-answer
returns-in_err-lines-clause-answer c =
    let p = err_from_is_err_and c.from_residual.result c.from_residual.ensures.1 in
    rw (p.1, p.2) (answers_line_fault c.args.bytes.now c.in_err-lines.field-0.0 c.in_err-lines.ensures.fault)

pub returns-in-Some-clause-answer : goal.returns-in-Some-clause-answer
returns-in-Some-clause-answer c =
    let params = c.in_ok-params.params in
    answers_late_fault c.args.bytes.now params c.in-Some.fault c.in_ok-lines.ensures.good
    (c.in_ok-params.ensures ∙ ap params_of (c.deref.ensures.value ∙ c.in_ok-lines.ensures.lines))
    (late_fault params _ _ _ _ c.missing.ensures c.limit.ensures c.or.ensures c.in-Some.is)

pub returns-clause-answer : goal.returns-clause-answer
returns-clause-answer c =
    let params = c.in_ok-params.params in
    answers_params c.args.bytes.now params c.in_ok-lines.ensures.good
    (c.in_ok-params.ensures ∙ ap params_of (c.deref.ensures.value ∙ c.in_ok-lines.ensures.lines))
    (late_fault params _ _ _ _ c.missing.ensures c.limit.ensures c.or.ensures c.in-None.is)

pub returns-clause-accepted : goal.returns-clause-accepted
returns-clause-accepted c =
    let params = c.in_ok-params.params in
    accepted (lines_of c.args.bytes.now) params
    (c.in_ok-params.ensures ∙ ap params_of (c.deref.ensures.value ∙ c.in_ok-lines.ensures.lines))
    (late_fault params _ _ _ _ c.missing.ensures c.limit.ensures c.or.ensures c.in-None.is)
