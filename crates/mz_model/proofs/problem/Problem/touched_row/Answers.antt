use Rattle.std.proofs.Common.{◌∙◌, ap, get_or, List}
use Rattle.mz_model.specs.declared.touch.Touch.{Touch}
use Rattle.mz_model.specs.Targets.{no_touch}
use Rattle.mz_model.proofs.TouchLaws.{get_or-touches_of}
use Rattle.mz_model.proofs.problem.Problem.touched_row.Goals as goal

pub returns-clause-row : goal.returns-clause-row
returns-clause-row c = ap (λ (touch : Touch). touch.row) (ap (λ (touches : List Touch). get_or touches c.args.i no_touch) c.touches.ensures.touches ∙ get_or-touches_of c.args.self.now c.args.unit c.args.i no_touch c.requires.place)
