use Rattle.mz_cool.proofs.AcceptanceLemmas.{is_accepted-below, is_accepted-fallen}
use Rattle.mz_cool.proofs.stairs.accepts_on.Goals as goal

pub returns-then-d-le0 : goal.returns-then-d-le0
returns-then-d-le0 c = λ word are. is_accepted-fallen c.args.d c.args.t word c.ranges.d c.if-d-le0.true

pub returns-else-d-le0 : goal.returns-else-d-le0
returns-else-d-le0 c = λ word are. is_accepted-below c.args.d c.args.t word c.args.steps _ _ c.ranges.d c.requires.above c.if-d-le0.false c.unsigned_abs.ensures.value c.from.ensures are
