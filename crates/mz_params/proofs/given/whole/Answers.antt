use Rattle.mz_params.proofs.ValueLemmas.{whole-taken}
use Rattle.mz_params.proofs.given.whole.Goals as goal

pub returns-in-Some-clause-least : goal.returns-in-Some-clause-least
returns-in-Some-clause-least c = (whole-taken c.args.key _ _ _ c.in-Some.text.now c.read_number.ensures c.unwrap_or.ensures (c.requires.least, c.requires.greatest)).0

pub returns-in-Some-clause-greatest : goal.returns-in-Some-clause-greatest
returns-in-Some-clause-greatest c = (whole-taken c.args.key _ _ _ c.in-Some.text.now c.read_number.ensures c.unwrap_or.ensures (c.requires.least, c.requires.greatest)).1
