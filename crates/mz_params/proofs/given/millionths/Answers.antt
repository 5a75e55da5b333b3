use Rattle.mz_params.proofs.ValueLemmas.{millionths-taken}
use Rattle.mz_params.proofs.given.millionths.Goals as goal

pub returns-in-Some-clause-greatest : goal.returns-in-Some-clause-greatest
returns-in-Some-clause-greatest c = (millionths-taken c.args.key _ _ _ c.in-Some.text.now c.read_millionths.ensures c.unwrap_or.ensures (c.requires.least, c.requires.greatest)).1
