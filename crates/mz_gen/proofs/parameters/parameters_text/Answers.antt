use Rattle.std.proofs.Common.{refl}
use Rattle.mz_gen.proofs.TextLemmas.{parameters_whole}
use Rattle.mz_gen.proofs.parameters.parameters_text.Goals as goal

pub returns : goal.returns
returns c = parameters_whole c.args.number c.from.result _ _ _ _ _ _ _ refl refl c.from.ensures c.in_ok-text.ensures.items c.in_ok-push_bytes.ensures c.in_ok-push_number.ensures c.in_ok-push_bytes-2.ensures c.in_ok-push_bytes-3.ensures
