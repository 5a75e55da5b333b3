use Rattle.std.proofs.Common.{ap, length, sym, ◌∙◌}
use Rattle.mz_state.specs.Kept.{KeptState}
use Rattle.mz_store.proofs.ToldLaws.{length-told}
use Rattle.mz_store.proofs.held.HeldStory.length.Goals as goal

pub returns : goal.returns
returns c = c.from.ensures ∙ c.length.ensures.count ∙ ap (λ (k : KeptState). length k.journal) c.deref.ensures ∙ sym (length-told c.args.self.now.kept.value.setting c.args.self.now.kept.value.journal)
