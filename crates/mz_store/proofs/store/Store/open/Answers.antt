use Rattle.std.proofs.Common.{ap, subst, sym, ◌∙◌}
use Rattle.mz_model.specs.Valid.{IsValid}
use Rattle.mz_state.specs.Kept.{KeptState}
use Rattle.mz_store.specs.Words.{opening_words}
use Rattle.mz_store.proofs.OpenLaws.{opening-fits}
use Rattle.mz_store.proofs.store.Store.open.Goals as goal

pub open-requires-2-clause-may : goal.open-requires-2-clause-may
open-requires-2-clause-may c κs = λ item h. opening-fits c.in_ok-new.field-0.value.setting c.deref.result.now item
    (subst (λ (k : KeptState). IsValid k.setting.parts) (sym c.in_ok-new.ensures.ok) c.in_ok-kept.ensures.kept.valid)
    (c.deref.ensures.value ∙ c.in_ok-words.ensures ∙ ap (λ (k : KeptState). opening_words k.setting) (sym (c.in_ok-new.ensures.ok ∙ c.in_ok-kept.ensures.opened))) h
