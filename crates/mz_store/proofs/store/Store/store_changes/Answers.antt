use Rattle.std.proofs.Common.{◌∙◌, ap}
use Rattle.mz_board.specs.Chair.{ChairState}
use Rattle.mz_store.specs.declared.told.Told.{Told}
use Rattle.mz_store.specs.RunSetting.{RunSetting}
use Rattle.mz_store.specs.Turns.{move_writes}
use Rattle.mz_store.proofs.ChangeLaws.{unit-stored}
use Rattle.mz_store.proofs.store.Store.store_changes.Goals as goal

pub store_rows-requires-clause-owes : goal.store_rows-requires-clause-owes
store_rows-requires-clause-owes c = ap (λ (h : ChairState Told RunSetting). h.post.owes) (unit-stored c.args.self.now.run.setting.parts c.args.judged.now c.args.chair.now _ c.requires.unit (c.requires.owes ∙ ap (move_writes c.args.self.now.run.setting.parts c.args.judged.now) c.if-accepted.true) c.store_item.ensures)
