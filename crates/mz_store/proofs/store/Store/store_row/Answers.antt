use Rattle.std.proofs.Common.{ℕ, List, ap, get_or, refl}
use Rattle.mz_store.specs.Store.{StoreState}
use Rattle.mz_store.proofs.ChangeLaws.{row-passed, row-stored}
use Rattle.mz_store.proofs.store.Store.store_row.Goals as goal

pub returns-then-read-moved : goal.returns-then-read-moved
returns-then-read-moved c = row-stored c.args.self.now.run.setting.parts _ c.args.reading.now c.args.judged.now c.args.i _ _ _ _ _ c.units.result c.touched_row.result c.args.chair.now _
    (ap (λ (s : StoreState). s.run.setting.parts) c.self.view_is) c.requires.gains c.requires.place c.requires.totals c.requires.owes (ap (λ (xs : List ℕ). get_or xs c.args.i _) c.as_slice.ensures) (ap (λ (xs : List ℕ). get_or xs c.args.i _) c.as_slice-2.ensures) c.if-read-moved.true c.units.ensures.count c.touched_row.ensures.row refl c.store_item.ensures

pub returns-else-read-moved : goal.returns-else-read-moved
returns-else-read-moved c = row-passed c.args.self.now.run.setting.parts c.args.reading.now c.args.judged.now c.args.i _ _ _ _ c.args.chair.now
    c.requires.gains c.requires.place c.requires.totals c.requires.owes (ap (λ (xs : List ℕ). get_or xs c.args.i _) c.as_slice.ensures) (ap (λ (xs : List ℕ). get_or xs c.args.i _) c.as_slice-2.ensures) c.if-read-moved.false
