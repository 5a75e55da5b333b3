use Rattle.std.proofs.Common.{◌<◌, ◌^◌, length, ap, sym, ◌∙◌, subst, arith}
use mathlib.Core.Option.{none}
use Rattle.atomic_table.specs.Table.{step}
use Rattle.mz_board.specs.Turn.{Grows}
use Rattle.mz_board.proofs.ItemLemmas.{same_setting}
use Rattle.mz_board.proofs.HolderLemmas.{appends}
use Rattle.mz_board.proofs.board.Board.count_entry.Goals as goal

pub fetch_add-requires : goal.fetch_add-requires
fetch_add-requires g c = let slots = c.self.inside.table.shared.table_id.slots in let v = c.args.seat.now.me.0 in
    let list = g.T.Story.entries c.args.value.now in
    let setting = same_setting _ _ (ap (λ x. x.setting) c.self.view_is ∙ c.requires.lock.1) in
    let fits : length g.G.Growth.list < 2 ^ 64 = omega (arith, c.requires.list.1, ap length c.requires.list.0) in (
      c.requires.lock.0 ∙ ap (λ x. x.table) (sym c.self.view_is),
      omega (arith, c.self.invariant.0),
      appends g.T.Story _ slots _ c.args.seat.now.me g.G.Growth.list (step slots 1 1 0 none)
          (subst (λ s. Grows g.T.Story v s g.G.Growth.list) (sym setting)
          (subst (λ l. Grows g.T.Story v (g.T.Story.setting c.args.value.now) l) (sym c.requires.list.0)
          c.requires.grows))
          (c.requires.lock.2 ∙ ap (λ x. x.opening) (sym c.self.view_is)) fits,
    )
