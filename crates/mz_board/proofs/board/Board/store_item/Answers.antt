use Rattle.std.proofs.Common.{◌≡◌, ◌+◌, ◌-◌, ap, sym, ◌∙◌, ◌<◌, ℕ, Some, length, subst, arith}
use Rattle.mz_board.specs.Items.{written}
use Rattle.mz_board.specs.Views.{stored_view}
use Rattle.mz_board.proofs.ItemLemmas.{written_all}
use Rattle.mz_board.proofs.HolderLemmas.{stores}
use Rattle.mz_board.proofs.ChairLemmas.{who_owes, stored_ok}
use Rattle.mz_board.proofs.board.Board.store_item.Goals as goal

pub swap-requires : goal.swap-requires
swap-requires g c = let e = ap (λ x. x.lock) c.chair.view_is ∙ (c.requires.lock ∙ sym c.self.view_is) in
    let slots = c.self.inside.table.shared.table_id.slots in
    let seat = c.chair.inside.seat in
    let owes = subst (λ ch. written c.args.item ch.post.owes ≡ Some c.args.value) (sym c.chair.view_is)
    c.requires.owes in
    let holder = who_owes c.chair.inside.number c.chair.inside.front seat.me c.args.item c.args.value
    c.chair.invariant owes in
    let low = subst (λ o. c.args.item < length o) (ap (λ x. x.opening) e) (written_all (λ (w : ℕ
    × ℕ). w.0 < length seat.me.0.opening) c.args.item seat.me.0.post.owes c.args.value
    c.chair.invariant.view.owes owes) in (
      ap (λ x. x.table) e,
      omega (arith, c.self.invariant.0),
      stores g.T.Story _ slots _ seat.me c.args.item c.args.value holder.0 holder.1 owes,
    )

pub invariant_of-chair : goal.invariant_of-chair
invariant_of-chair g c = stored_ok c.chair.inside.number c.chair.inside.front c.chair.inside.seat.me _ c.args.item
    c.chair.invariant (c.swap.ensures.2
    ∙ ap (λ i. (
      stored_view c.chair.inside.seat.me.0 i,
      c.chair.inside.seat.me.1,
    )) (let e : 3 + c.args.item - 3 ≡ c.args.item = omega arith in e))
