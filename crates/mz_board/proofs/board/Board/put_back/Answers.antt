use Rattle.std.proofs.Common.{ap, sym, ◌∙◌, subst, arith}
use mathlib.Core.Option.{none}
use Rattle.atomic_table.specs.Table.{step}
use Rattle.mz_board.specs.Chair.{EndsTurn}
use Rattle.mz_board.proofs.ItemLemmas.{same_setting}
use Rattle.mz_board.proofs.ChairLemmas.{home}
use Rattle.mz_board.proofs.HolderLemmas.{releases_after}
use Rattle.mz_board.proofs.board.Board.put_back.Goals as goal

pub swap-requires : goal.swap-requires
swap-requires g c = let e = ap (λ x. x.lock) c.chair.view_is ∙ (c.requires.lock ∙ sym c.self.view_is) in
    let slots = c.self.inside.table.shared.table_id.slots in let seat = c.chair.inside.seat in
    let ends = subst (λ ch. EndsTurn ch (g.T.Story.entries c.args.value)) (sym c.chair.view_is) c.requires.turn in
    let known = ap (λ x. x.setting) c.self.view_is
    ∙ (ap (λ x. x.setting) (sym c.requires.lock) ∙ c.requires.setting) in
    let at = home g.T.Story seat.table_id c.chair.inside.number c.chair.inside.front seat.me c.chair.invariant
    c.args.value ends c.publish.new.seat.me c.exchange.new.seat.me c.publish.ensures.view c.exchange.ensures.3 in (
      c.exchange.ensures.0 ∙ (c.publish.ensures.seat.0 ∙ ap (λ x. x.table) e),
      omega (arith, c.self.invariant.0),
      releases_after g.T.Story _ slots _ seat.me.0 c.exchange.new.seat.me c.args.value ends.taken
          (step slots 0 0 0 none) at ends.holds ends.paid ends.whole (same_setting _ _ (sym known)),
    )
