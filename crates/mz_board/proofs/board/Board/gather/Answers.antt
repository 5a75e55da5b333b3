use Rattle.std.proofs.Common.{◌≡◌, [], ap, sym, ◌∙◌, arith, None}
use mathlib.Core.Option.{none}
use Rattle.atomic_table.specs.Table.{step}
use Rattle.mz_board.specs.Views.{spent_view}
use Rattle.mz_board.proofs.ChairLemmas.{empty_hand}
use Rattle.mz_board.proofs.NoteLemmas.{enters, joins}
use Rattle.mz_board.proofs.CloseLemmas.{popped, none_left, gathers_more, gathered}
use Rattle.mz_board.proofs.board.Board.gather.Goals as goal

pub load_new_seat-requires : goal.load_new_seat-requires
load_new_seat-requires g c = let slots = c.self.inside.table.shared.table_id.slots in
    (omega (arith, c.self.invariant.0), enters g.T.Story _ slots (spent_view, []) (step slots 0 0 0 none))

pub join_seat-requires : goal.join_seat-requires
join_seat-requires g c = let lock = c.args.self.now in let i = c.loop-chair.invariant in
    let last = popped (λ chair. (chair.lock ≡ lock)
    × (chair.taken ≡ None)) c.loop-chair.chairs.items c.pop.new.self.items c.in-Some.chair
    c.in-Some.ensures.items i.here in
    let e = ap (λ x. x.lock) c.chair.view_is ∙ (last.1.0 ∙ sym c.self.view_is) in
    let idle = ap (λ x. x.taken) c.chair.view_is ∙ last.1.1 in (
      i.table ∙ ap (λ x. x.table) (sym c.self.view_is),
      ap (λ x. x.table) e,
      (empty_hand c.chair.inside.number c.chair.inside.front c.chair.inside.seat.me c.chair.invariant idle).slot,
      omega (arith, c.self.invariant.0),
      joins g.T.Story _ _ _ _ _ i.gathers.idle idle,
    )

pub loop-chair-preserved : goal.loop-chair-preserved
loop-chair-preserved g c = let lock = c.args.self.now in let i = c.loop-chair.invariant in
    let t = c.join_seat.ensures in let seat = c.chair.inside.seat in
    let last = popped (λ chair. (chair.lock ≡ lock)
    × (chair.taken ≡ None)) c.loop-chair.chairs.items c.pop.new.self.items c.in-Some.chair
    c.in-Some.ensures.items i.here in record {
      table = t.0 ∙ i.table;
      here = last.0;
      gathers = gathers_more g.T.Story seat.table_id c.args.chairs.items c.loop-chair.chairs.items
          c.pop.new.self.items c.in-Some.chair c.chair.inside.number c.chair.inside.front c.loop-chair.seat.me
          c.join_seat.new.seat.me seat.me
          c.chair.invariant c.chair.view_is c.in-Some.ensures.items i.gathers t.2;
    }

pub returns-clause-view : goal.returns-clause-view
returns-clause-view g c = gathered g.T.Story c.args.self.now c.args.chairs.items c.loop-chair.chairs.items
    c.loop-chair.seat.me c.requires (none_left _ _ c.loop-chair.chairs.ok.0 c.in_default.ensures.cases.0)
    c.loop-chair.invariant.gathers
