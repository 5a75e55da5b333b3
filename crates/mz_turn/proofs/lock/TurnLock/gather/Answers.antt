use Rattle.std.proofs.Common.{◌≡◌, [], ap, sym, ◌∙◌, arith, map, None}
use mathlib.Core.Option.{none}
use Rattle.atomic_table.specs.Table.{step}
use Rattle.mz_turn.specs.Views.{spent_view}
use Rattle.mz_turn.proofs.ChairLemmas.{empty_hand}
use Rattle.mz_turn.proofs.NoteLemmas.{enters, joins}
use Rattle.mz_turn.proofs.CloseLemmas.{popped, last_held, none_left, gathers_more, gathered}
use Rattle.mz_turn.proofs.lock.TurnLock.gather.Goals as goal

pub load_new_seat-requires : goal.load_new_seat-requires
load_new_seat-requires g c = let slots = c.self.inside.table.shared.table_id.slots in
    (omega (arith, c.self.invariant.0), enters g.T.Story.entries g.T.Story.owner g.T.Story.setting _ _ _ slots (spent_view, []) (step slots 0 0 0 none))

pub join_seat-requires : goal.join_seat-requires
join_seat-requires g c = let lock = c.args.self.now in let i = c.loop-holder.invariant in let held = g.H.HoldsChair.chair in
    let last = popped (λ chair. (chair.lock ≡ lock) × (chair.taken ≡ None)) (map held c.loop-holder.holders.items) (map held c.pop.new.self.items) (held c.in-Some.holder)
    (last_held held _ _ _ c.in-Some.ensures.items) i.here in
    let is = c.chair.view_is ∙ c.into_chair-chair.ensures in
    let e = ap (λ x. x.lock) is ∙ (last.1.0 ∙ sym c.self.view_is) in let idle = ap (λ x. x.taken) is ∙ last.1.1 in (
      i.table ∙ ap (λ x. x.table) (sym c.self.view_is),
      ap (λ x. x.table) e,
      empty_hand g.T.Story.entries g.T.Story.owner g.T.Story.setting c.chair.inside.number c.chair.inside.length c.chair.inside.seat.me c.chair.invariant idle,
      omega (arith, c.self.invariant.0),
      joins g.T.Story.entries g.T.Story.owner g.T.Story.setting _ _ _ _ _ _ _ idle,
    )

pub loop-holder-preserved : goal.loop-holder-preserved
loop-holder-preserved g c = let lock = c.args.self.now in let i = c.loop-holder.invariant in let t = c.join_seat.ensures in let seat = c.chair.inside.seat in let held = g.H.HoldsChair.chair in
    let all = map held c.loop-holder.holders.items in let rest = map held c.pop.new.self.items in let more = last_held held _ _ _ c.in-Some.ensures.items in
    let last = popped (λ chair. (chair.lock ≡ lock) × (chair.taken ≡ None)) all rest (held c.in-Some.holder) more i.here in record {
      table = t.0 ∙ i.table;
      here = last.0;
      gathers = gathers_more g.T.Story.entries g.T.Story.owner g.T.Story.setting seat.table_id (map held c.args.holders.items) all rest (held c.in-Some.holder) c.chair.inside.number c.chair.inside.length c.loop-holder.seat.me c.join_seat.new.seat.me seat.me
          c.chair.invariant (c.chair.view_is ∙ c.into_chair-chair.ensures) more i.gathers t.2;
    }

pub returns-clause-view : goal.returns-clause-view
returns-clause-view g c = let held = g.H.HoldsChair.chair in
    gathered g.T.Story.entries g.T.Story.owner g.T.Story.setting c.args.self.now (map held c.args.holders.items) (map held c.loop-holder.holders.items) c.loop-holder.seat.me c.requires
    (ap (map held) (none_left _ _ c.loop-holder.holders.ok.0 c.in_default.ensures.cases.0)) c.loop-holder.invariant.gathers
