use Rattle.std.proofs.Common.{ap, sym, ◌∙◌, subst, arith}
use mathlib.Core.Option.{none}
use Rattle.atomic_table.specs.Table.{step}
use Rattle.mz_turn.specs.Chair.{Learns}
use Rattle.mz_turn.proofs.CountLemmas.{counts, counted_ok}
use Rattle.mz_turn.proofs.ChairLemmas.{learns}
use Rattle.mz_turn.proofs.lock.TurnLock.count.Goals as goal

pub load-requires : goal.load-requires
load-requires g c = let e = ap (λ x. x.lock) c.chair.view_is ∙ (c.requires ∙ sym c.self.view_is) in let slots = c.self.inside.table.shared.table_id.slots in
    (ap (λ x. x.table) e, omega (arith, c.self.invariant.0), counts g.T.Story.entries g.T.Story.owner g.T.Story.setting _ _ _ slots _ c.chair.inside.seat.me (step slots 1 0 0 none) c.chair.invariant.view)

pub invariant_of-chair : goal.invariant_of-chair
invariant_of-chair g c = let t = c.load.ensures.2 in counted_ok c.chair.inside.number c.chair.inside.length c.chair.inside.seat.me _ c.chair.invariant t.0 (λ taken e. (t.3 taken e).0)

pub returns-clause-learns : goal.returns-clause-learns
returns-clause-learns g c = let t = c.load.ensures.2 in
    subst (λ ch. Learns g.T.Story.owner ch ch.seen) c.chair.view_is (learns g.T.Story.entries g.T.Story.owner g.T.Story.setting _ _ _ c.chair.invariant.view t.2)
