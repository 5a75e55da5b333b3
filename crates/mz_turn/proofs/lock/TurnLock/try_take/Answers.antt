use Rattle.std.proofs.Common.{◌≡◌, ap, sym, ◌∙◌, subst, arith, Some, ◌+◌, ◌∷◌}
use mathlib.Core.Option.{none}
use Rattle.atomic_table.specs.Table.{step, rest}
use Rattle.mz_turn.specs.Chair.{Takes, with_turn}
use Rattle.mz_turn.specs.Places.{chair_of}
use Rattle.mz_turn.proofs.TryLemmas.{chair_tries, measures}
use Rattle.mz_turn.proofs.ChairLemmas.{takes}
use Rattle.mz_turn.proofs.lock.TurnLock.try_take.Goals as goal

pub compare_exchange-found-requires : goal.compare_exchange-found-requires
compare_exchange-found-requires g c =
    let e = ap (λ x. x.lock) c.chair.view_is ∙ (c.requires.lock ∙ sym c.self.view_is) in let idle = ap (λ x. x.taken) c.chair.view_is ∙ c.requires.idle in let slots = c.self.inside.table.shared.table_id.slots in
    (ap (λ x. x.table) e, omega (arith, c.self.invariant.0), chair_tries g.T.Story.entries g.T.Story.owner g.T.Story.setting _ _ _ slots _ c.chair.inside.seat.me (step slots 0 0 (c.chair.inside.number + 1) none) c.chair.inside.number c.chair.inside.length c.chair.invariant idle (ap (λ x. x.setting) e) (ap (λ x. x.seats) e) (ap (λ x. x.opening) e))

pub exchange-value-requires : goal.exchange-value-requires
exchange-value-requires g c = let t = c.compare_exchange-found.ensures in let won = t.2.0 c.if-found-ne0.false in
    let e = ap (λ x. x.lock) c.chair.view_is ∙ (c.requires.lock ∙ sym c.self.view_is) in
    (t.0 ∙ ap (λ x. x.table) e, (Some won.value, won.out ∙ ap (λ l. (0, Some won.value) ∷ rest l) (sym won.out)))

pub load-length-requires : goal.load-length-requires
load-length-requires g c = let e = ap (λ x. x.lock) c.chair.view_is ∙ (c.requires.lock ∙ sym c.self.view_is) in let slots = c.self.inside.table.shared.table_id.slots in
    (c.exchange-value.ensures.0 ∙ (c.compare_exchange-found.ensures.0 ∙ ap (λ x. x.table) e), omega (arith, c.self.invariant.0), measures g.T.Story.entries g.T.Story.owner g.T.Story.setting _ _ _ slots _ c.exchange-value.new.seat.me (step slots 1 0 0 none))

pub returns : goal.returns
returns g c = let t = c.compare_exchange-found.ensures in let won = t.2.0 c.if-found-ne0.false in let x = c.exchange-value.ensures in let l = c.load-length.ensures in let idle = ap (λ x. x.taken) c.chair.view_is ∙ c.requires.idle in
    let seat = c.chair.inside.seat in let new = c.load-length.new.seat in let value = c.unwrap.result in
    let r = takes g.T.Story.entries g.T.Story.owner g.T.Story.setting c.chair.inside.number c.chair.inside.length c.load-length.result seat.me c.compare_exchange-found.new.seat.me c.exchange-value.new.seat.me new.me c.chair.invariant idle won c.exchange-value.result value x.2 x.3 l.2.0 l.2.1 c.unwrap.ensures seat.table_id in
    subst (λ ch. Takes g.T.Story.entries g.T.Story.owner g.T.Story.setting ch value × (chair_of new.table_id new.me.0 ≡ with_turn ch (g.T.Story.entries value))) c.chair.view_is
    (r.0, ap (λ t. chair_of t new.me.0) (l.0 ∙ (x.0 ∙ t.0)) ∙ r.1)
