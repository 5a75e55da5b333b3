use Rattle.std.proofs.Common.{◌≡◌, ap, sym, ◌∙◌, subst, arith, Some, ltb}
use mathlib.Core.Option.{none}
use Rattle.atomic_table.specs.Table.{step}
use Rattle.mz_turn.specs.Chair.{EndsTurn, without_turn}
use Rattle.mz_turn.specs.Places.{chair_of}
use Rattle.mz_turn.proofs.TurnLemmas.{may_append, settled, ended, ended_chair, ended_ok}
use Rattle.mz_turn.proofs.BackLemmas.{seat_releases, some_value}
use Rattle.mz_turn.proofs.lock.TurnLock.put_back.Goals as goal

pub append-requires-clause-may : goal.append-requires-clause-may
append-requires-clause-may g c κs within = let seat = c.chair.inside.seat in let size = c.chair.inside.length in
    may_append g.T.Story.entries g.T.Story.owner g.T.Story.setting seat.table_id c.chair.inside.number size seat.me c.exchange.new.seat.me c.chair.invariant c.args.value
    (subst (λ ch. EndsTurn g.T.Story.owner ch (g.T.Story.entries c.args.value)) (sym c.chair.view_is) c.requires.turn) c.exchange.ensures.3
    _ (ap (λ n. ltb size n) (sym c.length-length.ensures)) (omega (arith, c.length-length.ensures, c.length-length.type_inv))

pub swap-requires : goal.swap-requires
swap-requires g c = let e = ap (λ x. x.lock) c.chair.view_is ∙ (c.requires.lock ∙ sym c.self.view_is) in let slots = c.self.inside.table.shared.table_id.slots in
    let seat = c.chair.inside.seat in let size = c.chair.inside.length in let t = c.append.ensures in
    let ends = subst (λ ch. EndsTurn g.T.Story.owner ch (g.T.Story.entries c.args.value)) (sym c.chair.view_is) c.requires.turn in
    let is = ap (λ n. ltb size n) (sym c.length-length.ensures) in
    let may = may_append g.T.Story.entries g.T.Story.owner g.T.Story.setting seat.table_id c.chair.inside.number size seat.me c.exchange.new.seat.me c.chair.invariant c.args.value ends c.exchange.ensures.3 _ is (omega (arith, c.length-length.ensures, c.length-length.type_inv)) in
    let so = settled g.T.Story.entries g.T.Story.owner g.T.Story.setting seat.table_id c.chair.inside.number size seat.me c.exchange.new.seat.me c.chair.invariant c.args.value ends c.exchange.ensures.3 c.append.new.seat.me _ may is t.view in
    let known = ap (λ x. x.setting) c.self.view_is ∙ (ap (λ x. x.setting) (sym c.requires.lock) ∙ c.requires.setting) in
    (t.seat.0 ∙ (c.exchange.ensures.0 ∙ ap (λ x. x.table) e), omega (arith, c.self.invariant.0), seat_releases g.T.Story.entries g.T.Story.owner g.T.Story.setting _ _ _ slots _ c.append.new.seat.me c.args.value (step slots 0 0 0 none) so (some_value _ _ (sym known)))

pub returns-clause-now : goal.returns-clause-now
returns-clause-now g c = let seat = c.chair.inside.seat in let size = c.chair.inside.length in
    let ends = subst (λ ch. EndsTurn g.T.Story.owner ch (g.T.Story.entries c.args.value)) (sym c.chair.view_is) c.requires.turn in
    let d = ended g.T.Story.entries g.T.Story.owner g.T.Story.setting seat.table_id c.chair.inside.number size seat.me c.exchange.new.seat.me c.chair.invariant c.args.value ends c.exchange.ensures.3 c.append.new.seat.me c.swap.new.seat.me c.swap.ensures.2.0 c.swap.ensures.2.1 _ (ap (λ n. ltb size n) (sym c.length-length.ensures)) c.append.ensures.view in
    let new = c.swap.new.seat in let list = g.T.Story.entries c.args.value in
    subst (λ ch. chair_of new.table_id new.me.0 ≡ without_turn ch list) c.chair.view_is
    (ap (λ t. chair_of t new.me.0) (c.swap.ensures.0 ∙ (c.append.ensures.seat.0 ∙ c.exchange.ensures.0)) ∙ ended_chair g.T.Story.entries g.T.Story.owner g.T.Story.setting seat.table_id seat.me new.me c.args.value d)

pub returns-clause-whole : goal.returns-clause-whole
returns-clause-whole g c = let seat = c.chair.inside.seat in let size = c.chair.inside.length in
    let ends = subst (λ ch. EndsTurn g.T.Story.owner ch (g.T.Story.entries c.args.value)) (sym c.chair.view_is) c.requires.turn in
    let d = ended g.T.Story.entries g.T.Story.owner g.T.Story.setting seat.table_id c.chair.inside.number size seat.me c.exchange.new.seat.me c.chair.invariant c.args.value ends c.exchange.ensures.3 c.append.new.seat.me c.swap.new.seat.me c.swap.ensures.2.0 c.swap.ensures.2.1 _ (ap (λ n. ltb size n) (sym c.length-length.ensures)) c.append.ensures.view in
    subst (λ ch. ch.taken ≡ Some ch.seen) c.chair.view_is d.whole

pub invariant_of-chair : goal.invariant_of-chair
invariant_of-chair g c = let seat = c.chair.inside.seat in let size = c.chair.inside.length in
    let ends = subst (λ ch. EndsTurn g.T.Story.owner ch (g.T.Story.entries c.args.value)) (sym c.chair.view_is) c.requires.turn in
    let d = ended g.T.Story.entries g.T.Story.owner g.T.Story.setting seat.table_id c.chair.inside.number size seat.me c.exchange.new.seat.me c.chair.invariant c.args.value ends c.exchange.ensures.3 c.append.new.seat.me c.swap.new.seat.me c.swap.ensures.2.0 c.swap.ensures.2.1 _ (ap (λ n. ltb size n) (sym c.length-length.ensures)) c.append.ensures.view in
    ended_ok g.T.Story.entries g.T.Story.owner g.T.Story.setting seat.table_id c.chair.inside.number size seat.me c.swap.new.seat.me c.args.value c.chair.invariant ends d
