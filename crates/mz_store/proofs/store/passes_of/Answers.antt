use Rattle.std.proofs.Common.{◌≡◌, ◌<◌, get_or, length, refl, arith, rules, ap, ◌∙◌}
use Rattle.std.proofs.lemmas.Iterator.Adapters.{YieldsList-from_vec}
use Rattle.std.proofs.lemmas.Iterator.Consumers.{YieldsList-end, YieldsList-turn}
use Rattle.mz_num.proofs.PlaceLaws.{length-list_below}
use Rattle.mz_store.specs.Pass.{fresh_pass}
use Rattle.mz_store.proofs.OpenLaws.{all-passes, made-pass, more-passes}
use Rattle.mz_store.proofs.store.passes_of.Goals as goal

pub overflow_cast-seat : goal.overflow_cast-seat
overflow_cast-seat c =
    let turn : (length c.loop-chair.yielded < length c.args.chairs.items) × (c.in-Some.chair ≡ get_or c.args.chairs.items (length c.loop-chair.yielded) c.in-Some.chair) =
    YieldsList-turn (YieldsList-from_vec c.args.chairs.items (search rules) (search rules)) c.loop-chair.yielded _ c.loop-chair.yielded_by _ c.next.new.self c.in-Some.chair c.in-Some.is c.next.ensures.steps in
    omega (arith, turn.0, c.requires.chairs.count, c.len-seat.ensures, c.loop-chair.passes.ok.0, ap length c.loop-chair.invariant.2, length-list_below (length c.loop-chair.yielded) (fresh_pass c.args.board.now))

pub invariant_of-push : goal.invariant_of-push
invariant_of-push c =
    let turn : (length c.loop-chair.yielded < length c.args.chairs.items) × (c.in-Some.chair ≡ get_or c.args.chairs.items (length c.loop-chair.yielded) c.in-Some.chair) =
    YieldsList-turn (YieldsList-from_vec c.args.chairs.items (search rules) (search rules)) c.loop-chair.yielded _ c.loop-chair.yielded_by _ c.next.new.self c.in-Some.chair c.in-Some.is c.next.ensures.steps in
    made-pass c.args.board.now c.args.seats (length c.loop-chair.yielded) c.len-seat.result c.args.chairs.items c.in-Some.chair _ c.requires.chairs turn.0 turn.1
    (omega (arith, c.len-seat.ensures, c.loop-chair.passes.ok.0, ap length c.loop-chair.invariant.2, length-list_below (length c.loop-chair.yielded) (fresh_pass c.args.board.now))) c.requires.seats (omega (arith, c.in_ok-room.ensures.capacity)) (ap length c.in_ok-room.ensures.items)

pub loop-chair-preserved : goal.loop-chair-preserved
loop-chair-preserved c =
    let turn : (length c.loop-chair.yielded < length c.args.chairs.items) × (c.in-Some.chair ≡ get_or c.args.chairs.items (length c.loop-chair.yielded) c.in-Some.chair) =
    YieldsList-turn (YieldsList-from_vec c.args.chairs.items (search rules) (search rules)) c.loop-chair.yielded _ c.loop-chair.yielded_by _ c.next.new.self c.in-Some.chair c.in-Some.is c.next.ensures.steps in
    (tt, tt, more-passes c.args.board.now c.args.seats (length c.loop-chair.yielded) c.args.chairs.items c.loop-chair.yielded c.in-Some.chair c.loop-chair.passes.items _ c.requires.chairs turn.0 turn.1 refl c.loop-chair.invariant.2 c.in_ok-push.ensures.items)

pub returns : goal.returns
returns c =
    let done = YieldsList-end (YieldsList-from_vec c.args.chairs.items (search rules) (search rules)) c.loop-chair.yielded _ c.loop-chair.yielded_by _ c.next.new.self c.in-None.is c.next.ensures.steps in
    all-passes c.args.board.now c.args.seats (length c.loop-chair.yielded) c.loop-chair.passes.items (done.1 ∙ c.requires.chairs.count) c.loop-chair.invariant.2
