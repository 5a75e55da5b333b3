use Rattle.std.proofs.Common.{[], ap, arith, ◌++◌, ◌∙◌, ◌∷◌}
use Rattle.mz_store.proofs.LeaveLaws.{gathers-all, gathers-first, gathers-more, nil-of}
use Rattle.mz_store.proofs.store.leaves.gather.Goals as goal

pub loop-pass-init : goal.loop-pass-init
loop-pass-init c = gathers-first c.args.board.now c.args.passes.items c.pop.new.self.items c.last.inside.chair _ c.last.inside.seat c.last.inside.number c.last.inside.reached _ _ _ c.in-Some.last
    c.requires.here c.requires.few c.in-Some.ensures.items c.last.invariant c.last.view_is
    (c.push_reserved.ensures.items ∙ ap (λ chairs. chairs ++ c.last.inside.chair ∷ []) (nil-of c.last.inside.room.items c.last.invariant.unused)) (omega (arith, c.push_reserved.ensures.capacity))

pub loop-pass-preserved : goal.loop-pass-preserved
loop-pass-preserved c = gathers-more c.args.board.now c.args.passes.items c.loop-pass.passes.items c.pop-in-loop-pass.new.self.items c.pass.inside.chair c.loop-pass.chairs.items _ c.pass.inside.seat c.pass.inside.number c.pass.inside.reached _ _ _ _ c.in-Some-pop.pass
    c.loop-pass.invariant c.in-Some-pop.ensures.items c.pass.invariant c.pass.view_is c.push_reserved-in-Some-pop.ensures.items c.push_reserved-in-Some-pop.ensures.capacity

pub returns : goal.returns
returns c = gathers-all c.args.board.now c.args.passes.items c.loop-pass.passes.items c.loop-pass.chairs.items _ c.loop-pass.invariant
    (nil-of c.loop-pass.passes.items (omega (arith, c.in_default-pop.ensures.cases.0, c.loop-pass.passes.ok.0)))
