use Rattle.std.proofs.Common.{◌∙◌, ap, length, map, refl, sym}
use Rattle.mz_model.proofs.BuildLaws.{neighbours-next, neighbours-open, neighbours-start, neighbours-whole}
use Rattle.mz_model.proofs.build.neighbours_by_unit.Goals as goal

pub loop-first-init : goal.loop-first-init
loop-first-init c = neighbours-start c.args.parts.now c.as_slice.result.now c.in_ok-lists.lists (c.as_slice.ensures.value ∙ c.in_ok-counts.ensures) c.in_ok-lists.ensures

pub push-requires-clause-inside : goal.push-requires-clause-inside
push-requires-clause-inside c = (neighbours-open c.args.parts.now c.as_slice-edges.result.now c.loop-first.first-index c.loop-first.lists _ c.requires c.as_slice-edges.ensures c.loop-first-test.true c.loop-first.invariant refl).first_in

pub push-requires-clause-room : goal.push-requires-clause-room
push-requires-clause-room c = (neighbours-open c.args.parts.now c.as_slice-edges.result.now c.loop-first.first-index c.loop-first.lists _ c.requires c.as_slice-edges.ensures c.loop-first-test.true c.loop-first.invariant refl).first_room

pub push-requires-in-loop-first-clause-inside : goal.push-requires-in-loop-first-clause-inside
push-requires-in-loop-first-clause-inside c = (neighbours-open c.args.parts.now c.as_slice-edges.result.now c.loop-first.first-index c.loop-first.lists c.push.new.self c.requires c.as_slice-edges.ensures c.loop-first-test.true c.loop-first.invariant c.push.ensures).second_in

pub push-requires-in-loop-first-clause-room : goal.push-requires-in-loop-first-clause-room
push-requires-in-loop-first-clause-room c = (neighbours-open c.args.parts.now c.as_slice-edges.result.now c.loop-first.first-index c.loop-first.lists c.push.new.self c.requires c.as_slice-edges.ensures c.loop-first-test.true c.loop-first.invariant c.push.ensures).second_room

pub loop-first-preserved : goal.loop-first-preserved
loop-first-preserved c = neighbours-next c.args.parts.now c.as_slice-edges.result.now c.loop-first.first-index c.loop-first.lists c.push.new.self c.push-in-loop-first.new.self c.requires c.as_slice-edges.ensures c.loop-first-test.true c.loop-first.invariant c.push.ensures c.push-in-loop-first.ensures

pub full-requires : goal.full-requires
full-requires c = ap (λ ls. map length ls) (neighbours-whole c.args.parts.now c.as_slice-edges.result.now c.loop-first.first-index c.loop-first.lists c.as_slice-edges.ensures c.loop-first-test.false c.loop-first.invariant) ∙ sym c.loop-first.invariant.room

pub returns : goal.returns
returns c = c.full.ensures ∙ neighbours-whole c.args.parts.now c.as_slice-edges.result.now c.loop-first.first-index c.loop-first.lists c.as_slice-edges.ensures c.loop-first-test.false c.loop-first.invariant
