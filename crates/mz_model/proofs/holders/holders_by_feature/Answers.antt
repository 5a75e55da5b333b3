use Rattle.std.proofs.Common.{◌<◌, ◌∙◌, ap, ℕ, map, take, arith}
use Rattle.std.proofs.lemmas.List.Elements.{All-get_or}
use Rattle.mz_model.specs.Amounts.{holder_of}
use Rattle.mz_model.specs.Groups.{Filling}
use Rattle.mz_model.proofs.BuildLaws.{holders-done, holders-full, holders-more, holders-open, holders-start, length-empty-filled}
use Rattle.mz_model.proofs.holders.holders_by_feature.Goals as goal

pub loop-unit-init : goal.loop-unit-init
loop-unit-init c = holders-start c.args.features c.args.amounts.now c.as_slice.result.now c.in_ok-lists.lists (c.as_slice.ensures.value ∙ c.in_ok-counts.ensures) c.in_ok-lists.ensures

pub push-requires-clause-inside : goal.push-requires-clause-inside
push-requires-clause-inside c = omega (arith, All-get_or (λ (row : ℕ × ℕ × ℕ). row.1 < c.args.features) c.args.amounts.now c.loop-unit.unit-index (0, 0, 0) c.loop-unit-test.true c.requires, length-empty-filled c.args.features c.loop-unit.lists.lists (map holder_of (take c.loop-unit.unit-index c.args.amounts.now)) c.loop-unit.invariant.lists)

pub push-requires-clause-room : goal.push-requires-clause-room
push-requires-clause-room c = holders-open c.args.features c.args.amounts.now c.loop-unit.unit-index c.loop-unit.lists c.loop-unit.invariant c.loop-unit-test.true (All-get_or (λ (row : ℕ × ℕ × ℕ). row.1 < c.args.features) c.args.amounts.now c.loop-unit.unit-index (0, 0, 0) c.loop-unit-test.true c.requires)

pub loop-unit-preserved : goal.loop-unit-preserved
loop-unit-preserved c = record {
  lists = holders-more c.args.features c.args.amounts.now c.loop-unit.unit-index c.loop-unit.lists.lists c.push.new.self.lists c.loop-unit-test.true (All-get_or (λ (row : ℕ × ℕ × ℕ). row.1 < c.args.features) c.args.amounts.now c.loop-unit.unit-index (0, 0, 0) c.loop-unit-test.true c.requires) c.loop-unit.invariant.lists (ap (λ (v : Filling (ℕ × ℕ)). v.lists) c.push.ensures);
  room = ap (λ (v : Filling (ℕ × ℕ)). v.room) c.push.ensures ∙ c.loop-unit.invariant.room;
}

pub full-requires : goal.full-requires
full-requires c = holders-full c.args.features c.args.amounts.now c.loop-unit.unit-index c.loop-unit.lists c.loop-unit.invariant c.loop-unit-test.false

pub returns : goal.returns
returns c = c.full.ensures ∙ holders-done c.args.features c.args.amounts.now c.loop-unit.unit-index c.loop-unit.lists.lists c.loop-unit-test.false c.loop-unit.invariant.lists
