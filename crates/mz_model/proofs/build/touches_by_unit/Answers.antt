use Rattle.std.proofs.Common.{ℕ, ◌<◌, ◌∙◌, ap, sym, subst, length, map, arith}
use Rattle.std.specs.List.{All}
use Rattle.std.proofs.lemmas.List.Elements.{All-same}
use Rattle.mz_model.specs.Built.{greatest_part_of}
use Rattle.mz_model.specs.Parts.{unit_count, feature_count, target_at}
use Rattle.mz_model.proofs.AmountLaws.{holders_of-in_range}
use Rattle.mz_model.proofs.BuildLaws.{length-touches, row-read, touches-next, touches-room, touches-start, touches-whole}
use Rattle.mz_model.proofs.build.touches_by_unit.Goals as goal

pub loop-row-init : goal.loop-row-init
loop-row-init c = touches-start c.args.parts.now c.as_slice.result.now c.in_ok-lists.lists (c.as_slice.ensures.value ∙ c.in_ok-counts.ensures) c.in_ok-lists.ensures

pub at-requires : goal.at-requires
at-requires c = (row-read c.args.parts.now c.loop-row.row c.as_slice-in-loop-row.result.now c.args.holders.now c.requires.valid (omega (arith, c.len-row-end.ensures)) c.as_slice-in-loop-row.ensures c.requires.holders).inside

pub add_touches-requires-clause-inside : goal.add_touches-requires-clause-inside
add_touches-requires-clause-inside c =
    let all : All (λ (holder : ℕ × ℕ). holder.0 < unit_count c.args.parts.now) c.at.result.now = All-same (λ (holder : ℕ × ℕ). holder.0 < unit_count c.args.parts.now) _ _ (c.at.ensures ∙ (row-read c.args.parts.now c.loop-row.row c.as_slice-in-loop-row.result.now c.args.holders.now c.requires.valid (omega (arith, c.len-row-end.ensures)) c.as_slice-in-loop-row.ensures c.requires.holders).holders_are) (holders_of-in_range c.args.parts.now.amounts (target_at c.args.parts.now c.loop-row.row).feature (unit_count c.args.parts.now) (feature_count c.args.parts.now) c.requires.valid.shape.amounts) in
    subst (λ n. All (λ (holder : ℕ × ℕ). holder.0 < n) c.at.result.now) (sym (length-touches c.args.parts.now c.loop-row.row c.loop-row.lists c.loop-row.invariant)) all

pub add_touches-requires-clause-room : goal.add_touches-requires-clause-room
add_touches-requires-clause-room c =
    touches-room c.args.parts.now c.loop-row.row c.greatest_part-part.result c.at.result.now c.loop-row.lists c.requires.valid (omega (arith, c.len-row-end.ensures))
    (c.greatest_part-part.ensures ∙ ap (greatest_part_of c.args.parts.now) (row-read c.args.parts.now c.loop-row.row c.as_slice-in-loop-row.result.now c.args.holders.now c.requires.valid (omega (arith, c.len-row-end.ensures)) c.as_slice-in-loop-row.ensures c.requires.holders).target_is)
    (c.at.ensures ∙ (row-read c.args.parts.now c.loop-row.row c.as_slice-in-loop-row.result.now c.args.holders.now c.requires.valid (omega (arith, c.len-row-end.ensures)) c.as_slice-in-loop-row.ensures c.requires.holders).holders_are)
    c.loop-row.invariant

pub loop-row-preserved : goal.loop-row-preserved
loop-row-preserved c =
    touches-next c.args.parts.now c.loop-row.row c.greatest_part-part.result c.at.result.now c.loop-row.lists c.add_touches.new.lists c.requires.valid (omega (arith, c.len-row-end.ensures))
    (c.greatest_part-part.ensures ∙ ap (greatest_part_of c.args.parts.now) (row-read c.args.parts.now c.loop-row.row c.as_slice-in-loop-row.result.now c.args.holders.now c.requires.valid (omega (arith, c.len-row-end.ensures)) c.as_slice-in-loop-row.ensures c.requires.holders).target_is)
    (c.at.ensures ∙ (row-read c.args.parts.now c.loop-row.row c.as_slice-in-loop-row.result.now c.args.holders.now c.requires.valid (omega (arith, c.len-row-end.ensures)) c.as_slice-in-loop-row.ensures c.requires.holders).holders_are)
    c.loop-row.invariant c.add_touches.ensures

pub full-requires : goal.full-requires
full-requires c = ap (λ ls. map length ls) (touches-whole c.args.parts.now c.loop-row.row c.loop-row.lists (omega (arith, c.len-row-end.ensures)) c.loop-row.invariant) ∙ sym c.loop-row.invariant.room

pub returns : goal.returns
returns c = c.full.ensures ∙ touches-whole c.args.parts.now c.loop-row.row c.loop-row.lists (omega (arith, c.len-row-end.ensures)) c.loop-row.invariant
