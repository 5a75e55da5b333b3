use Rattle.std.proofs.Common.{rules, ℕ, ◌<◌, ◌∙◌, ap, sym, subst, length, arith}
use Rattle.std.specs.List.{All}
use Rattle.std.proofs.lemmas.List.{length-map}
use Rattle.std.proofs.lemmas.List.Elements.{All-same}
use Rattle.mz_model.specs.Built.{greatest_part_of}
use Rattle.mz_model.specs.Parts.{unit_count, feature_count, target_at}
use Rattle.mz_num.specs.Places.{list_below}
use Rattle.mz_model.proofs.AmountLaws.{holders_of-in_range}
use Rattle.mz_model.proofs.BuildLaws.{row-read, touch_counts-done, touch_counts-more, touch_counts-start, touches_upto}
use Rattle.mz_num.proofs.PlaceLaws.{length-list_below}
use Rattle.mz_model.proofs.build.touch_counts.Goals as goal

pub loop-row-init : goal.loop-row-init
loop-row-init c = touch_counts-start c.args.parts.now _ c.in_ok-counts.counts.items c.len.ensures (c.in_ok-counts.ensures.items_if_clones_equal (search rules))

pub at-requires : goal.at-requires
at-requires c = (row-read c.args.parts.now c.loop-row.row c.as_slice.result.now c.args.holders.now c.requires.valid (omega (arith, c.len-row-end.ensures)) c.as_slice.ensures c.requires.holders).inside

pub count_touches-requires : goal.count_touches-requires
count_touches-requires c =
    let all : All (λ (holder : ℕ × ℕ). holder.0 < unit_count c.args.parts.now) c.at.result.now = All-same (λ (holder : ℕ × ℕ). holder.0 < unit_count c.args.parts.now) _ _ (c.at.ensures ∙ (row-read c.args.parts.now c.loop-row.row c.as_slice.result.now c.args.holders.now c.requires.valid (omega (arith, c.len-row-end.ensures)) c.as_slice.ensures c.requires.holders).holders_are) (holders_of-in_range c.args.parts.now.amounts (target_at c.args.parts.now c.loop-row.row).feature (unit_count c.args.parts.now) (feature_count c.args.parts.now) c.requires.valid.shape.amounts) in
    subst (λ n. All (λ (holder : ℕ × ℕ). holder.0 < n) c.at.result.now) (sym (ap length c.loop-row.invariant ∙ length-map (list_below (unit_count c.args.parts.now) (touches_upto c.args.parts.now c.loop-row.row)) length ∙ length-list_below (unit_count c.args.parts.now) (touches_upto c.args.parts.now c.loop-row.row))) all

pub loop-row-preserved : goal.loop-row-preserved
loop-row-preserved c =
    touch_counts-more c.args.parts.now c.loop-row.row c.greatest_part-part.result c.at.result.now c.loop-row.counts.items c.count_touches.new.counts.items c.requires.valid (omega (arith, c.len-row-end.ensures))
    (c.greatest_part-part.ensures ∙ ap (greatest_part_of c.args.parts.now) (row-read c.args.parts.now c.loop-row.row c.as_slice.result.now c.args.holders.now c.requires.valid (omega (arith, c.len-row-end.ensures)) c.as_slice.ensures c.requires.holders).target_is)
    (c.at.ensures ∙ (row-read c.args.parts.now c.loop-row.row c.as_slice.result.now c.args.holders.now c.requires.valid (omega (arith, c.len-row-end.ensures)) c.as_slice.ensures c.requires.holders).holders_are)
    c.loop-row.invariant c.in_ok-count_touches.ensures

pub returns : goal.returns
returns c = touch_counts-done c.args.parts.now c.loop-row.row c.loop-row.counts.items (omega (arith, c.len-row-end.ensures)) c.loop-row.invariant
