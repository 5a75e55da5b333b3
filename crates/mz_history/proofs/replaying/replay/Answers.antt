use Rattle.std.proofs.Common.{◌<◌, ◌≡◌, length, arith, refl, ◌∙◌, take}
use Rattle.std.specs.Prelude.{slice_index}
use Rattle.std.proofs.lemmas.List.Elements.{All-get_or}
use Rattle.mz_history.specs.Rules.{setting_with}
use Rattle.mz_history.proofs.HistoryLaws.{turn-entry}
use Rattle.mz_history.proofs.ReplayLemmas.{drawer-at, drawer-left, drawer-whole, plays-more, plays-next, plays-none, replayed, taken-few}
use Rattle.mz_history.proofs.replaying.replay.Goals as goal

pub loop-seat-init : goal.loop-seat-init
loop-seat-init c = plays-none _ _ _ _ _ c.in_ok-entries.ensures.items c.in_ok-plan.ensures.plan c.in_ok-plan.ensures.legal c.evaluate-score.ensures.score c.evaluate-score.ensures.small c.in_ok-drawers.ensures

pub next-draw-requires-clause-whole : goal.next-draw-requires-clause-whole
next-draw-requires-clause-whole c =
    let seat = slice_index c.args.turns.now c.loop-seat.seat-index in let turns = take c.loop-seat.seat-index c.args.turns.now in
    let within : seat < 60 = All-get_or (λ turn. turn < 60) c.args.turns.now c.loop-seat.seat-index 0 c.loop-seat-test.true c.requires.seats in
    let stands = c.index_mut.ensures.value ∙ drawer-at c.args.seed c.args.run seat turns c.loop-seat.drawers.items _ c.loop-seat.invariant.drawers_are within in
    drawer-whole c.args.seed c.args.run seat turns _ stands

pub next-draw-requires-clause-left : goal.next-draw-requires-clause-left
next-draw-requires-clause-left c =
    let seat = slice_index c.args.turns.now c.loop-seat.seat-index in let turns = take c.loop-seat.seat-index c.args.turns.now in
    let within : seat < 60 = All-get_or (λ turn. turn < 60) c.args.turns.now c.loop-seat.seat-index 0 c.loop-seat-test.true c.requires.seats in
    let stands = c.index_mut.ensures.value ∙ drawer-at c.args.seed c.args.run seat turns c.loop-seat.drawers.items _ c.loop-seat.invariant.drawers_are within in
    drawer-left c.args.seed c.args.run seat turns _ stands (taken-few c.args.turns.now c.loop-seat.seat-index c.args.rules.now.limit 10000000 c.requires.few c.requires.rules.few)

pub loop-seat-preserved : goal.loop-seat-preserved
loop-seat-preserved c =
    let s = setting_with c.args.problem.now c.args.rules.now c.args.seed c.args.run in
    let seat = slice_index c.args.turns.now c.loop-seat.seat-index in let turns = take c.loop-seat.seat-index c.args.turns.now in
    let within : seat < 60 = All-get_or (λ turn. turn < 60) c.args.turns.now c.loop-seat.seat-index 0 c.loop-seat-test.true c.requires.seats in
    let stands = c.index_mut.ensures.value ∙ drawer-at c.args.seed c.args.run seat turns c.loop-seat.drawers.items _ c.loop-seat.invariant.drawers_are within in
    let place : c.len-position.result ≡ length turns = omega (arith, c.len-position.ensures, c.loop-seat.entries.ok.0, c.loop-seat.invariant.as_many) in
    plays-next s c.args.turns.now c.loop-seat.seat-index 0 _ _ _ _ c.loop-seat-test.true
    (plays-more s turns seat _ _ _ _ _ _ _ _ c.decide-entry.result _ c.next-draw.new.self c.loop-seat.invariant
    (record {
      entry_is = turn-entry s turns _ _ _ _ seat _ _ _ c.loop-seat.invariant.plan_is place stands c.free.ensures.units c.counts.ensures.counts c.next-draw.ensures.drawn c.decide-entry.ensures.entry;
      plan_is = c.decide-entry.ensures.plan;
      legal = c.decide-entry.ensures.stays_legal;
      score_is = c.decide-entry.ensures.new_score;
      small = c.decide-entry.ensures.stays_small;
    })
    c.in_ok-push.ensures.items within stands c.next-draw.ensures.taken refl)

pub returns : goal.returns
returns c = replayed _ _ c.loop-seat.seat-index _ _ _ _ (omega (arith, c.loop-seat-test.false, c.loop-seat.auto.seat-index-end)) c.loop-seat.invariant
