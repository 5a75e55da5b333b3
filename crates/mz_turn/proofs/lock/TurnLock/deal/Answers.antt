use Rattle.std.proofs.Common.{[], ap, sym, ◌∙◌, arith, ◌<◌}
use Rattle.mz_turn.specs.Views.{dealing_view, dealt_view}
use Rattle.mz_turn.proofs.OpeningLemmas.{seat_deals, deal_left, dealt_ok, dealt_fresh}
use Rattle.mz_turn.proofs.FreshLemmas.{fresh_more}
use Rattle.mz_turn.proofs.lock.TurnLock.deal.Goals as goal

pub split_seat-dealt-requires : goal.split_seat-dealt-requires
split_seat-dealt-requires g c = let i = c.loop-number.invariant in let lock = c.args.self.now in let n = c.loop-number.number in let lt : n < lock.seats = omega (arith, c.loop-number-test.true, c.requires.lock.1) in (
  i.table ∙ (c.requires.lock.0 ∙ ap (λ x. x.table) (sym c.self.view_is)),
  omega (arith, c.self.invariant.0),
  seat_deals g.T.Story.entries g.T.Story.owner g.T.Story.setting _ _ _ _ _ lock n (ap (λ m. m.0) i.seat) lt,
)

pub invariant_of-push_reserved : goal.invariant_of-push_reserved
invariant_of-push_reserved g c = let i = c.loop-number.invariant in let lock = c.args.self.now in let n = c.loop-number.number in let lt : n < lock.seats = omega (arith, c.loop-number-test.true, c.requires.lock.1) in
    dealt_ok lock n lt c.split_seat-dealt.result.me (c.split_seat-dealt.ensures.4 ∙ ap (λ m. (dealt_view m.0, [])) i.seat)

pub loop-number-preserved : goal.loop-number-preserved
loop-number-preserved g c = let i = c.loop-number.invariant in let h = c.split_seat-dealt.ensures in let p = c.push_reserved.ensures in
    let lock = c.args.self.now in let n = c.loop-number.number in let lt : n < lock.seats = omega (arith, c.loop-number-test.true, c.requires.lock.1) in let new = c.split_seat-dealt.result in record {
      table = h.0 ∙ i.table;
      seat = h.2 ∙ (ap (λ m. (dealing_view m.0, m.1)) i.seat ∙ ap (λ v. (v, [])) (deal_left lock n lt));
      room = omega (arith, i.room, p.capacity);
      chairs = fresh_more lock n c.loop-number.chairs.items _ _ i.chairs (dealt_fresh lock n lt new.me (h.4 ∙ ap (λ m. (dealt_view m.0, [])) i.seat) new.table_id (h.3 ∙ (i.table ∙ c.requires.lock.0))) p.items;
    }
