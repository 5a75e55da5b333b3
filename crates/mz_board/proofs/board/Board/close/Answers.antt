use Rattle.std.proofs.Common.{ap, sym, ◌∙◌, subst, ◌<◌, drop, length, is_some}
use Rattle.std.specs.List.{All}
use Rattle.mz_board.specs.Invariant.{Fixed}
use Rattle.mz_board.proofs.CloseLemmas.{closes, out, out_setting, out_teaches, out_reached, out_owners}
use Rattle.mz_board.proofs.board.Board.close.Goals as goal

pub unwrap-requires : goal.unwrap-requires
unwrap-requires g c = let key = c.self.inside.table.shared.key in let story = g.T.Story in
    let closed = c.close_with-closed in
    let v = c.gather-seat.result.me.0 in let gathered = c.gather-seat.ensures.view in
    let xs = closed.result.slots.items in
    let fixed : Fixed _ = record {
      setting = story.setting key.value.value;
      seats = key.seats;
      opening = drop 3 key.words.value.items;
    } in
    let comes = closes story fixed c.gather-seat.result.id v _ xs gathered.idle
    (λ n lt. gathered.keeps n (subst (λ x. n < x) (ap (λ x. x.seats) c.self.view_is) lt)) closed.ensures.values.2
    in
    ap is_some (out story fixed v xs comes c.take-value.result c.take-value.ensures.value)

pub returns-clause-setting : goal.returns-clause-setting
returns-clause-setting g c = let key = c.self.inside.table.shared.key in let story = g.T.Story in
    let closed = c.close_with-closed in
    let v = c.gather-seat.result.me.0 in let gathered = c.gather-seat.ensures.view in
    let xs = closed.result.slots.items in
    let fixed : Fixed _ = record {
      setting = story.setting key.value.value;
      seats = key.seats;
      opening = drop 3 key.words.value.items;
    } in
    let comes = closes story fixed c.gather-seat.result.id v _ xs gathered.idle
    (λ n lt. gathered.keeps n (subst (λ x. n < x) (ap (λ x. x.seats) c.self.view_is) lt)) closed.ensures.values.2
    in
    ap (λ x. x.setting) (sym c.self.view_is)
    ∙ out_setting story fixed v xs comes c.take-value.result c.take-value.ensures.value c.unwrap.result
    c.unwrap.ensures

pub returns-clause-lists : goal.returns-clause-lists
returns-clause-lists g c = let key = c.self.inside.table.shared.key in let story = g.T.Story in
    let closed = c.close_with-closed in
    let v = c.gather-seat.result.me.0 in let gathered = c.gather-seat.ensures.view in
    let xs = closed.result.slots.items in
    let fixed : Fixed _ = record {
      setting = story.setting key.value.value;
      seats = key.seats;
      opening = drop 3 key.words.value.items;
    } in
    let comes = closes story fixed c.gather-seat.result.id v _ xs gathered.idle
    (λ n lt. gathered.keeps n (subst (λ x. n < x) (ap (λ x. x.seats) c.self.view_is) lt)) closed.ensures.values.2
    in
    gathered.teaches (story.entries c.unwrap.result)
    (out_teaches story fixed v xs comes c.take-value.result c.take-value.ensures.value c.unwrap.result
    c.unwrap.ensures)

pub returns-clause-reached : goal.returns-clause-reached
returns-clause-reached g c = let key = c.self.inside.table.shared.key in let story = g.T.Story in
    let closed = c.close_with-closed in
    let v = c.gather-seat.result.me.0 in let gathered = c.gather-seat.ensures.view in
    let xs = closed.result.slots.items in
    let fixed : Fixed _ = record {
      setting = story.setting key.value.value;
      seats = key.seats;
      opening = drop 3 key.words.value.items;
    } in
    let comes = closes story fixed c.gather-seat.result.id v _ xs gathered.idle
    (λ n lt. gathered.keeps n (subst (λ x. n < x) (ap (λ x. x.seats) c.self.view_is) lt)) closed.ensures.values.2
    in
    gathered.reached (length (story.entries c.unwrap.result))
    (out_reached story fixed v xs comes c.take-value.result c.take-value.ensures.value c.unwrap.result
    c.unwrap.ensures)

pub returns-clause-owners : goal.returns-clause-owners
returns-clause-owners g c = let key = c.self.inside.table.shared.key in let story = g.T.Story in
    let closed = c.close_with-closed in
    let v = c.gather-seat.result.me.0 in let gathered = c.gather-seat.ensures.view in
    let xs = closed.result.slots.items in
    let fixed : Fixed _ = record {
      setting = story.setting key.value.value;
      seats = key.seats;
      opening = drop 3 key.words.value.items;
    } in
    let comes = closes story fixed c.gather-seat.result.id v _ xs gathered.idle
    (λ n lt. gathered.keeps n (subst (λ x. n < x) (ap (λ x. x.seats) c.self.view_is) lt)) closed.ensures.values.2
    in
    subst (λ n. All (λ entry. story.owner entry < n) (story.entries c.unwrap.result))
    (ap (λ x. x.seats) c.self.view_is) (out_owners story fixed v xs comes c.take-value.result
    c.take-value.ensures.value c.unwrap.result c.unwrap.ensures)
