use Rattle.std.proofs.Common.{ap, sym, ◌∙◌, subst, ◌<◌, is_some}
use Rattle.mz_turn.specs.Seen.{GrewByChairs}
use Rattle.mz_turn.specs.Chair.{LockId}
use Rattle.mz_turn.proofs.CloseLemmas.{closes, out, out_setting, out_teaches, out_added}
use Rattle.mz_turn.proofs.lock.TurnLock.close_over.Goals as goal

pub unwrap-requires : goal.unwrap-requires
unwrap-requires g c = let key = c.self.inside.table.shared.key in let entries = g.T.Story.entries in let owner = g.T.Story.owner in let setting = g.T.Story.setting in let closed = c.close_with-closed in
    let v = c.gather-seat.result.me.0 in let gathered = c.gather-seat.ensures.view in let xs = closed.result.slots.items in
    let comes = closes entries owner setting (entries key.value.value) (setting key.value.value) key.seats c.gather-seat.result.id v _ xs gathered.idle (λ n lt. gathered.keeps n (subst (λ x. n < x) (ap (λ x. x.seats) c.self.view_is) lt)) closed.ensures.values.2 in
    ap is_some (out entries owner setting _ _ _ v xs comes c.take-value.result c.take-value.ensures.value)

pub returns-clause-setting : goal.returns-clause-setting
returns-clause-setting g c = let key = c.self.inside.table.shared.key in let entries = g.T.Story.entries in let owner = g.T.Story.owner in let setting = g.T.Story.setting in let closed = c.close_with-closed in
    let v = c.gather-seat.result.me.0 in let gathered = c.gather-seat.ensures.view in let xs = closed.result.slots.items in
    let comes = closes entries owner setting (entries key.value.value) (setting key.value.value) key.seats c.gather-seat.result.id v _ xs gathered.idle (λ n lt. gathered.keeps n (subst (λ x. n < x) (ap (λ x. x.seats) c.self.view_is) lt)) closed.ensures.values.2 in
    ap (λ x. x.setting) (sym c.self.view_is) ∙ out_setting entries owner setting _ _ _ v xs comes c.take-value.result c.take-value.ensures.value c.unwrap.result c.unwrap.ensures

pub returns-clause-lists : goal.returns-clause-lists
returns-clause-lists g c = let key = c.self.inside.table.shared.key in let entries = g.T.Story.entries in let owner = g.T.Story.owner in let setting = g.T.Story.setting in let closed = c.close_with-closed in
    let v = c.gather-seat.result.me.0 in let gathered = c.gather-seat.ensures.view in let xs = closed.result.slots.items in
    let comes = closes entries owner setting (entries key.value.value) (setting key.value.value) key.seats c.gather-seat.result.id v _ xs gathered.idle (λ n lt. gathered.keeps n (subst (λ x. n < x) (ap (λ x. x.seats) c.self.view_is) lt)) closed.ensures.values.2 in
    gathered.teaches (entries c.unwrap.result) (out_teaches entries owner setting _ _ _ v xs comes c.take-value.result c.take-value.ensures.value c.unwrap.result c.unwrap.ensures)

pub returns-clause-added : goal.returns-clause-added
returns-clause-added g c = let key = c.self.inside.table.shared.key in let entries = g.T.Story.entries in let owner = g.T.Story.owner in let setting = g.T.Story.setting in let closed = c.close_with-closed in
    let v = c.gather-seat.result.me.0 in let gathered = c.gather-seat.ensures.view in let xs = closed.result.slots.items in
    let comes = closes entries owner setting (entries key.value.value) (setting key.value.value) key.seats c.gather-seat.result.id v _ xs gathered.idle (λ n lt. gathered.keeps n (subst (λ x. n < x) (ap (λ x. x.seats) c.self.view_is) lt)) closed.ensures.values.2 in
    subst (λ (lock : LockId _ _). GrewByChairs owner lock.seats lock.opening (entries c.unwrap.result)) c.self.view_is
    (out_added entries owner setting _ _ _ v xs comes c.take-value.result c.take-value.ensures.value c.unwrap.result c.unwrap.ensures)
