use Rattle.std.proofs.Common.{ap, sym, ◌∙◌, subst, arith}
use mathlib.Core.Option.{none}
use Rattle.atomic_table.specs.Table.{step}
use Rattle.mz_board.specs.Chair.{Learns}
use Rattle.mz_board.proofs.LookLemmas.{counts}
use Rattle.mz_board.proofs.ChairLemmas.{learns}
use Rattle.mz_board.proofs.board.Board.count.Goals as goal

pub load-requires : goal.load-requires
load-requires g c = let e = ap (λ x. x.lock) c.chair.view_is ∙ (c.requires ∙ sym c.self.view_is) in
    let slots = c.self.inside.table.shared.table_id.slots in (
      ap (λ x. x.table) e,
      omega (arith, c.self.invariant.0),
      counts g.T.Story _ slots _ c.chair.inside.seat.me (step slots 1 0 0 none) c.chair.invariant.view,
    )

pub returns-clause-learns : goal.returns-clause-learns
returns-clause-learns g c = let t = c.load.ensures.2 in
    subst (λ ch. Learns g.T.Story.owner ch ch.seen) c.chair.view_is
    (learns g.T.Story _ _ _ c.chair.invariant.view t.2)
