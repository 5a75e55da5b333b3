use Rattle.std.proofs.Common.{ap, sym, ◌∙◌, arith}
use mathlib.Core.Option.{none}
use Rattle.atomic_table.specs.Table.{step}
use Rattle.mz_board.proofs.LookLemmas.{fronts}
use Rattle.mz_board.proofs.board.Board.load_front.Goals as goal

pub load-requires : goal.load-requires
load-requires g c = let e = ap (λ x. x.lock) c.chair.view_is ∙ (c.requires.lock ∙ sym c.self.view_is) in
    let slots = c.self.inside.table.shared.table_id.slots in (
      ap (λ x. x.table) e,
      omega (arith, c.self.invariant.0),
      fronts g.T.Story _ slots _ c.chair.inside.seat.me (step slots 2 0 0 none) (ap (λ x. x.taken) c.chair.view_is
          ∙ c.requires.idle),
    )
