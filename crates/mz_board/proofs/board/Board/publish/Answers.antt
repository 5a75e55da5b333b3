use Rattle.std.proofs.Common.{ap, sym, ◌∙◌, arith}
use mathlib.Core.Option.{none}
use Rattle.atomic_table.specs.Table.{step}
use Rattle.mz_board.proofs.HolderLemmas.{seat_publishes}
use Rattle.mz_board.proofs.board.Board.publish.Goals as goal

pub swap-requires : goal.swap-requires
swap-requires g c = let slots = c.self.inside.table.shared.table_id.slots in let n = c.in-Some.front in (
  c.requires.lock ∙ ap (λ x. x.table) (sym c.self.view_is),
  omega (arith, c.self.invariant.0),
  seat_publishes g.T.Story _ slots _ n c.args.seat.now.me (step slots 2 n 0 none) c.args.front c.requires.may
      c.in-Some.is,
)
