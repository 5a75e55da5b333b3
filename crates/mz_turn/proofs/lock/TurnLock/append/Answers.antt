use Rattle.std.proofs.Common.{ap, sym, ◌∙◌, subst, arith}
use mathlib.Core.Option.{none}
use Rattle.atomic_table.specs.Table.{step}
use Rattle.mz_turn.specs.Turn.{MayAppend}
use Rattle.mz_turn.proofs.BackLemmas.{seat_appends}
use Rattle.mz_turn.proofs.lock.TurnLock.append.Goals as goal

pub fetch_add-requires : goal.fetch_add-requires
fetch_add-requires g c = let slots = c.self.inside.table.shared.table_id.slots in (
  c.requires.lock.0 ∙ ap (λ x. x.table) (sym c.self.view_is),
  omega (arith, c.self.invariant.0),
  seat_appends g.T.Story.entries g.T.Story.owner g.T.Story.setting _ _ _ slots _ c.args.seat.now.me (step slots 1 1 0 none)
      (subst (λ b. MayAppend g.T.Story.entries g.T.Story.owner c.args.seat.now.me b) c.if-grew.true c.requires.may),
)
