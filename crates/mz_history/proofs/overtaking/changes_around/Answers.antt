use Rattle.std.proofs.Common.{sym, ◌∙◌}
use Rattle.mz_history.proofs.OvertakingLemmas.{around-neighbour, around-own, around-refused, around-rows}
use Rattle.mz_history.proofs.overtaking.changes_around.Goals.{then-entry-unit-via-then-entry-unit, then-entry-unit-via-else-entry-unit+then-is_neighbour}
use Rattle.mz_history.proofs.overtaking.changes_around.Goals as goal

pub returns-then-not-entry : goal.returns-then-not-entry
returns-then-not-entry c = around-refused _ _ c.args.entry.now c.if-not-entry.true

pub returns-then-entry-unit : goal.returns-then-entry-unit
returns-then-entry-unit c = elim c.then-entry-unit.branch [
  | then-entry-unit-via-then-entry-unit w ↦ around-own _ _ c.args.entry.now c.if-not-entry.false w.if-entry-unit.true
  | then-entry-unit-via-else-entry-unit+then-is_neighbour w ↦ around-neighbour _ _ c.args.entry.now c.if-not-entry.false (sym w.is_neighbour.ensures ∙ w.if-is_neighbour.true)
]

pub returns : goal.returns
returns c = around-rows _ _ c.args.entry.now _ c.if-not-entry.false c.if-entry-unit.false (sym c.is_neighbour.ensures ∙ c.if-is_neighbour.false) c.changes_row.ensures
