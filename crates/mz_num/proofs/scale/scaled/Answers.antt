use Rattle.std.proofs.Common.{sym, ap, ◌∙◌, arith}
use Rattle.mz_num.specs.NumberText.{at_most, scaled_value}
use Rattle.mz_num.proofs.ScaleLemmas.{value_zero, value_raised, value_lowered, at_most-small}
use Rattle.mz_num.proofs.scale.scaled.Goals as goal

pub returns-then-number-eq0 : goal.returns-then-number-eq0
returns-then-number-eq0 c = sym (at_most-small _ _ 0 (omega arith) (ap (scaled_value c.args.scale) (sym c.number.view_is) ∙ value_zero c.args.scale _ c.if-number-eq0.true))

pub returns-then-raised-number : goal.returns-then-raised-number
returns-then-raised-number c = c.lowered_by.ensures ∙ sym (ap (at_most _) (ap (scaled_value c.args.scale) (sym c.number.view_is) ∙ value_lowered c.args.scale _ _ (omega arith)))

pub returns-else-raised-number : goal.returns-else-raised-number
returns-else-raised-number c = c.raised_by.ensures ∙ sym (ap (at_most _) (ap (scaled_value c.args.scale) (sym c.number.view_is) ∙ value_raised c.args.scale _ _ (omega arith)))
