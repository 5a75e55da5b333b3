use Rattle.std.proofs.Common.{sym, arith}
use Rattle.mz_num.proofs.ScaleLemmas.{too_great_power, too_great_number, at_most-great}
use Rattle.mz_num.proofs.scale.raised_by.Goals as goal
use Rattle.mz_num.proofs.scale.raised_by.Goals.{then-places-gt18-via-then-places-gt18, then-places-gt18-via-else-places-gt18+then-number-gt-GREATEST}

pub returns-then-places-gt18 : goal.returns-then-places-gt18
returns-then-places-gt18 c =
    elim c.then-places-gt18.branch [
      | then-places-gt18-via-then-places-gt18 w ↦ sym (at_most-great _ _ (too_great_power c.args.number c.args.places c.requires w.if-places-gt18.true))
      | then-places-gt18-via-else-places-gt18+then-number-gt-GREATEST w ↦ sym (at_most-great _ _ (too_great_number c.args.number c.args.places (omega arith)))
    ]
