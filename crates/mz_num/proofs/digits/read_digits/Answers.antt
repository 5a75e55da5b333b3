use Rattle.std.proofs.Common.{length, arith}
use Rattle.mz_num.proofs.DigitLemmas.{power_fits, small_digits}
use Rattle.mz_num.proofs.digits.read_digits.Goals as goal

pub more_digits-requires : goal.more_digits-requires
more_digits-requires c = power_fits (length c.args.text.now) 38 (omega arith)

pub returns-clause-small : goal.returns-clause-small
returns-clause-small c = small_digits c.more_digits.result (length c.args.text.now) c.args.most c.if-text-most.false c.more_digits.ensures.small
