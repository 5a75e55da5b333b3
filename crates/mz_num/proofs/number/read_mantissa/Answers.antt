use Rattle.std.proofs.Common.{length, sym, ◌∙◌, arith}
use Rattle.mz_num.proofs.DigitLemmas.{power_fits, product_fits, digits_number-first_none, digits_number-append, small_product}
use Rattle.mz_num.proofs.number.read_mantissa.Goals as goal

pub more_digits-requires : goal.more_digits-requires
more_digits-requires c = power_fits (length c.args.whole.now) 38 (omega arith)

pub returns-in_err-more_digits-clause-number : goal.returns-in_err-more_digits-clause-number
returns-in_err-more_digits-clause-number c = c.from_residual.ensures ∙ sym (digits_number-first_none c.args.whole.now c.args.fraction.now (sym c.in_err-more_digits.ensures.number))

pub more_digits-requires-2 : goal.more_digits-requires-2
more_digits-requires-2 c = product_fits _ (length c.args.whole.now) _ (omega arith) c.in_ok-more_digits.ensures.small

pub returns-clause-number : goal.returns-clause-number
returns-clause-number c = c.more_digits-2.ensures.number ∙ digits_number-append c.args.whole.now c.args.fraction.now _ (omega arith) (omega arith) (sym c.in_ok-more_digits.ensures.number)

pub returns-clause-small : goal.returns-clause-small
returns-clause-small c = small_product _ _ (length c.args.whole.now) _ (omega arith) c.in_ok-more_digits.ensures.small c.more_digits-2.ensures.small
