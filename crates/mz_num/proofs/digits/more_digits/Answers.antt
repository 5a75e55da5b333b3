use Rattle.std.proofs.Common.{◌-◌, get_or, refl, sym, ◌∙◌, arith}
use Rattle.mz_num.proofs.DigitLemmas.{digits_step, value_step, room_step}
use Rattle.mz_num.proofs.digits.more_digits.Goals as goal

pub overflow_mul-number : goal.overflow_mul-number
overflow_mul-number c = omega (arith, (room_step c.args.text.now c.loop-byte.byte-index c.loop-byte.number (get_or c.args.text.now c.loop-byte.byte-index 0 - 48) _ c.loop-byte-test.true (sym c.if-not-is_ascii_digit.ensures.value) refl c.loop-byte.invariant.room).1)

pub overflow_add-number : goal.overflow_add-number
overflow_add-number c = omega (arith, (room_step c.args.text.now c.loop-byte.byte-index c.loop-byte.number c.from.result _ c.loop-byte-test.true (sym c.if-not-is_ascii_digit.ensures.value) c.from.ensures c.loop-byte.invariant.room).1)

pub loop-byte-preserved : goal.loop-byte-preserved
loop-byte-preserved c =
    let digit = sym c.if-not-is_ascii_digit.ensures.value in
    record {
      digits = digits_step c.args.text.now c.loop-byte.byte-index c.loop-byte-test.true digit ∙ c.loop-byte.invariant.digits;
      value = value_step c.args.text.now c.loop-byte.byte-index c.loop-byte.number c.from.result c.loop-byte-test.true digit c.from.ensures ∙ c.loop-byte.invariant.value;
      room = (room_step c.args.text.now c.loop-byte.byte-index c.loop-byte.number c.from.result _ c.loop-byte-test.true digit c.from.ensures c.loop-byte.invariant.room).0;
    }
