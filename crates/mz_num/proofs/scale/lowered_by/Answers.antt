use Rattle.std.proofs.Common.{◌^◌, ◌≤◌, sym, arith}
use Rattle.std.proofs.Math.Nat.{one-le-pow, pow-le-pow_right}
use Rattle.mz_num.proofs.ScaleLemmas.{too_low, at_most-small}
use Rattle.mz_num.proofs.scale.lowered_by.Goals as goal

pub returns-then-places-gt38 : goal.returns-then-places-gt38
returns-then-places-gt38 c = sym (at_most-small _ _ 0 (omega arith) (too_low c.args.number c.args.places c.requires c.if-places-gt38.true))

pub pow-divisor-requires : goal.pow-divisor-requires
pow-divisor-requires c = let fits : 10 ^ c.args.places ≤ 10 ^ 38 = pow-le-pow_right (omega arith) c.if-places-gt38.false in omega arith

pub overflow_add-number : goal.overflow_add-number
overflow_add-number c = let fits : 10 ^ c.args.places ≤ 10 ^ 38 = pow-le-pow_right (omega arith) c.if-places-gt38.false in omega arith

pub overflow_mul-divisor : goal.overflow_mul-divisor
overflow_mul-divisor c = let fits : 10 ^ c.args.places ≤ 10 ^ 38 = pow-le-pow_right (omega arith) c.if-places-gt38.false in omega arith

pub nonzero_div-number : goal.nonzero_div-number
nonzero_div-number c = let one : 1 ≤ 10 ^ c.args.places = one-le-pow c.args.places 10 (omega arith) in omega arith
