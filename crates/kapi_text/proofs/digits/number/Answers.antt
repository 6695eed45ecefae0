use Rattle.std.proofs.Common.{arith, get_or}
use Rattle.kapi_text.proofs.Numbers.{digit_more, in_range, parted, room}
use Rattle.kapi_text.proofs.digits.number.Goals as goal

pub overflow_mul-number : goal.overflow_mul-number
overflow_mul-number c =
    omega (arith, room c.loop-digit.digit-index c.loop-digit.number (omega (arith, c.loop-digit-test.true, c.requires.few)) c.loop-digit.invariant.1)

pub overflow_add-number : goal.overflow_add-number
overflow_add-number c =
    let range = in_range (get_or c.args.digits.now c.loop-digit.digit-index 0) (parted c.args.digits.now c.loop-digit.digit-index c.loop-digit-test.true c.loop-digit.invariant.2).0 in
    omega (arith, room c.loop-digit.digit-index c.loop-digit.number (omega (arith, c.loop-digit-test.true, c.requires.few)) c.loop-digit.invariant.1, c.from.ensures, range)

pub loop-digit-preserved : goal.loop-digit-preserved
loop-digit-preserved c =
    digit_more c.args.digits.now c.loop-digit.digit-index c.loop-digit.number c.from.result c.loop-digit-test.true c.loop-digit.invariant.2
    c.loop-digit.invariant.0 c.loop-digit.invariant.1 c.from.ensures
