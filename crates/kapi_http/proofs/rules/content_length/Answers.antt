use Rattle.std.proofs.Common.{sym, ◌∙◌}
use Rattle.kapi_http.proofs.Digits.{counted, rest_digits}
use Rattle.kapi_http.proofs.rules.content_length.Goals as goal

pub loop-byte-preserved : goal.loop-byte-preserved
loop-byte-preserved c =
    let i = c.loop-byte.byte-index in
    let below = c.loop-byte-test.true in
    let digit = c.if-not-is_ascii_digit.ensures in (
      counted _ i _ _ below digit.cases c.loop-byte.invariant.0 c.capped-number.ensures,
      rest_digits _ i below (sym digit.value) ∙ c.loop-byte.invariant.1,
    )
