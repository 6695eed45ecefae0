use Rattle.std.proofs.Common.{◌≡◌, ◌<◌, ◌^◌, take, drop, true}
use Rattle.std.specs.Char.{is_ascii_digit}
use Rattle.std.specs.List.{list_all}
use Rattle.std.specs.Str.Parse.{digits_value}
use Rattle.kapi_text.proofs.digits.number.Given as goal

abbrev pub invariant-loop-digit : goal.invariant-loop-digit
invariant-loop-digit l =
    (l.number ≡ digits_value 10 (take l.digit-index l.digits))
    × (l.number < 10 ^ l.digit-index)
    × (list_all is_ascii_digit (drop l.digit-index l.digits) ≡ true)
