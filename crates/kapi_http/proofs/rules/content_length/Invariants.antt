use Rattle.std.proofs.Common.{◌≡◌, take, drop, min}
use Rattle.std.specs.List.{list_all}
use Rattle.std.specs.Str.Parse.{digits_value}
use Rattle.std.specs.Char.{is_ascii_digit}
use Rattle.kapi_http.proofs.rules.content_length.Given as goal

abbrev pub invariant-loop-byte : goal.invariant-loop-byte
invariant-loop-byte l =
    (l.number ≡ min (digits_value 10 (take l.byte-index l.value)) 1048577)
    × (list_all is_ascii_digit (drop l.byte-index l.value) ≡ list_all is_ascii_digit l.value)
