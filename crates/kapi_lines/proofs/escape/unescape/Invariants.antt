use Rattle.std.proofs.Common.{◌≡◌, ◌++◌, drop}
use Rattle.std.specs.Option.{option_map}
use Rattle.kapi_lines.specs.Escapes.{unescaped_from, unescaped}
use Rattle.kapi_lines.proofs.escape.unescape.Given as goal

abbrev pub invariant-loop-byte : goal.invariant-loop-byte
invariant-loop-byte l = option_map (λ bytes. l.bytes.items ++ bytes) (unescaped_from l.place (drop l.byte-index l.text)) ≡ unescaped l.text
