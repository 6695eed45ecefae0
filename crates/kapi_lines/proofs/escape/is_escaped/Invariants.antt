use Rattle.std.proofs.Common.{◌≡◌, drop}
use Rattle.std.specs.Option.{is_some}
use Rattle.kapi_lines.specs.Escapes.{unescaped_from, unescaped}
use Rattle.kapi_lines.proofs.escape.is_escaped.Given as goal

abbrev pub invariant-loop-byte : goal.invariant-loop-byte
invariant-loop-byte l = is_some (unescaped_from l.place (drop l.byte-index l.text)) ≡ is_some (unescaped l.text)
