use Rattle.std.proofs.Common.{◌≡◌, map, string_bytes, take}
use Rattle.kapi_access.specs.Rights.{given_text}
use Rattle.kapi_access.proofs.rights.given_cell.Given as goal

-- the texts so far
abbrev pub invariant-loop-by : goal.invariant-loop-by
invariant-loop-by l = map string_bytes l.texts.items ≡ map given_text (take l.by-index l.list)
