use Rattle.std.proofs.Common.{◌≡◌, ◌++◌}
use Rattle.std.specs.List.{flat_map}
use Rattle.kapi_suggest.specs.Needs.{suggested_at}
use Rattle.kapi_suggest.proofs.needs.suggested_at_places.Given as goal

abbrev pub invariant-loop-place : goal.invariant-loop-place
invariant-loop-place l = l.suggested.items ++ flat_map (suggested_at l.list.entries) l.place-iterator ≡ flat_map (suggested_at l.list.entries) l.list.entries
