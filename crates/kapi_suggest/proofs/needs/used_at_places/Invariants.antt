use Rattle.std.proofs.Common.{◌≡◌, drop}
use Rattle.std.specs.List.{fold}
use Rattle.kapi_suggest.specs.Needs.{used, with_use}
use Rattle.kapi_suggest.proofs.needs.used_at_places.Given as goal

abbrev pub invariant-loop-used : goal.invariant-loop-used
invariant-loop-used l = fold with_use l.list.entries (drop l.used-index l.uses) ≡ used l.uses
