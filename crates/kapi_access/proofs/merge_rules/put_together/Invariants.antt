use Rattle.std.proofs.Common.{◌≡◌}
use Rattle.kapi_access.specs.Private.Places.{ArePlaces}
use Rattle.kapi_access.specs.Together.{put_together}
use Rattle.kapi_access.proofs.merge_rules.put_together.Given as goal

abbrev pub invariant-loop-rule : goal.invariant-loop-rule
invariant-loop-rule l = record {
  rules : l.list.items ≡ put_together l.part l.yielded;
  places : ArePlaces l.part l.list.items l.places;
}
