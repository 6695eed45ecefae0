use Rattle.std.proofs.Common.{◌≡◌, take}
use Rattle.kapi_access.proofs.default_groups.with_default_groups.Given as goal

abbrev pub invariant-loop-group : goal.invariant-loop-group
invariant-loop-group l = l.all.items ≡ take l.group-index l.groups
