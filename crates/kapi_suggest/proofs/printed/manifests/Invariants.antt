use Rattle.std.proofs.Common.{◌≡◌, ◌+◌, ◌++◌, drop}
use Rattle.std.specs.List.{enumerate_from, flat_map}
use Rattle.kapi_suggest.specs.Printed.{lines_for, manifests}
use Rattle.kapi_suggest.proofs.printed.manifests.Given as goal

abbrev pub invariant-loop-index : goal.invariant-loop-index
invariant-loop-index l = l.text.items ++ flat_map lines_for (enumerate_from (l.index + 1) (drop l.index l.suggested)) ≡ manifests l.suggested
