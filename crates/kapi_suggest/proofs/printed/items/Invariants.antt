use Rattle.std.proofs.Common.{◌≡◌, ◌+◌, ◌++◌, drop}
use Rattle.std.specs.List.{enumerate_from, flat_map}
use Rattle.kapi_suggest.specs.Printed.{begun_list, items_for}
use Rattle.kapi_suggest.proofs.printed.items.Given as goal

abbrev pub invariant-loop-index : goal.invariant-loop-index
invariant-loop-index l =
    l.text.items ++ flat_map items_for (enumerate_from (l.index + 1) (drop l.index l.suggested)) ≡ begun_list ++ flat_map items_for (enumerate_from 1 l.suggested)
