use Rattle.std.proofs.Common.{◌≡◌, ◌++◌, drop}
use Rattle.std.specs.List.{enumerate_from, flat_map}
use Rattle.kapi_access.specs.Dangling.{covered_by, first_for}
use Rattle.kapi_access.proofs.dangling.covered_rules.Given as goal

abbrev pub invariant-loop-index : goal.invariant-loop-index
invariant-loop-index l =
    l.list.items ++ flat_map (λ e. covered_by e.0 (first_for e.0 e.1 (enumerate_from 0 l.rules))) (enumerate_from l.index (drop l.index l.rules))
    ≡ flat_map (λ e. covered_by e.0 (first_for e.0 e.1 (enumerate_from 0 l.rules))) (enumerate_from 0 l.rules)
