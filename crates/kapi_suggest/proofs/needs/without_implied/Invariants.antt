use Rattle.std.proofs.Common.{◌≡◌, not}
use Rattle.std.specs.List.{filter}
use Rattle.kapi_suggest.specs.Needs.{is_implied}
use Rattle.kapi_suggest.proofs.needs.without_implied.Given as goal

abbrev pub invariant-loop-atom : goal.invariant-loop-atom
invariant-loop-atom l = l.kept.items ≡ filter (λ a. not (is_implied l.by a)) l.yielded
