use Rattle.std.proofs.Common.{◌≡◌}
use Rattle.std.specs.List.{fold}
use Rattle.kapi_aggregation.specs.Marks.{takers_at, with_mark}
use Rattle.kapi_aggregation.proofs.takers.put_names_at.Given as goal

abbrev pub invariant-loop-taker : goal.invariant-loop-taker
invariant-loop-taker l = fold (λ ns t. with_mark ns t.name) l.names.keys l.taker-iterator ≡ fold (λ ns t. with_mark ns t.name) l.initial.names.keys (takers_at l.takers.keys l.label)
