use Rattle.std.proofs.Common.{◌≡◌, [], take}
use Rattle.std.specs.List.{fold}
use Rattle.kapi_aggregation.specs.Marks.{label_text, with_names_at}
use Rattle.kapi_aggregation.proofs.takers.names_for.Given as goal

abbrev pub invariant-loop-label : goal.invariant-loop-label
invariant-loop-label l = l.names.keys ≡ fold (λ ns x. with_names_at l.takers.keys ns (label_text x)) (with_names_at l.takers.keys [] []) (take l.label-index l.label-items)
