use Rattle.std.proofs.Common.{◌≡◌, drop}
use Rattle.kapi_model.specs.Selector.{value_in}
use Rattle.kapi_model.proofs.labels.Labels.get.Given as goal

abbrev pub invariant-loop-label : goal.invariant-loop-label
invariant-loop-label l = value_in (drop l.label-index l.self.list.now) l.key ≡ value_in l.self.list.now l.key
