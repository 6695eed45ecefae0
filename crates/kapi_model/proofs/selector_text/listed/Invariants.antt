use Rattle.std.proofs.Common.{◌≡◌}
use Rattle.std.specs.Option.{option_copied}
use Rattle.kapi_model.specs.Private.SelectorSteps.{values_left}
use Rattle.kapi_model.specs.SelectorText.{listed}
use Rattle.kapi_model.proofs.Values.{before, size_left}
use Rattle.kapi_model.proofs.selector_text.listed.Given as goal

abbrev pub invariant-loop-rest : goal.invariant-loop-rest
invariant-loop-rest l = before l.values.items (values_left (option_copied l.rest)) ≡ listed l.tokens

abbrev pub decreases-loop-rest : goal.decreases-loop-rest
decreases-loop-rest l = size_left (option_copied l.rest)
