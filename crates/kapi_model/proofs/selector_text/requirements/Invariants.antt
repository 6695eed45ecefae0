use Rattle.std.proofs.Common.{◌≡◌, false}
use Rattle.std.specs.Option.{option_copied}
use Rattle.kapi_model.specs.Private.SelectorSteps.{pieces_left}
use Rattle.kapi_model.specs.SelectorText.{pieces, requirements}
use Rattle.kapi_model.proofs.Values.{before, size_left}
use Rattle.kapi_model.proofs.selector_text.requirements.Given as goal

abbrev pub invariant-loop-rest : goal.invariant-loop-rest
invariant-loop-rest l = before l.requirements.items (requirements (pieces_left (option_copied l.rest))) ≡ requirements (pieces false l.tokens)

abbrev pub decreases-loop-rest : goal.decreases-loop-rest
decreases-loop-rest l = size_left (option_copied l.rest)
