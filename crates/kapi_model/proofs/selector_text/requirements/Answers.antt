use Rattle.std.proofs.Common.{ap}
use Rattle.std.specs.Option.{option_copied}
use Rattle.std.proofs.lemmas.Result.{err_from_is_err_and}
use Rattle.kapi_model.specs.SelectorText.{fault_of}
use Rattle.kapi_model.proofs.Values.{requirement_faults, requirement_step, requirements_end}
use Rattle.kapi_model.proofs.selector_text.requirements.Goals as goal

pub returns-in_err-requirement : goal.returns-in_err-requirement
returns-in_err-requirement c =
    let p = err_from_is_err_and c.from_residual.result c.from_residual.ensures.1 in
    rw (p.1, p.2)
    (requirement_faults c.loop-rest.requirements.items (fault_of c.in_err-requirement.field-0.0) (option_copied c.loop-rest.rest) c.in-Some.left.now _ _ _
    (ap option_copied c.in-Some.is) c.first_piece.ensures.parted c.in_err-requirement.ensures c.loop-rest.invariant)

pub loop-rest-preserved : goal.loop-rest-preserved
loop-rest-preserved c =
    rw c.in_ok-push.ensures.items
    (requirement_step c.loop-rest.requirements.items c.in_ok-requirement.field-0 (option_copied c.loop-rest.rest) c.in-Some.left.now _ _ _
    (ap option_copied c.in-Some.is) c.first_piece.ensures.parted c.in_ok-requirement.ensures c.loop-rest.invariant)

pub returns : goal.returns
returns c = requirements_end c.loop-rest.requirements.items (option_copied c.loop-rest.rest) _ (ap option_copied c.in_default.is) c.loop-rest.invariant
