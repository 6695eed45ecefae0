use Rattle.std.proofs.Common.{List, sym, subst}
use Rattle.kapi_policy.proofs.Steps.{behind_first}
use Rattle.kapi_policy.specs.Steps.{IsStep}
use Rattle.kapi_policy.specs.declared.change.PolicyChange.{PolicyChange}
use Rattle.kapi_policy.proofs.step.PolicyStep.apply_to.Goals as goal

pub delete_all-requires : goal.delete_all-requires
delete_all-requires g c =
    let P : List PolicyChange → Type 0 = λ cs. IsStep cs in behind_first c.as_slice.result.now (subst P (sym c.as_slice.ensures) c.self.invariant)
