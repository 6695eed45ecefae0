use Rattle.std.proofs.Common.{ap, subst, ◌∙◌}
use Rattle.std.specs.List.{list_any}
use Rattle.kapi_text.specs.ResultIs.{ResultIs}
use Rattle.kapi_policy.specs.Decided.{held}
use Rattle.kapi_escalation.proofs.Grants.{same_held}
use Rattle.kapi_escalation.specs.Checks.{fault_of}
use Rattle.kapi_escalation.proofs.check.check_rules_held.Goals as goal

pub returns : goal.returns
returns g c =
    subst (ResultIs fault_of (λ u. u) c.check_all_held.result)
    (same_held c.as_slice.result.now _ c.args.rules.now c.args.object.now
    (λ test. ap (list_any test) c.as_slice.ensures.value ∙ c.in_ok-held.ensures test ∙ ap (λ n. list_any test (held (g.P.Policy.content c.args.policy.now) c.args.identity.now n)) c.scope.ensures))
    c.check_all_held.ensures
