use Rattle.std.proofs.Common.{◌∙◌, ap}
use Rattle.kapi_loading.specs.Settled.{is_nothing}
use Rattle.kapi_engine.proofs.Loaded.{engine_fails, engine_made}
use Rattle.kapi_engine.proofs.loaded_policy.load.Goals as goal

pub returns-in_err-core : goal.returns-in_err-core
returns-in_err-core c = engine_fails c.args.objects.now c.from_residual.result c.in_err-core.field-0.0 c.from_residual.ensures.1 c.in_err-core.ensures.machine

pub returns-then-is_quiet : goal.returns-then-is_quiet
returns-then-is_quiet c =
    let h = c.in_ok-core.ensures.machine in
    engine_made c.args.objects.now _ _ h.0 h.1 (c.into_policy-policy.ensures ∙ h.2.policy_is) (ap is_nothing (c.is_quiet.ensures c.if-is_quiet.true h.0 h.2).0)

pub returns : goal.returns
returns c =
    let h = c.in_ok-core.ensures.machine in
    engine_made c.args.objects.now _ _ h.0 h.1 (c.in_ok-policy.ensures ∙ c.policy.ensures ∙ h.2.policy_is) (c.in_ok-settled.ensures h.0 h.2)
