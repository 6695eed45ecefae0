use Rattle.std.proofs.Common.{ap, ◌∙◌}
use Rattle.kapi_replay.specs.Manifests.{origin_at}
use Rattle.kapi_replay.proofs.Prepared.{is_refused}
use Rattle.kapi_replay.proofs.manifests.refused.Goals as goal

pub returns : goal.returns
returns c =
    is_refused (λ v. v.items) c.fault_failure.result c.args.loads.now c.args.files.now c.args.prepared.now c.args.line _ _
    (c.origin_at-origin.ensures ∙ ap (λ os. origin_at os c.args.line) c.as_slice-2.ensures.value) c.fault_failure.ensures
