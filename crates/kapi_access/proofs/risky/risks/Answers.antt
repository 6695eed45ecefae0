use Rattle.std.proofs.Common.{◌∙◌}
use Rattle.kapi_access.proofs.Walks.{risks_by_all}
use Rattle.kapi_access.proofs.risky.risks.Goals as goal

pub returns : goal.returns
returns g c = c.in_ok-list.ensures ∙ risks_by_all (g.P.Policy.content c.args.policy.now) c.args.bindings.now c.requires
