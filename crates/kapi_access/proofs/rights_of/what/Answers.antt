use Rattle.std.proofs.Common.{◌∙◌}
use Rattle.kapi_access.proofs.Walks.{what_by_all}
use Rattle.kapi_access.proofs.rights_of.what.Goals as goal

pub returns : goal.returns
returns g c = c.in_ok-list.ensures ∙ what_by_all (g.P.Policy.content c.args.policy.now) c.args.identity.now c.args.bindings.now c.requires
