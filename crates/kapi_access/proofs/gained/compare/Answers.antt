use Rattle.std.proofs.Common.{◌∙◌}
use Rattle.kapi_access.proofs.Walks.{gained_by_all}
use Rattle.kapi_access.proofs.gained.compare.Goals as goal

pub returns : goal.returns
returns g c =
    c.in_ok-list.ensures
    ∙ gained_by_all c.args.identities (g.P.Policy.content c.args.before.now) (g.Q.Policy.content c.args.after.now) c.args.bindings.now c.requires.after
