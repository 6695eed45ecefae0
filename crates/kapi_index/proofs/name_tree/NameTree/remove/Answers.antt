use Rattle.kapi_index.proofs.Finds.{gone_listed}
use Rattle.kapi_index.proofs.name_tree.NameTree.remove.Goals as goal

pub returns-clause-gone : goal.returns-clause-gone
returns-clause-gone c = gone_listed c.args.name.now _ _ _ c.self.view_is c.remove.ensures.updates.0
