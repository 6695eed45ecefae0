use Rattle.kapi_index.proofs.Finds.{put_listed}
use Rattle.kapi_index.proofs.name_tree.NameTree.insert.Goals as goal

pub returns-clause-done : goal.returns-clause-done
returns-clause-done c = put_listed c.args.name _ _ _ c.self.view_is c.in_ok-insert.ensures.updates.0
