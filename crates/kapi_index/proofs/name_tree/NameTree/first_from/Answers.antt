use Rattle.kapi_index.proofs.Finds.{found_in_view}
use Rattle.kapi_index.proofs.name_tree.NameTree.first_from.Goals as goal

pub returns : goal.returns
returns c = found_in_view _ _ _ c.next.result c.next.new.self _ c.self.view_is (c.range.ensures.between tt) c.next.ensures.steps
