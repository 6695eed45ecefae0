use Rattle.std.proofs.Common.{◌∙◌}
use Rattle.kapi_index.proofs.Ordered.{found_in_order}
use Rattle.kapi_index.proofs.asker.search.Goals as goal

pub returns : goal.returns
returns c =
    c.is_ok.ensures.value
    ∙ found_in_order c.args.group.now c.args.groups.now c.binary_search.result c.requires c.binary_search.ensures.bound c.binary_search.ensures.position
