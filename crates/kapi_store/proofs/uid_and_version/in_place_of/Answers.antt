use Rattle.std.proofs.Common.{◌∙◌, ap}
use Rattle.std.specs.Fmt.{decimal}
use Rattle.kapi_object.specs.Object.{stamped_tree, tree_of}
use Rattle.kapi_store.specs.UidAndVersion.{uid_in}
use Rattle.kapi_store.specs.Stored.{stored_tree}
use Rattle.kapi_store.proofs.Restamped.{replaced_once}
use Rattle.kapi_store.proofs.uid_and_version.in_place_of.Goals as goal

pub returns-clause-tree : goal.returns-clause-tree
returns-clause-tree c =
    let tree = tree_of c.args.object in
    c.in_ok-written.ensures.same ∙ c.in_ok-written.ensures.tree
    ∙ ap (λ uid. stamped_tree uid (decimal c.args.revision) tree) (c.created.ensures.uid ∙ ap (λ o. uid_in (stored_tree o)) c.get.ensures)
    ∙ replaced_once c.args.revision (stored_tree c.args.old.now) tree c.args.object.ordered
