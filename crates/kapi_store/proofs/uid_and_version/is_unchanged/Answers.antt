use Rattle.std.proofs.Common.{◌≡◌, rules}
use Rattle.std.specs.Bool.{Decides}
use Rattle.kapi_object.specs.Object.{tree_of}
use Rattle.kapi_store.specs.Stored.{stored_tree}
use Rattle.kapi_store.proofs.Equality.{decided_alike, same_decides}
use Rattle.kapi_store.proofs.uid_and_version.is_unchanged.Goals as goal

pub returns-clause-test : goal.returns-clause-test
returns-clause-test c =
    let new = tree_of c.args.object.now in
    let old = stored_tree c.args.old.now in
    let decides : Decides c.eq.result (new ≡ old) = search rules in
    decided_alike _ _ decides (same_decides new old c.args.object.now.whole)
