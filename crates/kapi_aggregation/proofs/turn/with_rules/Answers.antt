use Rattle.std.proofs.Common.{◌≤◌, subst}
use Rattle.serde_json.specs.Data.{Data, depth}
use Rattle.serde_json.specs.Read.{max_depth}
use Rattle.kapi_object.proofs.Depths.{no_deeper}
use Rattle.kapi_object.proofs.NoFloats.{no_floats}
use Rattle.kapi_object.proofs.Ordered.{keys_in_order}
use Rattle.kapi_store.specs.Stored.{stored_tree}
use Rattle.kapi_aggregation.proofs.Rewritten.{with_rules_holds}
use Rattle.kapi_aggregation.proofs.turn.with_rules.Goals as goal

pub new-requires-clause-whole : goal.new-requires-clause-whole
new-requires-clause-whole c =
    rw (c.in_ok-tree_with_rules.ensures, c.in_ok-old.ensures.tree) (with_rules_holds no_floats 123 c.args.rules.now (stored_tree c.args.old.now) c.tree.ensures.whole)

pub new-requires-clause-ordered : goal.new-requires-clause-ordered
new-requires-clause-ordered c =
    rw (c.in_ok-tree_with_rules.ensures, c.in_ok-old.ensures.tree) (with_rules_holds keys_in_order 123 c.args.rules.now (stored_tree c.args.old.now) c.tree.ensures.ordered)

pub new-requires-clause-nests : goal.new-requires-clause-nests
new-requires-clause-nests c =
    let P : Data → Type 0 = λ d. depth d ≤ max_depth in
    rw (c.in_ok-tree_with_rules.ensures, c.in_ok-old.ensures.tree) (with_rules_holds no_deeper 123 c.args.rules.now (stored_tree c.args.old.now) (subst P c.in_ok-old.ensures.tree c.in_ok-old.ensures.nests))
