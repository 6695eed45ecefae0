use Rattle.std.proofs.Common.{◌≡◌, None, refl, rules}
use Rattle.serde_json.specs.View.{view}
use Rattle.kapi_object.specs.Tree.{json_object}
use Rattle.kapi_object.proofs.ReadBodies.{json_object_read, json_object_none}
use Rattle.kapi_object.proofs.Ordered.{was_read_ordered}
use Rattle.kapi_object.proofs.admission.read_tree.Goals as goal

pub returns-then-is_object-clause-object : goal.returns-then-is_object-clause-object
returns-then-is_object-clause-object c =
    rw (json_object_read c.args.bytes.now (view c.in-Ok.tree) c.in-Ok.ensures.ok.0 c.in-Ok.ensures.ok.1 (cc)) refl

pub returns-then-is_object-clause-ordered : goal.returns-then-is_object-clause-ordered
returns-then-is_object-clause-ordered c = was_read_ordered c.args.bytes.now (view c.in-Ok.tree) c.in-Ok.ensures.ok.1

pub returns-else-is_memory-clause-object : goal.returns-else-is_memory-clause-object
returns-else-is_memory-clause-object c =
    let none : json_object c.args.bytes.now ≡ None = json_object_none c.args.bytes.now (λ u. c.in-Err.ensures.err (search rules) u) in
    rw none refl
