-- What contracts see of an object: its tree.
use Rattle.std.specs.Prelude.{ℕ, List, codes}
use Rattle.serde_json.specs.Data.{Data}
use Rattle.serde_json.specs.View.{view}
use Rattle.kapi_object.specs.declared.object.Object.{Object}
use Rattle.kapi_object.specs.Tree.{with_text}

-- the object as JSON data
abbrev pub tree_of : Object → Data
tree_of o = view o.tree

-- the tree as the write of a revision leaves it: with the object's unique id and its version
abbrev pub stamped_tree : List ℕ → List ℕ → Data → Data
stamped_tree uid version tree = with_text (codes "resourceVersion") version (with_text (codes "uid") uid tree)
