-- What somebody has is written without floats.
use Rattle.std.proofs.Common.{◌≡◌, List, [], ◌∷◌, map, false, refl}
use Rattle.serde_json.specs.View.{items_of}
use Rattle.serde_json.specs.Written.{has_float, items_have_float}
use Rattle.kapi_object.proofs.Closed.{rule_tree_holds}
use Rattle.kapi_object.proofs.NoFloats.{no_floats}
use Rattle.kapi_access.specs.Rights.{given_tree, right_tree}
use Rattle.kapi_access.specs.declared.rights_of.GivenBy.{GivenBy}
use Rattle.kapi_access.specs.declared.scoped.ScopedRule.{ScopedRule}

givers_have_no_float : (by : List GivenBy) → items_have_float (items_of (map given_tree by)) ≡ false
givers_have_no_float [] = refl
givers_have_no_float (b ∷ by) = givers_have_no_float by

pub right_has_no_float : (line : ScopedRule × List GivenBy) → has_float (right_tree line) ≡ false
unfolding right_tree
right_has_no_float line = rw (givers_have_no_float line.1, rule_tree_holds no_floats 0 line.0.rule) refl
