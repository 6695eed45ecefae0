-- Lists of values, and their items as contracts see them.
use Rattle.std.proofs.Common.{◌≡◌, List, [], ◌∷◌, length, ◌==◌, refl}
use Rattle.std.proofs.Math.Dec.{eqb-suc-zero}
use Rattle.serde_json.specs.View.{items_view}
use Rattle.serde_json.specs.declared.value.Value.{Value}
use Rattle.kapi_object.specs.Tree.{is_empty}

pub no_items_left : (vs : List Value) → (length vs == 0) ≡ is_empty (items_view vs)
no_items_left [] = refl
no_items_left (v ∷ vs) = eqb-suc-zero (length vs)
