-- Objects without members.
use Rattle.std.proofs.Common.{◌≡◌, List, [], ◌∷◌, length, ◌==◌, refl}
use Rattle.std.proofs.Math.Dec.{eqb-suc-zero}
use Rattle.std.specs.declared.alloc.Global.{Global}
use Rattle.std.specs.Prelude.{String}
use Rattle.serde_json.specs.Data.{object}
use Rattle.serde_json.specs.View.{members_view}
use Rattle.serde_json.specs.declared.value.Value.{Value}
use Rattle.kapi_object.specs.Tree.{is_empty_object}

pub no_entries : (es : List (String Global × Value)) → (length es == 0) ≡ is_empty_object (object (members_view es))
no_entries [] = refl
no_entries (e ∷ es) = eqb-suc-zero (length es)
