-- The resource type that is sought, in whichever order its parts are compared.
use Rattle.std.proofs.Common.{◌≡◌, Bool, true, false, not, ◌&&◌, List, Option, is_some, codes, refl, ap, ◌∙◌}
use Rattle.std.specs.List.{find}
use Rattle.serde_json.specs.Data.{Data}
use Rattle.serde_json.specs.Find.{get}
use Rattle.kapi_object.specs.Admission.{version_of}
use Rattle.kapi_answer.specs.Load.{is_kept_kind, is_text}
use Rattle.kapi_answer.specs.Review.{review_kind}
use Rattle.kapi_model.specs.declared.row.ResourceRow.{ResourceRow}

pub and_swaps : (a b : Bool) → a && b ≡ b && a
and_swaps true true = refl
and_swaps true false = refl
and_swaps false true = refl
and_swaps false false = refl

-- what is found by the kind and the version is what is found by the tree that has them
pub found_alike : (k v : Option Data) (tree : Data) (rows : List ResourceRow) (o : Option ResourceRow)
    → o ≡ find (λ row. not (is_some (review_kind row)) && (is_text row.kind k && is_text (version_of row) v)) rows
    → k ≡ get (codes "kind") tree → v ≡ get (codes "apiVersion") tree → o ≡ find (is_kept_kind tree) rows
found_alike k v tree rows o found kind version =
    found
    ∙ (ap (λ x. find (λ row. not (is_some (review_kind row)) && (is_text row.kind x && is_text (version_of row) v)) rows) kind
    ∙ ap (λ x. find (λ row. not (is_some (review_kind row)) && (is_text row.kind (get (codes "kind") tree) && is_text (version_of row) x)) rows) version)
