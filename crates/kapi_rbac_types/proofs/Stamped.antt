-- What a write sets in an object's metadata changes neither what it is read as nor its labels.
use Rattle.std.proofs.Common.{◌≡◌, ◌∙◌, ℕ, List, false, bytes_eq, codes, refl, ap}
use Rattle.std.specs.Option.{option_and_then, option_map}
use Rattle.serde_json.specs.Data.{Data, object}
use Rattle.serde_json.specs.Find.{get}
use Rattle.kapi_object.proofs.SetTexts.{beside_metadata, in_text}
use Rattle.kapi_object.specs.Contents.{aggregation_in, aggregation_of, items_if, read_items, role_ref_if, role_ref_of, rule_of, rules_of, subject_of, subjects_of}
use Rattle.kapi_object.specs.Object.{stamped_tree}
use Rattle.kapi_object.specs.Tree.{in_metadata, unless_null, with_text}
use Rattle.kapi_rbac_types.specs.Trees.{cluster_role_binding_of, cluster_role_of, role_binding_of, role_of}

-- ---- a unique id and a version

module _ (uid version : List ℕ) (d : Data) where
  beside_stamps : (q : List ℕ) → bytes_eq q (codes "metadata") ≡ false → get q (stamped_tree uid version d) ≡ get q d
  beside_stamps q h = beside_metadata q (codes "resourceVersion") version (with_text (codes "uid") uid d) h ∙ beside_metadata q (codes "uid") uid d h

  rules_stamped : rules_of (stamped_tree uid version d) ≡ rules_of d
  rules_stamped = ap (λ o. read_items rule_of (items_if (option_and_then unless_null o))) (beside_stamps (codes "rules") refl)

  aggregation_stamped : aggregation_in (stamped_tree uid version d) ≡ aggregation_in d
  aggregation_stamped = ap (λ o. option_map aggregation_of (option_and_then unless_null o)) (beside_stamps (codes "aggregationRule") refl)

  subjects_stamped : subjects_of (stamped_tree uid version d) ≡ subjects_of d
  subjects_stamped = ap (λ o. read_items subject_of (items_if (option_and_then unless_null o))) (beside_stamps (codes "subjects") refl)

  role_ref_stamped : role_ref_of (stamped_tree uid version d) ≡ role_ref_of d
  role_ref_stamped = ap (λ o. role_ref_if (option_and_then unless_null o)) (beside_stamps (codes "roleRef") refl)

  pub role_stamped : role_of (stamped_tree uid version d) ≡ role_of d
  role_stamped = rw rules_stamped refl

  pub cluster_role_stamped : cluster_role_of (stamped_tree uid version d) ≡ cluster_role_of d
  cluster_role_stamped = rw (aggregation_stamped, rules_stamped) refl

  pub role_binding_stamped : role_binding_of (stamped_tree uid version d) ≡ role_binding_of d
  role_binding_stamped = rw (subjects_stamped, role_ref_stamped) refl

  pub cluster_role_binding_stamped : cluster_role_binding_of (stamped_tree uid version d) ≡ cluster_role_binding_of d
  cluster_role_binding_stamped = rw (subjects_stamped, role_ref_stamped) refl

  pub labels_stamped : in_metadata (codes "labels") (stamped_tree uid version d) ≡ in_metadata (codes "labels") d
  labels_stamped =
      in_text (codes "labels") (codes "resourceVersion") version (with_text (codes "uid") uid d) refl ∙ in_text (codes "labels") (codes "uid") uid d refl
