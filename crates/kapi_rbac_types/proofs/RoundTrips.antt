-- What is written of a rule, a subject and a reference to a role is read as it.
use Rattle.std.proofs.Common.{◌≡◌, ◌∙◌, ℕ, List, [], ◌∷◌, Some, refl, ap, codes, length}
use Rattle.std.proofs.Math.Dec.{eqb-suc-zero}
use Rattle.kapi_model.specs.declared.kinds.RoleKind.{RoleKind}
use Rattle.kapi_model.specs.declared.kinds.RoleKind.TheVariants as role_kind
use Rattle.kapi_model.specs.declared.policy_rule.PolicyRule.{PolicyRule}
use Rattle.kapi_model.specs.declared.role_ref.RoleRef.{RoleRef}
use Rattle.kapi_model.specs.declared.subject.Subject.{Subject}
use Rattle.kapi_model.specs.declared.subject.Subject.TheVariants.{User, Group, ServiceAccount}
use Rattle.kapi_object.specs.Contents.{text_of, items_if, read_items, rule_of, rule_tree, subject_of, subject_tree, role_ref_if, role_ref_tree}
use Rattle.kapi_object.specs.Tree.{member_of}
use Rattle.kapi_object.proofs.Puts.{listed_round, texts_round}
use Rattle.kapi_object.proofs.Fields.{verbs_at, groups_at, resources_at, names_at, urls_at}

pub rule_round : (r : PolicyRule) → rule_of (rule_tree r) ≡ r
rule_round r =
    rw (
      ap (λ o. read_items text_of (items_if o)) (verbs_at r) ∙ texts_round r.verbs,
      listed_round (member_of (codes "apiGroups") (rule_tree r)) r.api_groups (groups_at r),
      listed_round (member_of (codes "resources") (rule_tree r)) r.resources (resources_at r),
      listed_round (member_of (codes "resourceNames") (rule_tree r)) r.resource_names (names_at r),
      listed_round (member_of (codes "nonResourceURLs") (rule_tree r)) r.non_resource_urls (urls_at r),
    ) refl

account_round : (name namespace : List ℕ) → subject_of (subject_tree (ServiceAccount (record { namespace = namespace; name = name }))) ≡ ServiceAccount (record { namespace = namespace; name = name })
unfolding subject_tree
account_round name [] = refl
account_round name (x ∷ xs) = rw (eqb-suc-zero (length xs)) refl

pub subject_round : (s : Subject) → subject_of (subject_tree s) ≡ s
unfolding subject_tree
subject_round (User name) = refl
subject_round (Group name) = refl
subject_round (ServiceAccount account) = account_round account.name account.namespace

role_ref_round_at : (k : RoleKind) (name : List ℕ) → role_ref_if (Some (role_ref_tree (record { kind = k; name = name }))) ≡ record { kind = k; name = name }
unfolding role_ref_tree
role_ref_round_at role_kind.Role name = refl
role_ref_round_at role_kind.ClusterRole name = refl

pub role_ref_round : (r : RoleRef) → role_ref_if (Some (role_ref_tree r)) ≡ r
role_ref_round r = role_ref_round_at r.kind r.name
