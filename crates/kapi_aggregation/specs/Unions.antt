-- What an aggregated cluster role takes from the others (Kubernetes, 'Using RBAC Authorization', 'Aggregated
-- ClusterRoles').
use Rattle.std.specs.Prelude.{◌≡◌, ℕ, List, [], ◌∷◌, ◌++◌, Bool, true, false, not, ◌&&◌, if◌then◌else◌, Option, Some, None}
use Rattle.std.specs.List.{AllByRecursion, filter, flat_map, fold, list_any}
use Rattle.std.specs.Str.{bytes_eq}
use Rattle.kapi_model.specs.Selector.{matches}
use Rattle.kapi_model.specs.declared.policy_rule.PolicyRule.{PolicyRule}
use Rattle.kapi_model.specs.declared.selector.Selector.{Selector}
use Rattle.kapi_aggregation.specs.Roles.{Labelled, is_aggregated, role_named, selectors_of}

-- the same texts, in the same order
abbrev pub same_texts : List (List ℕ) → List (List ℕ) → Bool
same_texts [] [] = true
same_texts [] (y ∷ ys) = false
same_texts (x ∷ xs) [] = false
same_texts (x ∷ xs) (y ∷ ys) = bytes_eq x y && same_texts xs ys

-- the same rule, entry by entry
abbrev pub same_rule : PolicyRule → PolicyRule → Bool
same_rule a b =
    same_texts a.verbs b.verbs && (same_texts a.api_groups b.api_groups && (same_texts a.resources b.resources
    && (same_texts a.resource_names b.resource_names && same_texts a.non_resource_urls b.non_resource_urls)))

-- the same rules, in the same order
abbrev pub same_rules : List PolicyRule → List PolicyRule → Bool
same_rules [] [] = true
same_rules [] (y ∷ ys) = false
same_rules (x ∷ xs) [] = false
same_rules (x ∷ xs) (y ∷ ys) = same_rule x y && same_rules xs ys

-- the list with the rule at its end, unless it is already in the list
abbrev pub with_rule : List PolicyRule → PolicyRule → List PolicyRule
with_rule found rule = if list_any (λ f. same_rule f rule) found then found else found ++ rule ∷ []

-- the selector matches a cluster role that is not the one of the name
abbrev pub is_meant : List ℕ → Selector → Labelled → Bool
is_meant name selector r = not (bytes_eq r.name name) && matches selector r.labels

-- the rules of the cluster roles that a selector matches, in their order, without those of the one of the name
abbrev pub rules_meant : List Labelled → List ℕ → Selector → List PolicyRule
rules_meant roles name selector = flat_map (λ r. r.role.rules) (filter (is_meant name selector) roles)

-- the union of a cluster role: by its selectors in their order, each rule once, at its first place
unfoldable pub union_for : List Labelled → Labelled → List PolicyRule
union_for roles r = fold with_rule [] (flat_map (rules_meant roles r.name) (selectors_of r))

-- the union of a cluster role that may be missing
abbrev pub union_if : List Labelled → Option Labelled → List PolicyRule
union_if roles None = []
union_if roles (Some r) = union_for roles r

-- the union of the cluster role of a name; it is empty if that role takes nothing from others, or is not there
abbrev pub union : List Labelled → List ℕ → List PolicyRule
union roles name = union_if roles (role_named roles name)

-- the rules of the cluster role are its union, if it is aggregated
abbrev pub IsUnion : List Labelled → Labelled → Type 0
IsUnion roles r = is_aggregated r ≡ true → r.role.rules ≡ union_for roles r

-- the rules of every aggregated cluster role are its union
abbrev pub IsSettled : List Labelled → Type 0
IsSettled roles = AllByRecursion (IsUnion roles) roles
