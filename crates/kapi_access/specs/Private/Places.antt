-- The places of rules by keys: rules that are alike have one key.
use Rattle.std.specs.Prelude.{◌≡◌, ℕ, suc, Bool, true, ◌&&◌, if◌then◌else◌, List, [], ◌∷◌, ◌++◌, Option, Some, None}
use Rattle.std.specs.BTreeMap.{BTreeMap, get}
use Rattle.std.specs.Cmp.Lexicographic.{slice_cmp}
use Rattle.std.specs.List.{flat_map}
use Rattle.std.specs.Option.{option_map}
use Rattle.std.specs.Ordering.{nat_cmp}
use Rattle.std.specs.Str.{bytes_eq}
use Rattle.kapi_model.specs.declared.policy_rule.PolicyRule.{PolicyRule}
use Rattle.kapi_access.specs.Together.{lists_names}
use Rattle.kapi_access.specs.declared.merge_rules.RuleList.{RuleList}
use Rattle.kapi_access.specs.declared.merge_rules.RuleList.TheVariants as part

-- the texts, each in a line, and an empty line
abbrev pub list_key : List (List ℕ) → List ℕ
list_key texts = flat_map (λ t. t ++ 10 ∷ []) texts ++ 10 ∷ []

abbrev pub key_of_lists : List (List ℕ) → List (List ℕ) → List (List ℕ) → List (List ℕ) → List ℕ
key_of_lists a b c d = list_key a ++ list_key b ++ list_key c ++ list_key d

-- the key of a rule: all lists but the one that is joined
abbrev pub key_of : RuleList → PolicyRule → List ℕ
key_of part.Names r = key_of_lists r.verbs r.api_groups r.resources r.non_resource_urls
key_of part.Verbs r = key_of_lists r.api_groups r.resources r.resource_names r.non_resource_urls
key_of part.Resources r = key_of_lists r.verbs r.api_groups r.resource_names r.non_resource_urls
key_of part.Groups r = key_of_lists r.verbs r.resources r.resource_names r.non_resource_urls
key_of part.Urls r = key_of_lists r.verbs r.api_groups r.resources r.resource_names

-- some rule may be alike
abbrev pub can_be_joined : RuleList → PolicyRule → Bool
can_be_joined part.Names r = lists_names r
can_be_joined _ r = true

-- the rule may be joined and has the key
abbrev pub has_key : RuleList → List ℕ → PolicyRule → Bool
has_key p k r = can_be_joined p r && bytes_eq k (key_of p r)

-- the place of the first rule with a key
abbrev pub first_with : RuleList → List ℕ → List PolicyRule → Option ℕ
first_with p k [] = None
first_with p k (rule ∷ rules) = if has_key p k rule then Some 0 else option_map suc (first_with p k rules)

-- under each key lies the place of the first rule with it
abbrev pub ArePlaces : RuleList → List PolicyRule → BTreeMap (List ℕ) ℕ → Type 0
ArePlaces p rules places = (k : List ℕ) → get (slice_cmp nat_cmp) places k ≡ first_with p k rules
