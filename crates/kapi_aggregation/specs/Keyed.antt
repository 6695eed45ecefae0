-- Rules that are found, as the keys of a set.
use Rattle.std.specs.Prelude.{◌≡◌, Bool, true, false, List, [], ◌∷◌}
use Rattle.std.specs.BTreeMap.{is_at}
use Rattle.std.specs.Cmp.Lexicographic.{slice_cmp}
use Rattle.std.specs.List.{list_any}
use Rattle.std.specs.Ordering.{nat_cmp, ordering_then}
use Rattle.std.specs.declared.cmp.Ordering.{Ordering}
use Rattle.kapi_model.specs.declared.policy_rule.PolicyRule.{PolicyRule}
use Rattle.kapi_aggregation.specs.Unions.{same_rule}
use Rattle.kapi_aggregation.specs.declared.union.RuleKey.{RuleKey}

-- the rule that a key is of
abbrev pub rule_of_key : RuleKey → PolicyRule
rule_of_key k = record {
  verbs = k.verbs.now;
  api_groups = k.api_groups.now;
  resources = k.resources.now;
  resource_names = k.resource_names.now;
  non_resource_urls = k.non_resource_urls.now;
}

-- keys are in order of their lists, in turn, and lists of their texts
abbrev pub rule_cmp : RuleKey → RuleKey → Ordering
rule_cmp a b =
    ordering_then (slice_cmp (slice_cmp nat_cmp) a.verbs.now b.verbs.now)
    (ordering_then (slice_cmp (slice_cmp nat_cmp) a.api_groups.now b.api_groups.now)
    (ordering_then (slice_cmp (slice_cmp nat_cmp) a.resources.now b.resources.now)
    (ordering_then (slice_cmp (slice_cmp nat_cmp) a.resource_names.now b.resource_names.now)
    (slice_cmp (slice_cmp nat_cmp) a.non_resource_urls.now b.non_resource_urls.now))))

module _ {X : Type 0} where
  -- the items beside which there is a true
  abbrev pub picked : List Bool → List X → List X
  picked [] xs = []
  picked (b ∷ bs) [] = []
  picked (true ∷ bs) (x ∷ xs) = x ∷ picked bs xs
  picked (false ∷ bs) (x ∷ xs) = picked bs xs

-- the keys are those of the rules
abbrev pub HaveRules : List RuleKey → List PolicyRule → Type 0
HaveRules keys rules = (k : RuleKey) → list_any (is_at (rule_cmp k)) keys ≡ list_any (λ f. same_rule f (rule_of_key k)) rules
