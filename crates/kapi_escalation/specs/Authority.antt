-- Full authority: to do everything with everything.
use Rattle.std.specs.Prelude.{List, [], ◌∷◌}
use Rattle.kapi_model.specs.declared.policy_rule.PolicyRule.{PolicyRule}
use Rattle.kapi_rules.specs.Entries.{star}

-- all verbs on all resources of all groups, whatever their names
abbrev pub all_resources : PolicyRule
all_resources = record {
  verbs = star ∷ [];
  api_groups = star ∷ [];
  resources = star ∷ [];
  resource_names = [];
  non_resource_urls = [];
}

-- all verbs on all URLs
abbrev pub all_urls : PolicyRule
all_urls = record {
  verbs = star ∷ [];
  api_groups = [];
  resources = [];
  resource_names = [];
  non_resource_urls = star ∷ [];
}

-- all verbs on all resources and on all URLs
abbrev pub full_authority : List PolicyRule
full_authority = all_resources ∷ all_urls ∷ []
