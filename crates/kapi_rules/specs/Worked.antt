-- Why a point's resource has no slash: `*/b` covers `a/b`, but does not match a resource that is named so as a whole.
use Rattle.std.specs.Prelude.{ℕ, List, [], ◌∷◌, codes}
use Rattle.kapi_model.specs.declared.policy_rule.PolicyRule.{PolicyRule}
use Rattle.kapi_rules.specs.declared.point.Point.{Point}
use Rattle.kapi_rules.specs.declared.point.Point.TheVariants as point

-- the rule that allows `get` on what one entry of the core group says
abbrev pub get_on : List ℕ → PolicyRule
get_on entry = record {
  verbs = codes "get" ∷ [];
  api_groups = [] ∷ [];
  resources = entry ∷ [];
  resource_names = [];
  non_resource_urls = [];
}

-- `get` on a resource of the core group, without subresource and name
abbrev pub get_of : List ℕ → Point
get_of resource = point.Resource (record { verb = codes "get"; group = []; resource = resource; subresource = []; name = [] })
