-- What a rule allows (Kubernetes, 'Using RBAC Authorization').
use Rattle.std.specs.Prelude.{Bool, ◌&&◌}
use Rattle.std.specs.List.{list_any}
use Rattle.kapi_model.specs.declared.policy_rule.PolicyRule.{PolicyRule}
use Rattle.kapi_rules.specs.Entries.{word_matches, resource_matches, names_match, url_matches}
use Rattle.kapi_rules.specs.declared.point.Point.{Point}
use Rattle.kapi_rules.specs.declared.point.Point.TheVariants as point

-- some entry of each list matches the point: verb, group, resource and name, or verb and path
abbrev pub allows : PolicyRule → Point → Bool
allows rule (point.Resource p) =
    list_any (λ e. word_matches e p.verb) rule.verbs
    && (list_any (λ e. word_matches e p.group) rule.api_groups
    && (list_any (λ e. resource_matches e p.resource p.subresource) rule.resources && names_match rule.resource_names p.name))
allows rule (point.Url p) =
    list_any (λ e. word_matches e p.verb) rule.verbs && list_any (λ e. url_matches e p.path) rule.non_resource_urls
