-- Rules put together if that changes nothing of what they allow (Kubernetes API, `PolicyRule` of rbac.authorization.k8s.io/v1).
use Rattle.std.specs.Prelude.{ℕ, suc, ◌==◌, Bool, not, ◌&&◌, if◌then◌else◌, List, [], ◌∷◌, ◌++◌, length, map}
use Rattle.std.specs.List.{fold}
use Rattle.std.specs.Cmp.Lexicographic.{pointwise}
use Rattle.std.specs.Str.{bytes_eq}
use Rattle.kapi_model.specs.declared.policy_rule.PolicyRule.{PolicyRule}
use Rattle.kapi_rules.specs.Atoms.{rule_of}
use Rattle.kapi_rules.specs.declared.atom.Atom.{Atom}
use Rattle.kapi_access.specs.declared.merge_rules.RuleList.{RuleList}
use Rattle.kapi_access.specs.declared.merge_rules.RuleList.TheVariants as part

-- the same texts, in the same order
abbrev pub same_texts : List (List ℕ) → List (List ℕ) → Bool
same_texts xs ys = pointwise bytes_eq xs ys

-- the rule lists names; an empty list allows all of them
abbrev pub lists_names : PolicyRule → Bool
lists_names rule = not (length rule.resource_names == 0)

-- the rules have all lists but one in common; an empty list of names allows all, so that names are put to names alone
abbrev pub are_alike : RuleList → PolicyRule → PolicyRule → Bool
are_alike part.Names a b =
    same_texts a.verbs b.verbs && (same_texts a.api_groups b.api_groups
    && (same_texts a.resources b.resources && (same_texts a.non_resource_urls b.non_resource_urls && (lists_names a && lists_names b))))
are_alike part.Verbs a b =
    same_texts a.api_groups b.api_groups && (same_texts a.resources b.resources
    && (same_texts a.resource_names b.resource_names && same_texts a.non_resource_urls b.non_resource_urls))
are_alike part.Resources a b =
    same_texts a.verbs b.verbs && (same_texts a.api_groups b.api_groups
    && (same_texts a.resource_names b.resource_names && same_texts a.non_resource_urls b.non_resource_urls))
are_alike part.Groups a b =
    same_texts a.verbs b.verbs && (same_texts a.resources b.resources
    && (same_texts a.resource_names b.resource_names && same_texts a.non_resource_urls b.non_resource_urls))
are_alike part.Urls a b =
    same_texts a.verbs b.verbs && (same_texts a.api_groups b.api_groups
    && (same_texts a.resources b.resources && same_texts a.resource_names b.resource_names))

-- the rule with what another lists besides
abbrev pub joined : RuleList → PolicyRule → PolicyRule → PolicyRule
joined part.Names a b = record a { resource_names = a.resource_names ++ b.resource_names }
joined part.Verbs a b = record a { verbs = a.verbs ++ b.verbs }
joined part.Resources a b = record a { resources = a.resources ++ b.resources }
joined part.Groups a b = record a { api_groups = a.api_groups ++ b.api_groups }
joined part.Urls a b = record a { non_resource_urls = a.non_resource_urls ++ b.non_resource_urls }

-- the rules with one more: joined with the first that is alike, else at the end
unfoldable pub with_rule : RuleList → List PolicyRule → PolicyRule → List PolicyRule
with_rule p [] rule = rule ∷ []
with_rule p (first ∷ rules) rule = if are_alike p first rule then joined p first rule ∷ rules else first ∷ with_rule p rules rule

-- the place of the first rule that is alike, or behind all
abbrev pub place_of : RuleList → List PolicyRule → PolicyRule → ℕ
place_of p [] rule = 0
place_of p (first ∷ rules) rule = if are_alike p first rule then 0 else suc (place_of p rules rule)

-- the rules, those that are alike joined
abbrev pub put_together : RuleList → List PolicyRule → List PolicyRule
put_together p rules = fold (with_rule p) [] rules

-- the rules of atoms, put together by names first, then by verbs, resources, groups and URLs
unfoldable pub together : List Atom → List PolicyRule
together atoms =
    put_together part.Urls (put_together part.Groups (put_together part.Resources (put_together part.Verbs (put_together part.Names (map rule_of atoms)))))
