-- Prepared entries, and which points they allow.
use Rattle.std.specs.Prelude.{ℕ, ◌==◌, nat_eq, Bool, true, ◌&&◌, ◌||◌, if◌then◌else◌, List, ◌∷◌, ◌++◌, length, map}
use Rattle.std.specs.List.{ends_with, list_any, starts_with}
use Rattle.std.specs.Str.{bytes_eq}
use Rattle.kapi_model.specs.declared.policy_rule.PolicyRule.{PolicyRule}
use Rattle.kapi_rules.specs.Entries.{star, without_stars}
use Rattle.kapi_rules.specs.declared.point.Point.{Point}
use Rattle.kapi_rules.specs.declared.point.Point.TheVariants as point
use Rattle.kapi_index.specs.declared.urls.Url.{Url}
use Rattle.kapi_index.specs.declared.urls.Url.TheVariants.{Path, Front}
use Rattle.kapi_index.specs.declared.words.Words.{Words}
use Rattle.kapi_index.specs.declared.words.Words.TheVariants.{All, Listed}
use Rattle.kapi_index.specs.declared.compiled_rule.CompiledRule.{CompiledRule}

-- entries that list verbs, groups or resources: if `*` is one of them, all
abbrev pub compiled_words : List (List ℕ) → Words
compiled_words entries = if list_any (λ e. bytes_eq e star) entries then All else Listed entries

-- listed names: an empty list has every name, and `*` is a name
abbrev pub compiled_names : List (List ℕ) → Words
compiled_names names = if length names == 0 then All else Listed names

-- an entry that lists URLs: with a star at its end the text before the last stars, and else the path
abbrev pub compiled_url : List ℕ → Url
compiled_url entry = if ends_with nat_eq entry star then Front (without_stars entry) else Path entry

-- a rule with its entries prepared
unfoldable pub compiled : PolicyRule → CompiledRule
compiled rule = record {
  verbs = compiled_words rule.verbs;
  groups = compiled_words rule.api_groups;
  resources = compiled_words rule.resources;
  names = compiled_names rule.resource_names;
  urls = map compiled_url rule.non_resource_urls;
}

-- the word is among the prepared words
abbrev pub words_match : Words → List ℕ → Bool
words_match All w = true
words_match (Listed words) w = list_any (λ x. bytes_eq x w) words

-- the name of a resource without subresource is among the words, and else `RESOURCE/SUBRESOURCE` or `*/SUBRESOURCE`
abbrev pub resources_match : Words → List ℕ → List ℕ → Bool
resources_match words resource subresource =
    if length subresource == 0 then words_match words resource
    else (words_match words (resource ++ 47 ∷ subresource) || words_match words (42 ∷ 47 ∷ subresource))

-- the URL is the path itself, or begins with the text before the stars
abbrev pub url_admits : Url → List ℕ → Bool
url_admits (Path path) asked = bytes_eq path asked
url_admits (Front front) asked = starts_with nat_eq asked front

-- what a rule allows by its prepared entries
unfoldable pub compiled_allows : CompiledRule → Point → Bool
compiled_allows rule (point.Resource p) =
    resources_match rule.resources p.resource p.subresource
    && (words_match rule.verbs p.verb && (words_match rule.groups p.group && words_match rule.names p.name))
compiled_allows rule (point.Url p) = words_match rule.verbs p.verb && list_any (λ u. url_admits u p.path) rule.urls
