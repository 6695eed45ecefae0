-- The rules that may stop atoms, by their entries.
use Rattle.std.specs.Prelude.{◌≡◌, ℕ, ◌==◌, nat_eq, nat_le, Bool, true, false, ◌&&◌, List, ◌∷◌, length, map, take, Option, Some, None}
use Rattle.std.specs.BTreeMap.{BTreeMap, get_by}
use Rattle.std.specs.Cmp.Lexicographic.{slice_cmp}
use Rattle.std.specs.List.{ends_with, list_any}
use Rattle.std.specs.Option.{option_map_or}
use Rattle.std.specs.Ordering.{nat_cmp}
use Rattle.std.specs.Str.{bytes_eq}
use denote.Ref.{Bor}
use Rattle.kapi_rules.specs.Entries.{star, without_stars}
use Rattle.kapi_missing.specs.Private.Numbers.{has, has_number}
use Rattle.kapi_missing.specs.Private.Stoppers.{Stopper, at, lists}
use Rattle.kapi_missing.specs.declared.index.Rules.{Rules}
use Rattle.kapi_missing.specs.declared.numbers.Numbers.{Numbers}

-- the number stands under that text
abbrev pub has_at : BTreeMap (Bor (List ℕ)) Numbers → List ℕ → ℕ → Bool
has_at sets text n = option_map_or (λ s. has s n) (get_by (λ k. slice_cmp nat_cmp text k.now) sets) false

-- the entry covers all resources with that text behind their first slash
abbrev pub is_any_with : List ℕ → List ℕ → Bool
is_any_with text entry = bytes_eq entry (42 ∷ 47 ∷ text)

-- the entry covers all URLs that begin with that text
unfoldable pub is_beginning : List ℕ → List ℕ → Bool
is_beginning text entry = ends_with nat_eq entry star && bytes_eq (without_stars entry) text

-- the set has the numbers of those rules for which the test holds
abbrev pub HasThose : List Stopper → (Stopper → Bool) → Numbers → Type 0
HasThose all test set = (n : ℕ) → has set n ≡ at (map test all) n

-- the same of the set under each text
abbrev pub HasThoseAt : List Stopper → (List ℕ → Stopper → Bool) → BTreeMap (Bor (List ℕ)) Numbers → Type 0
HasThoseAt all test sets = (text : List ℕ) (n : ℕ) → has_at sets text n ≡ at (map (test text) all) n

-- what all rules list
pub record IsListed (all : List Stopper) (rules : Rules) : Type 0 where
  pub verbs : HasThoseAt all (λ text s. lists s.rule.verbs text) rules.verbs
  pub groups : HasThoseAt all (λ text s. lists s.rule.api_groups text) rules.groups
  pub resources : HasThoseAt all (λ text s. lists s.rule.resources text) rules.resources
  pub names : HasThoseAt all (λ text s. lists s.rule.resource_names text) rules.names
  pub urls : HasThoseAt all (λ text s. lists s.rule.non_resource_urls text) rules.urls
  pub nameless : HasThose all (λ s. length s.rule.resource_names == 0) rules.nameless

-- what held ones cover besides
pub record IsCovered (all : List Stopper) (rules : Rules) : Type 0 where
  pub any_verb : HasThose all (λ s. s.is_held && lists s.rule.verbs star) rules.any_verb
  pub any_group : HasThose all (λ s. s.is_held && lists s.rule.api_groups star) rules.any_group
  pub any_resource : HasThose all (λ s. s.is_held && lists s.rule.resources star) rules.any_resource
  pub any_name : HasThose all (λ s. s.is_held && (length s.rule.resource_names == 0)) rules.any_name
  pub subresources : HasThoseAt all (λ text s. s.is_held && list_any (is_any_with text) s.rule.resources) rules.subresources
  pub beginnings : HasThoseAt all (λ text s. s.is_held && list_any (is_beginning text) s.rule.non_resource_urls) rules.beginnings
  pub lengths : (text : List ℕ) (n : ℕ) → has_at rules.beginnings text n ≡ true → has_number rules.lengths.items (length text) ≡ true

abbrev pub IsIndex : List Stopper → Rules → Type 0
IsIndex all rules = IsListed all rules × IsCovered all rules

-- the number stands under the text behind the first slash, if there is one
abbrev pub has_behind : BTreeMap (Bor (List ℕ)) Numbers → Option (List ℕ) → ℕ → Bool
has_behind sets None n = false
has_behind sets (Some text) n = has_at sets text n

-- the number stands under a beginning of the text that has one of the lengths
abbrev pub has_beginning : BTreeMap (Bor (List ℕ)) Numbers → List ℕ → List ℕ → ℕ → Bool
has_beginning sets lengths text n = list_any (λ m. nat_le m (length text) && has_at sets (take m text) n) lengths
