-- The rules that may stop an atom of a wanted rule: the held ones, and the wanted ones before it.
use Rattle.std.specs.Prelude.{ℕ, zero, suc, ◌==◌, Bool, true, false, ◌||◌, List, [], ◌∷◌, ◌++◌, length, map, Option, Some, None}
use Rattle.std.specs.List.{list_any}
use Rattle.std.specs.Str.{bytes_eq}
use Rattle.kapi_model.specs.declared.policy_rule.PolicyRule.{PolicyRule}
use Rattle.kapi_rules.specs.Atoms.{resource_covers}
use Rattle.kapi_rules.specs.Entries.{url_matches, word_matches}
use Rattle.kapi_missing.specs.declared.rows.List.{List as Of}
use Rattle.kapi_missing.specs.declared.rows.List.TheVariants as of
use Rattle.kapi_rules.specs.declared.atom.Names.{Names}
use Rattle.kapi_rules.specs.declared.atom.Names.TheVariants as names

pub record Stopper : Type 0 where
  pub is_held : Bool
  pub rule : PolicyRule

abbrev pub held_one : PolicyRule → Stopper
held_one rule = record { is_held = true; rule = rule }

abbrev pub earlier_one : PolicyRule → Stopper
earlier_one rule = record { is_held = false; rule = rule }

-- in the order of their numbers
abbrev pub stoppers : List PolicyRule → List PolicyRule → List Stopper
stoppers held before = map held_one held ++ map earlier_one before

-- the entry is in the list
abbrev pub lists : List (List ℕ) → List ℕ → Bool
lists entries text = list_any (λ e. bytes_eq e text) entries

-- one of the lists of a rule
abbrev pub entries_of : Of → PolicyRule → List (List ℕ)
entries_of of.Groups rule = rule.api_groups
entries_of of.Resources rule = rule.resources
entries_of of.Verbs rule = rule.verbs
entries_of of.Names rule = rule.resource_names
entries_of of.Urls rule = rule.non_resource_urls

-- a held rule covers the entry of that list
abbrev pub covers : Of → PolicyRule → List ℕ → Bool
covers of.Groups rule text = list_any (λ e. word_matches e text) rule.api_groups
covers of.Resources rule text = list_any (λ e. resource_covers e text) rule.resources
covers of.Verbs rule text = list_any (λ e. word_matches e text) rule.verbs
covers of.Names rule text = (length rule.resource_names == 0) || lists rule.resource_names text
covers of.Urls rule text = list_any (λ e. url_matches e text) rule.non_resource_urls

-- an entry of a list of a wanted rule; without a text all names
pub record Item : Type 0 where
  pub list : Of
  pub text : Option (List ℕ)

abbrev pub word_in : Of → List ℕ → Item
word_in list text = record { list = list; text = Some text }

abbrev pub names_item : Names → Item
names_item names.All = record { list = of.Names; text = None }
names_item (names.One name) = record { list = of.Names; text = Some name }

-- a held rule meets what it covers, an earlier one what it lists
abbrev pub meets_text : Of → List ℕ → Bool → PolicyRule → Bool
meets_text list text true rule = covers list rule text
meets_text list text false rule = lists (entries_of list rule) text

-- and all names are met by rules that list none
abbrev pub meets_option : Of → Option (List ℕ) → Stopper → Bool
meets_option list None s = length s.rule.resource_names == 0
meets_option list (Some text) s = meets_text list text s.is_held s.rule

abbrev pub meets : Item → Stopper → Bool
meets item s = meets_option item.list item.text s

-- the element at that position, and false behind the last
abbrev pub at : List Bool → ℕ → Bool
at [] n = false
at (x ∷ xs) zero = x
at (x ∷ xs) (suc n) = at xs n
