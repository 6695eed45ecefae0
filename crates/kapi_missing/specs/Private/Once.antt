-- Rules without repeats.
use Rattle.std.specs.Prelude.{◌≡◌, ℕ, ◌||◌, if◌then◌else◌, List, [], ◌∷◌, ◌++◌}
use Rattle.std.specs.BTreeSet.{BTreeSet, contains_by}
use Rattle.std.specs.Cmp.Lexicographic.{slice_cmp}
use Rattle.std.specs.List.{fold, list_any}
use Rattle.std.specs.Ordering.{nat_cmp}
use Rattle.std.specs.Str.{bytes_eq}
use denote.Ref.{Bor}
use Rattle.kapi_model.specs.declared.policy_rule.PolicyRule.{PolicyRule}
use Rattle.kapi_rules.specs.Atoms.{atoms}
use Rattle.kapi_rules.specs.Missing.{rule_implies, same_atom}
use Rattle.kapi_rules.specs.declared.atom.Atom.{Atom}
use Rattle.std.specs.Prelude.{Bool}

-- the list with that word at its end, unless it stands in it
abbrev pub with_word : List (List ℕ) → List ℕ → List (List ℕ)
with_word found word = if list_any (bytes_eq word) found then found else found ++ word ∷ []

-- each word once, where it stands first
unfoldable pub once_each : List (List ℕ) → List (List ℕ)
once_each words = fold with_word [] words

-- the rule with each entry of each list once
abbrev pub once : PolicyRule → PolicyRule
once rule = record {
  verbs = once_each rule.verbs;
  api_groups = once_each rule.api_groups;
  resources = once_each rule.resources;
  resource_names = once_each rule.resource_names;
  non_resource_urls = once_each rule.non_resource_urls;
}

-- an atom of an earlier wanted rule, or implied by a held one
abbrev pub is_covered : List PolicyRule → List PolicyRule → Atom → Bool
is_covered held before a = list_any (λ h. rule_implies h a) held || list_any (λ w. list_any (same_atom a) (atoms w)) before

-- the set has the word
abbrev pub is_in : BTreeSet (Bor (List ℕ)) → List ℕ → Bool
is_in set word = contains_by (λ k. slice_cmp nat_cmp word k.now) set

-- the set has the words of the list and no others
abbrev pub HasWords : BTreeSet (Bor (List ℕ)) → List (List ℕ) → Type 0
HasWords set words = (w : List ℕ) → is_in set w ≡ list_any (bytes_eq w) words
