-- Which labels a selector matches (Kubernetes, 'Labels and Selectors').
use Rattle.std.specs.Prelude.{ℕ, List, [], ◌∷◌, Bool, true, false, not, ◌&&◌, if◌then◌else◌, Option, Some, None, option_and_then, is_some}
use Rattle.std.specs.List.{list_all, list_any}
use Rattle.std.specs.Str.{bytes_eq}
use Rattle.serde_json.specs.Data.{Data}
use Rattle.serde_json.specs.Find.{get, as_str}
use Rattle.kapi_model.specs.declared.labels.Labels.{Labels}
use Rattle.kapi_model.specs.declared.selector.Label.{Label}
use Rattle.kapi_model.specs.declared.selector.Operator.{Operator}
use Rattle.kapi_model.specs.declared.selector.Operator.TheVariants.{In, NotIn, Exists, DoesNotExist}
use Rattle.kapi_model.specs.declared.selector.Requirement.{Requirement}
use Rattle.kapi_model.specs.declared.selector.Selector.{Selector}

-- the value of the first label of a key
abbrev pub value_in : List Label → List ℕ → Option (List ℕ)
value_in [] key = None
value_in (l ∷ ls) key = if bytes_eq l.key key then Some l.value else value_in ls key

-- the same of labels that are borrowed
abbrev pub values_of : Labels → List ℕ → Option (List ℕ)
values_of labels = value_in labels.list.now

-- the value of the label of a key; a label that is no text is none
abbrev pub label_in : Option Data → List ℕ → Option (List ℕ)
label_in labels key = option_and_then as_str (option_and_then (get key) labels)

-- the value is one of those listed
abbrev pub is_listed : List (List ℕ) → List ℕ → Bool
is_listed values value = list_any (λ v. bytes_eq v value) values

-- what an operator asks of a label and the values listed
abbrev pub holds : Operator → List (List ℕ) → Option (List ℕ) → Bool
holds In values (Some value) = is_listed values value
holds In values None = false
holds NotIn values (Some value) = not (is_listed values value)
holds NotIn values None = true
holds Exists values found = is_some found
holds DoesNotExist values found = not (is_some found)

-- the labels meet the requirement
abbrev pub is_met : Option Data → Requirement → Bool
is_met labels requirement = holds requirement.operator requirement.values (label_in labels requirement.key)

-- a text that may be missing is this one
abbrev pub is_text : Option (List ℕ) → List ℕ → Bool
is_text None wanted = false
is_text (Some text) wanted = bytes_eq text wanted

-- the labels have the label, with its value
abbrev pub has_label : Option Data → Label → Bool
has_label labels label = is_text (label_in labels label.key) label.value

-- the labels have each label listed and meet each requirement
abbrev pub matches : Selector → Option Data → Bool
matches selector labels = list_all (has_label labels) selector.match_labels && list_all (is_met labels) selector.match_expressions

-- labels that have those values at their keys have each label listed and meet each requirement
abbrev pub matches_values : Selector → (List ℕ → Option (List ℕ)) → Bool
matches_values selector at =
    list_all (λ l. is_text (at l.key) l.value) selector.match_labels && list_all (λ r. holds r.operator r.values (at r.key)) selector.match_expressions
