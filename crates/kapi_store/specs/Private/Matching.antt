-- A selector in the form in which an object's labels are looked up in it.
use Rattle.std.specs.Prelude.{ℕ, Bool, true, not, ◌&&◌, ◌||◌, List, [], Option, Some, None, is_some, unwrap_or}
use Rattle.std.specs.BTreeMap.{BTreeMap, get}
use Rattle.std.specs.Cmp.Lexicographic.{slice_cmp}
use Rattle.std.specs.List.{list_all}
use Rattle.std.specs.Option.{option_map_or}
use Rattle.std.specs.Ordering.{nat_cmp}
use Rattle.std.specs.Str.{bytes_eq}
use Rattle.kapi_model.specs.Selector.{holds, matches_values, value_in}
use Rattle.kapi_model.specs.declared.selector.Label.{Label}
use Rattle.kapi_model.specs.declared.selector.Operator.TheVariants.{Exists}
use Rattle.kapi_model.specs.declared.selector.Requirement.{Requirement}
use Rattle.kapi_store.specs.declared.matcher.Checks.{Checks}
use Rattle.kapi_store.specs.declared.matcher.Matcher.{Matcher}

-- the checks let the value pass
abbrev pub passes : Checks → List ℕ → Bool
passes checks value = unwrap_or (get (slice_cmp nat_cmp) checks.noted value) checks.others

-- the checks of the key, if there are any, let the value pass
abbrev pub passes_at : BTreeMap (List ℕ) Checks → List ℕ → List ℕ → Bool
passes_at keys key value = option_map_or (λ checks. passes checks value) (get (slice_cmp nat_cmp) keys key) true

-- a requirement lets a label pass: it is on another key, or holds of the value
abbrev pub lets : Requirement → List ℕ → List ℕ → Bool
lets r key value = not (bytes_eq r.key key) || holds r.operator r.values (Some value)

-- the label is there, or the requirement holds without it
abbrev pub is_there : Requirement → Option (List ℕ) → Bool
is_there r found = holds r.operator [] None || is_some found

-- labels are there at all those keys
abbrev pub are_there : (List ℕ → Option (List ℕ)) → List (List ℕ) → Bool
are_there at keys = list_all (λ k. is_some (at k)) keys

-- the requirement that a key is there
abbrev pub presence_of : List ℕ → Requirement
presence_of key = record { key = key; operator = Exists; values = [] }

-- the labels that are needed are there, and each label passes
abbrev pub meets : Matcher → List Label → Bool
meets m labels = matches_values m.needed (value_in labels) && list_all (λ l. passes_at m.keys l.key l.value) labels
