-- The model of the store: a map of trees and a counter; what each call makes of them, beside the list of all changes
-- ever.
use Rattle.std.specs.Prelude.{◌≡◌, ℕ, ◌+◌, ◌-◌, max, nat_lt, nat_le, Bool, true, false, ◌&&◌, if◌then◌else◌, List, [], ◌∷◌, Option, None, Some, map, length, Result, Ok, Err, codes, ok_or, option_map, is_some}
use Rattle.std.specs.List.{filter, list_any, list_all}
use Rattle.std.specs.Str.{bytes_eq}
use Rattle.std.specs.Map.{lookup}
use Rattle.serde_json.specs.Data.{Data}
use Rattle.kapi_text.specs.ResultIs.{◌>>=◌}
use Rattle.kapi_object.specs.Given.{given_of}
use Rattle.kapi_store.specs.Stored.{stored_tree}
use Rattle.kapi_object.specs.declared.body_fields.GivenText.{GivenText}
use Rattle.kapi_object.specs.declared.body_fields.GivenText.TheVariants as given
use Rattle.kapi_store.specs.declared.stored.StoredObject.{StoredObject}
use Rattle.kapi_model.specs.declared.row.ResourceRow.{ResourceRow}
use Rattle.kapi_store.specs.declared.key.Key.{Key}
use Rattle.kapi_store.specs.declared.change.Change.{Change}
use Rattle.kapi_store.specs.Limits.{last_revision, window_limit}
use Rattle.kapi_store.specs.Keys.{is_key, namespace_key}
use Rattle.kapi_store.specs.UidAndVersion.{created_tree, replaced_tree, with_stamps_of, version_in}
use Rattle.kapi_store.specs.Same.{same_tree}
use Rattle.kapi_store.specs.Changes.{placed_all, last_of, Follow}
use Rattle.kapi_store.specs.Faults.{StoreFault, Exists, Missing, Conflict, NoNamespace, NamespaceNotEmpty, RevisionsUsedUp}
use Rattle.kapi_store.specs.State.{State, objects}

-- one change: its revision and key, and the trees before and after
pub record PlainChange : Type 0 where
  pub revision : ℕ
  pub key : Key
  pub old : Option Data
  pub new : Option Data

-- the table, the trees in the order of their keys, and the first and the current revision
pub record Plain : Type 0 where
  pub table : List ResourceRow
  pub objects : List (Key × Data)
  pub first : ℕ
  pub revision : ℕ

-- the trees of some objects
abbrev pub trees : List (Key × StoredObject) → List (Key × Data)
trees os = map (λ e. (e.0, stored_tree e.1)) os

-- a change as data
abbrev pub plain_change : Change → PlainChange
plain_change c = record { revision = c.revision; key = c.key; old = option_map stored_tree c.old; new = option_map stored_tree c.new }

-- a store as data; the changes that it keeps are left out
abbrev pub plain_of : State → Plain
plain_of s = record { table = s.table; objects = trees (objects s); first = s.first; revision = s.revision }

-- the store at its start: no object
abbrev pub opened : List ResourceRow → ℕ → Plain
opened table first = record { table = table; objects = []; first = first; revision = first }

-- what each change leaves at its key, as data
abbrev pub trees_left_by : List PlainChange → List (Key × Option Data)
trees_left_by cs = map (λ c. (c.key, c.new)) cs

-- the store after some changes
abbrev pub written : List PlainChange → Plain → Plain
written cs s = record s { objects = placed_all (trees_left_by cs) s.objects; revision = s.revision + length cs }

-- a running store refines the model that all the changes of a history made: the map is what the changes make of the
-- empty one, they are numbered from the first revision on, and the store keeps the last of them
pub record RefinesPlain (s : State) (history : List PlainChange) (p : Plain) : Type 0 where
  pub plain : plain_of s ≡ p
  pub window : map plain_change s.window ≡ last_of window_limit history
  pub made : p.objects ≡ placed_all (trees_left_by history) []
  pub numbered : Follow (λ c. c.revision) p.first history
  pub counted : p.revision ≡ p.first + length history

-- the lowest revision after which all changes are kept
abbrev pub window_start : Plain → ℕ
window_start s = max (s.revision - window_limit) s.first

-- the changes of a history after a revision; none if some of them may be kept no longer (Kubernetes, 'Efficient
-- detection of changes': 410 Gone)
unfoldable pub changes_after : List PlainChange → Plain → ℕ → Result (List PlainChange) (Unit {0})
changes_after history s revision =
    if nat_lt revision (window_start s) then Err tt else
    Ok (filter (λ c. nat_lt revision c.revision) history)

-- whether there is an object at the key
unfoldable pub has_object : Key → Plain → Bool
has_object k s = is_some (lookup (is_key k) s.objects)

-- whether the objects of the key's resource type live in namespaces, by the table; those of an unknown type do not
abbrev pub is_namespaced : List ResourceRow → Key → Bool
is_namespaced table k = list_any (λ row. bytes_eq row.group k.group && (bytes_eq row.plural k.resource && row.namespaced)) table

-- whether the key's namespace exists, if it is in one
unfoldable pub has_namespace : Key → Plain → Bool
has_namespace k s = if is_namespaced s.table k then has_object (namespace_key k.namespace) s else true

-- an object can be created at the key
unfoldable pub free_place : Plain → Key → Result (Unit {0}) StoreFault
free_place s k = if has_namespace k s then (if has_object k s then Err Exists else Ok tt) else Err NoNamespace

-- so many revisions are left
unfoldable pub revisions_left : Plain → ℕ → Result (Unit {0}) StoreFault
revisions_left s count = if nat_le (s.revision + count) last_revision then Ok tt else Err RevisionsUsedUp

-- the change by which a revision creates an object
abbrev pub creation_at : Key → Data → ℕ → PlainChange
creation_at k tree revision = record { revision = revision; key = k; old = None; new = Some (created_tree revision tree) }

-- the change of a creation at a free place; or why there can be none
abbrev pub creation_in_place : Plain → Key → Data → Result (List PlainChange) StoreFault
creation_in_place s k tree = revisions_left s 1 >>= λ _. Ok (creation_at k tree (s.revision + 1) ∷ [])

-- the changes of a creation at the key: one; or why there can be none
abbrev pub creation : Plain → Key → Data → Result (List PlainChange) StoreFault
creation s k tree = free_place s k >>= λ _. creation_in_place s k tree

-- whether a write with this given version may change the object of the current one (Kubernetes, 'Kubernetes API
-- Concepts', resource versions): none is given, or an empty one, or the current one
abbrev pub admits : List ℕ → GivenText → Bool
admits current given.Absent = true
admits current (given.Text []) = true
admits current (given.Text (b ∷ bs)) = bytes_eq (b ∷ bs) current
admits current given.Mistyped = false

-- the stored tree, if the given version admits a write
abbrev pub admitted : Option Data → GivenText → Result Data StoreFault
admitted None version = Err Missing
admitted (Some old) version = if admits (version_in old) version then Ok old else Err (Conflict (version_in old))

-- the tree at the key, which a write with this given version may replace
abbrev pub replaceable : Plain → Key → GivenText → Result Data StoreFault
replaceable s k version = admitted (lookup (is_key k) s.objects) version

-- the change by which a revision replaces a tree by another
abbrev pub replacement_at : Key → Data → Data → ℕ → PlainChange
replacement_at k old tree revision = record { revision = revision; key = k; old = Some old; new = Some (replaced_tree revision old tree) }

-- the changes of a replacement of the stored tree: none if the new tree, with the old stamps, equals the stored one
abbrev pub replaced : Plain → Key → Data → Data → Result (List PlainChange) StoreFault
replaced s k tree old =
    if same_tree (with_stamps_of old tree) old then Ok [] else
    (revisions_left s 1 >>= λ _. Ok (replacement_at k old tree (s.revision + 1) ∷ []))

-- the changes of a replacement of the tree that is stored at the key, whatever its version; or why there can be none
abbrev pub replacement_in_place : Plain → Key → Data → Result (List PlainChange) StoreFault
replacement_in_place s k tree = ok_or (lookup (is_key k) s.objects) Missing >>= replaced s k tree

-- the changes of a replacement at the key; or why there can be none
abbrev pub replacement : Plain → Key → Data → Result (List PlainChange) StoreFault
replacement s k tree = replaceable s k (given_of tree).resource_version >>= replaced s k tree

-- whether a key is of a Namespace object
abbrev pub is_namespace : Key → Bool
is_namespace k = bytes_eq k.group [] && (bytes_eq k.resource (codes "namespaces") && bytes_eq k.namespace [])

-- whether the namespace holds an object of a namespaced resource type
abbrev pub holds_objects : Plain → List ℕ → Bool
holds_objects s namespace = list_any (λ e. is_namespaced s.table e.0 && bytes_eq e.0.namespace namespace) s.objects

-- whether the key is of a Namespace object, and that namespace holds an object
abbrev pub is_full_namespace : Plain → Key → Bool
is_full_namespace s k = is_namespace k && holds_objects s k.name

-- the objects at the keys can be removed: all of them exist, and no namespace among them holds an object
unfoldable pub removable : Plain → List Key → Result (Unit {0}) StoreFault
removable s ks =
    if list_all (λ k. has_object k s) ks then
    (if list_any (is_full_namespace s) ks then Err NamespaceNotEmpty else Ok tt)
    else Err Missing

-- the changes by which the revisions after this one remove the objects at the keys, one each
unfoldable pub removals : List (Key × Data) → ℕ → List Key → List PlainChange
removals os revision [] = []
removals os revision (k ∷ ks) =
    record { revision = revision + 1; key = k; old = lookup (is_key k) os; new = None } ∷ removals os (revision + 1) ks

-- the changes of a removal of the objects at the keys; or why there can be none
abbrev pub removal : Plain → List Key → Result (List PlainChange) StoreFault
removal s ks = removable s ks >>= λ _. revisions_left s (length ks) >>= λ _. Ok (removals s.objects s.revision ks)
