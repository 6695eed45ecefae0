-- Free places, and places of objects that were found.
use Rattle.std.proofs.Common.{◌≡◌, Bool, true, false, List, Option, None, Some, Result, Ok, Err, IsSome, map, option_map, if◌then◌else◌, ok_or, ap, sym, refl, ◌∙◌}
use Rattle.std.specs.Map.{lookup}
use Rattle.serde_json.specs.Data.{Data}
use Rattle.kapi_text.specs.ResultIs.{◌>>=◌}
use Rattle.kapi_object.specs.Given.{given_of}
use Rattle.kapi_store.specs.Stored.{stored_tree}
use Rattle.kapi_object.specs.declared.body_fields.GivenText.{GivenText}
use Rattle.kapi_store.specs.declared.stored.StoredObject.{StoredObject}
use Rattle.kapi_store.specs.Faults.{StoreFault, Exists, Missing, NoNamespace, Conflict}
use Rattle.kapi_store.specs.Keys.{is_key}
use Rattle.kapi_store.specs.Plain.{Plain, PlainChange, admits, admitted, free_place, has_namespace, has_object, plain_of, replaced, trees, replacement, replacement_in_place}
use Rattle.kapi_store.specs.Private.Hidden.{hides, seen, visible}
use Rattle.kapi_store.specs.State.{State, live, objects}
use Rattle.kapi_store.specs.UidAndVersion.{version_in}
use Rattle.kapi_store.specs.declared.key.Key.{Key}
use Rattle.kapi_store.specs.declared.slots.Hidden.{Hidden}
use Rattle.kapi_store.proofs.Seen.{seen_live, seen_slot}
use Rattle.kapi_store.proofs.SlotSteps.{none_there, slot_there}
use Rattle.kapi_store.proofs.Trees.{lookup_trees}

-- ---- a free place

abbrev free_if : Bool → Bool → Result (Unit {0}) StoreFault
free_if namespace object = if namespace then (if object then Err Exists else Ok tt) else Err NoNamespace

free_is_empty : (s : Plain) (k : Key) (namespace object : Bool) → has_object k s ≡ object → free_if namespace object ≡ Ok tt → has_object k s ≡ false
free_is_empty s k true true is e = absurd (cc e)
free_is_empty s k true false is e = is
free_is_empty s k false object is e = absurd (cc e)

free_has_namespace : (namespace object : Bool) → free_if namespace object ≡ Ok tt → namespace ≡ true
free_has_namespace true object is = refl
free_has_namespace false object is = absurd (cc is)

-- the namespace of a free place exists
pub namespace_there : (s : Plain) (k : Key) → free_place s k ≡ Ok tt → has_namespace k s ≡ true
unfolding free_place
namespace_there s k free = free_has_namespace (has_namespace k s) (has_object k s) free

-- nothing stands at a free place
pub nothing_stands : (s : Plain) (k : Key) → free_place s k ≡ Ok tt → lookup (is_key k) s.objects ≡ None
unfolding free_place has_object
nothing_stands s k free = none_there (lookup (is_key k) s.objects) (free_is_empty s k (has_namespace k s) (has_object k s) refl free)

none_mapped : (o : Option StoredObject) → option_map stored_tree o ≡ None → o ≡ None
none_mapped None is = refl
none_mapped (Some x) is = absurd (cc is)

-- nor is there an object
pub no_object : (s : State) (k : Key) → free_place (plain_of s) k ≡ Ok tt → lookup (is_key k) (objects s) ≡ None
no_object s k free = none_mapped (lookup (is_key k) (objects s)) (sym (lookup_trees k (objects s)) ∙ nothing_stands (plain_of s) k free)

-- ---- the place of an object

slot_by : (hidden : Option Hidden) (k : Key) (slots : List (Key × StoredObject)) (tree : Data)
    → (o : Option StoredObject) → lookup (is_key k) (visible hidden slots) ≡ o → option_map stored_tree o ≡ Some tree → IsSome (lookup (is_key k) slots) × (hides hidden k ≡ false)
slot_by hidden k slots tree None at is = absurd (cc is)
slot_by hidden k slots tree (Some x) at is = slot_there hidden k x slots at

-- where a tree stands, there is a slot
pub slot_of_tree : (hidden : Option Hidden) (k : Key) (es : List (Key × StoredObject)) (tree : Data)
    → lookup (is_key k) (trees (live (map (seen hidden) es))) ≡ Some tree → IsSome (lookup (is_key k) (map (seen hidden) es))
slot_of_tree hidden k es tree is =
    let at : lookup (is_key k) (trees (visible hidden es)) ≡ Some tree = ap (λ os. lookup (is_key k) (trees os)) (sym (seen_live hidden es)) ∙ is in
    seen_slot hidden k es ∙ (slot_by hidden k es tree (lookup (is_key k) (visible hidden es)) refl (sym (lookup_trees k (visible hidden es)) ∙ at)).0

-- ---- a replacement

by_version : (s : Plain) (k : Key) (tree old : Data) (cs : List PlainChange) (fault : StoreFault) (b : Bool) → ((if b then Ok old else Err fault) >>= replaced s k tree) ≡ Ok cs → replaced s k tree old ≡ Ok cs
by_version s k tree old cs fault true is = is
by_version s k tree old cs fault false is = absurd (cc is)

by_place : (s : Plain) (k : Key) (tree : Data) (cs : List PlainChange) (version : GivenText) (o : Option Data) → (admitted o version >>= replaced s k tree) ≡ Ok cs → (ok_or o Missing >>= replaced s k tree) ≡ Ok cs
by_place s k tree cs version None is = absurd (cc is)
by_place s k tree cs version (Some old) is = by_version s k tree old cs (Conflict (version_in old)) (admits (version_in old) version) is

-- the changes of a replacement are those of one at its place
pub replacement_is_in_place : (s : Plain) (k : Key) (tree : Data) (cs : List PlainChange) → replacement s k tree ≡ Ok cs → replacement_in_place s k tree ≡ Ok cs
replacement_is_in_place s k tree cs is = by_place s k tree cs (given_of tree).resource_version (lookup (is_key k) s.objects) is
