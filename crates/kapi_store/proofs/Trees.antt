-- What a write makes of the trees is what it makes of the objects.
use Rattle.std.proofs.Common.{◌≡◌, ℕ, List, [], ◌∷◌, Bool, true, false, cond, Option, None, Some, option_map, map, refl, ap, ◌∙◌}
use Rattle.std.specs.Ordering.{match_ordering}
use Rattle.std.specs.declared.cmp.Ordering.{Ordering}
use Rattle.std.specs.declared.cmp.Ordering.TheVariants.{Less, Equal, Greater}
use Rattle.std.specs.Map.{remove_entry, lookup}
use Rattle.std.specs.Option.{is_some}
use Rattle.std.proofs.lemmas.Map.Made.{lookup-map_values}
use Rattle.std.specs.BTreeMap.{insert_entry}
use Rattle.kapi_store.specs.declared.stored.StoredObject.{StoredObject}
use Rattle.kapi_store.specs.Stored.{stored_tree}
use Rattle.kapi_model.specs.declared.row.ResourceRow.{ResourceRow}
use Rattle.kapi_model.specs.declared.selector.Selector.{Selector}
use Rattle.kapi_store.specs.declared.key.Key.{Key}
use Rattle.kapi_store.specs.declared.change.Change.{Change}
use Rattle.kapi_store.specs.Keys.{key_cmp, is_key}
use Rattle.kapi_store.specs.Changes.{placed, placed_all, left_by}
use Rattle.kapi_store.specs.Plain.{trees, trees_left_by, plain_change}
use Rattle.kapi_store.specs.Listing.{is_listed, listed_objects, listed_trees}

module _ {K X Y : Type 0} (f : X → Y) where
  mapped : List (K × X) → List (K × Y)
  mapped es = map (λ e. (e.0, f e.1)) es

  insert_mapped : (cmp : K → K → Ordering) (k : K) (x : X) (es : List (K × X)) → map (λ e. (e.0, f e.1)) (insert_entry cmp es k x) ≡ insert_entry cmp (map (λ e. (e.0, f e.1)) es) k (f x)
  insert_mapped cmp k x [] = refl
  insert_mapped cmp k x (e ∷ es) =
      elim (cmp k e.0) as (λ o. map (λ e. (e.0, f e.1)) (match_ordering o ((k, x) ∷ e ∷ es) ((e.0, x) ∷ es) (e ∷ insert_entry cmp es k x))
      ≡ match_ordering o ((k, f x) ∷ (e.0, f e.1) ∷ map (λ e. (e.0, f e.1)) es) ((e.0, f x) ∷ map (λ e. (e.0, f e.1)) es) ((e.0, f e.1) ∷ insert_entry cmp (map (λ e. (e.0, f e.1)) es) k (f x))) [
        | Less ↦ refl
        | Equal ↦ refl
        | Greater ↦ ap (λ es. (e.0, f e.1) ∷ es) (insert_mapped cmp k x es)
      ]

  remove_mapped : (test : K → Bool) (es : List (K × X)) → map (λ e. (e.0, f e.1)) (remove_entry test es) ≡ remove_entry test (map (λ e. (e.0, f e.1)) es)
  remove_mapped test [] = refl
  remove_mapped test (e ∷ es) =
      elim (test e.0) as (λ b. map (λ e. (e.0, f e.1)) (cond b es (e ∷ remove_entry test es)) ≡ cond b (map (λ e. (e.0, f e.1)) es) ((e.0, f e.1) ∷ remove_entry test (map (λ e. (e.0, f e.1)) es))) [
        | true ↦ refl
        | false ↦ ap (λ es. (e.0, f e.1) ∷ es) (remove_mapped test es)
      ]

pub placed_trees : (k : Key) (o : Option StoredObject) (os : List (Key × StoredObject)) → trees (placed k o os) ≡ placed k (option_map stored_tree o) (trees os)
unfolding placed
placed_trees k None os = remove_mapped stored_tree (is_key k) os
placed_trees k (Some x) os = insert_mapped stored_tree key_cmp k x os

pub placed_all_trees : (cs : List Change) (os : List (Key × StoredObject)) → trees (placed_all (left_by cs) os) ≡ placed_all (trees_left_by (map plain_change cs)) (trees os)
unfolding placed_all
placed_all_trees [] os = refl
placed_all_trees (c ∷ cs) os =
    placed_all_trees cs (placed c.key c.new os) ∙ ap (placed_all (trees_left_by (map plain_change cs))) (placed_trees c.key c.new os)

-- the tree that is found belongs to the object that is found
pub lookup_trees : (k : Key) (os : List (Key × StoredObject)) → lookup (is_key k) (trees os) ≡ option_map stored_tree (lookup (is_key k) os)
lookup_trees k os = lookup-map_values stored_tree (is_key k) os

-- an object is there if its tree is
pub has_object_trees : (k : Key) (os : List (Key × StoredObject)) → is_some (lookup (is_key k) (trees os)) ≡ is_some (lookup (is_key k) os)
has_object_trees k os = ap is_some (lookup_trees k os) ∙ is_some_map (lookup (is_key k) os)
  where
    is_some_map : (o : Option StoredObject) → is_some (option_map stored_tree o) ≡ is_some o
    is_some_map None = refl
    is_some_map (Some x) = refl

-- the trees of what is listed are the trees that are listed
pub listed_objects_trees : (row : ResourceRow) (namespace : List ℕ) (selector : Selector) (name : List ℕ) (os : List (Key × StoredObject))
    → trees (listed_objects row namespace selector name os) ≡ listed_trees row namespace selector name (trees os)
listed_objects_trees row namespace selector name [] = refl
listed_objects_trees row namespace selector name (e ∷ os) =
    elim (is_listed row namespace selector name e.0 (stored_tree e.1)) as (λ b. trees (cond b (e ∷ listed_objects row namespace selector name os) (listed_objects row namespace selector name os))
    ≡ cond b ((e.0, stored_tree e.1) ∷ listed_trees row namespace selector name (trees os)) (listed_trees row namespace selector name (trees os))) [
      | true ↦ ap (λ es. (e.0, stored_tree e.1) ∷ es) (listed_objects_trees row namespace selector name os)
      | false ↦ listed_objects_trees row namespace selector name os
    ]
