-- Which objects a list shows (Kubernetes, 'Kubernetes API Concepts', 'Labels and Selectors' and 'Field Selectors').
use Rattle.std.specs.Prelude.{ℕ, Bool, true, ◌&&◌, List, [], ◌∷◌, codes}
use Rattle.std.specs.List.{filter}
use Rattle.std.specs.Str.{bytes_eq}
use Rattle.serde_json.specs.Data.{Data}
use Rattle.kapi_store.specs.Stored.{stored_tree}
use Rattle.kapi_model.specs.Selector.{matches}
use Rattle.kapi_object.specs.Tree.{in_metadata}
use Rattle.kapi_store.specs.declared.stored.StoredObject.{StoredObject}
use Rattle.kapi_model.specs.declared.row.ResourceRow.{ResourceRow}
use Rattle.kapi_model.specs.declared.selector.Selector.{Selector}
use Rattle.kapi_store.specs.declared.key.Key.{Key}
use Rattle.kapi_store.specs.declared.listing.Listed.{Listed}

-- a text is the one that is asked for; if an empty text is asked for, any text is
abbrev pub is_asked : List ℕ → List ℕ → Bool
is_asked [] text = true
is_asked (b ∷ bs) text = bytes_eq (b ∷ bs) text

-- a key is one of the resource, in the namespace and of the name that are asked for
abbrev pub is_within : ResourceRow → List ℕ → List ℕ → Key → Bool
is_within row namespace name k =
    bytes_eq row.group k.group && (bytes_eq row.plural k.resource && (is_asked namespace k.namespace && is_asked name k.name))

-- an object is listed: its key is within what is asked for, and the selector matches its labels
unfoldable pub is_listed : ResourceRow → List ℕ → Selector → List ℕ → Key → Data → Bool
is_listed row namespace selector name k tree =
    is_within row namespace name k && matches selector (in_metadata (codes "labels") tree)

-- the list of some trees: in the order of their keys, those that are listed
abbrev pub listed_trees : ResourceRow → List ℕ → Selector → List ℕ → List (Key × Data) → List (Key × Data)
listed_trees row namespace selector name entries = filter (λ e. is_listed row namespace selector name e.0 e.1) entries

-- the list of some objects: in the order of their keys, those that are listed
abbrev pub listed_objects : ResourceRow → List ℕ → Selector → List ℕ → List (Key × StoredObject) → List (Key × StoredObject)
listed_objects row namespace selector name entries = filter (λ e. is_listed row namespace selector name e.0 (stored_tree e.1)) entries

-- what is shown of a list: keys and objects
abbrev pub shown : Listed → Key × StoredObject
shown l = (l.key.now, l.object.now)
