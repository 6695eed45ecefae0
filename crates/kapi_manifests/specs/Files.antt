-- The objects of files.
use Rattle.std.specs.Prelude.{◌≡◌, ℕ, ◌+◌, ◌==◌, ◌&&◌, ◌||◌, nat_le, Bool, false, if◌then◌else◌, List, [], ◌∷◌, ◌++◌, length, slice_index, drop, take, flat_map, map, Option, Some, None, is_some, option_and_then, option_map, unwrap_or, codes}
use Rattle.std.specs.List.{list_any}
use Rattle.std.specs.Str.{is_utf8, bytes_eq}
use Rattle.serde_json.specs.Data.{Data, Items, no_items, item}
use Rattle.serde_json.specs.Find.{get, as_array}
use Rattle.serde_json.specs.Read.{read}
use Rattle.serde_json.specs.View.{view}
use Rattle.kapi_model.specs.declared.row.ResourceRow.{ResourceRow}
use Rattle.kapi_manifests.specs.Kinds.{has_like_items, item_kind, kind_of, version_of}
use Rattle.kapi_manifests.specs.Pieces.{pieces}
use Rattle.kapi_manifests.specs.Sorting.{faults_if, item_of, namespace_if, object_if, sort_of}
use Rattle.kapi_manifests.specs.declared.sorted.Piece.{Piece}
use Rattle.kapi_manifests.specs.declared.sorted.Piece.TheVariants as found
use Rattle.kapi_manifests.specs.declared.sorted.Selection.{Selection}
use Rattle.kapi_manifests.specs.declared.sorted.Manifest.{Manifest}
use Rattle.kapi_manifests.specs.declared.sorted.Options.{Options}
use Rattle.kapi_manifests.specs.declared.sorted.Sorted.{Sorted}

-- the text without the byte order mark of UTF-8 at its beginning (RFC 3629, 'Byte order mark')
unfoldable pub unmarked : List ℕ → List ℕ
unmarked text = if bytes_eq (take 3 text) (239 ∷ 187 ∷ 191 ∷ []) then drop 3 text else text

-- an ASCII letter, a dash or a percent sign
abbrev pub begins_yaml : ℕ → Bool
begins_yaml b = (nat_le 65 b && nat_le b 90) || ((nat_le 97 b && nat_le b 122) || ((b == 45) || (b == 37)))

-- what a piece of a file is: a document, or a fault
pub data Read : Type 0 where
  document : Data → Read
  fault : Read

abbrev pub read_or_fault : Option Data → Read
read_or_fault (Some d) = document d
read_or_fault None = fault

-- what a piece is: the JSON text of an object, or a fault
unfoldable pub read_piece : List ℕ → Read
read_piece text = if (slice_index text 0 == 123) && is_utf8 text then read_or_fault (read text) else fault

-- the items of a list
abbrev pub listed : Items → List Data
listed no_items = []
listed (item d ds) = d ∷ listed ds

-- the items of a document, each of its kind
abbrev pub items_as : Data → Items → List Data
items_as d ds = map (item_of (item_kind (kind_of d)) (version_of d)) (listed ds)

-- what a document with this member `items` stands for: the items; nothing if that is no array
abbrev pub opened_by : Data → Option Data → Option (List Data)
opened_by d None = Some (d ∷ [])
opened_by d (Some items) = option_map (items_as d) (as_array items)

-- what a document stands for, whatever its kind: its items, if it has any, or itself (apimachinery, `UnstructuredJSONScheme`);
-- nothing if readers differ on whether it has items
abbrev pub opened : Data → Option (List Data)
opened d = if has_like_items d then None else opened_by d (get (codes "items") d)

-- what documents stand for, in order, if each stands for something
abbrev pub all_opened : List Data → Option (List Data)
all_opened [] = Some []
all_opened (d ∷ ds) = option_and_then (λ es. option_map (λ rest. es ++ rest) (all_opened ds)) (opened d)

-- the document has items, or a member that is like them
abbrev pub has_items : Data → Bool
has_items d = has_like_items d || is_some (get (codes "items") d)

abbrev pub without_items : List Data → Option (List Data)
without_items ds = if list_any has_items ds then None else Some ds

-- the objects of a document: its items, their items, and those of these; nothing if there are more below
abbrev pub objects_in : Data → Option (List Data)
objects_in d = option_and_then without_items (option_and_then all_opened (option_and_then all_opened (opened d)))

-- the document that a piece is, as its objects
abbrev pub objects_read : Read → List Data
objects_read (document d) = unwrap_or (objects_in d) []
objects_read fault = []

-- how many faults a piece is
abbrev pub faults_read : Read → ℕ
faults_read (document d) = if is_some (objects_in d) then 0 else 1
faults_read fault = 1

-- the first piece of a file begins like YAML
abbrev pub is_yaml : List (List ℕ) → Bool
is_yaml [] = false
is_yaml (piece ∷ later) = begins_yaml (slice_index piece 0)

-- the pieces of a file, read; a file that begins like YAML is one fault
abbrev pub readings_of : List (List ℕ) → List Read
readings_of ps = if is_yaml ps then fault ∷ [] else map read_piece ps

-- what the pieces of a file are
unfoldable pub readings : List ℕ → List Read
readings text = readings_of (pieces (unmarked text))

-- the objects of a file, in order
abbrev pub objects_of : List ℕ → List Data
objects_of text = flat_map objects_read (readings text)

-- how many pieces of a file are faults
abbrev pub sum_of : {X : Type 0} → (X → ℕ) → List X → ℕ
sum_of f [] = 0
sum_of f (x ∷ xs) = f x + sum_of f xs

abbrev pub bad_pieces : List ℕ → ℕ
bad_pieces text = sum_of faults_read (readings text)

-- ---- sorted

-- the tree of an object
abbrev pub data_of : Manifest → Data
data_of m = view m.object

-- the objects of what is found
abbrev pub objects_found : Piece → List Data
objects_found (found.Objects ms) = map data_of ms.items
objects_found (found.Fault f) = []

-- how many faults are found
abbrev pub faults_found : Piece → ℕ
faults_found (found.Objects ms) = 0
faults_found (found.Fault f) = 1

-- the namespaces among objects
abbrev pub namespaces_among : List ResourceRow → Selection → List ℕ → List Data → List Data
namespaces_among table scope given ds = flat_map (λ d. namespace_if (sort_of table scope given d) d) ds

-- the other objects that are loaded, as they are loaded
abbrev pub loaded_among : List ResourceRow → Selection → List ℕ → List Data → List Data
loaded_among table scope given ds = flat_map (λ d. object_if (sort_of table scope given d) given d) ds

-- how many objects are faults
abbrev pub faults_among : List ResourceRow → Selection → List ℕ → List Data → ℕ
faults_among table scope given ds = sum_of (λ d. faults_if (sort_of table scope given d)) ds

-- objects were taken, in order, and so many pieces that are faults
pub record Takes (options : Options) (before : Sorted) (after : Sorted) (ds : List Data) (bad : ℕ) : Type 0 where
  pub namespaces : map data_of after.namespaces.items ≡ map data_of before.namespaces.items ++ namespaces_among options.kinds.now options.scope options.namespace.now ds
  pub objects : map data_of after.objects.items ≡ map data_of before.objects.items ++ loaded_among options.kinds.now options.scope options.namespace.now ds
  pub faults : length after.faults.items ≡ length before.faults.items + (bad + faults_among options.kinds.now options.scope options.namespace.now ds)
