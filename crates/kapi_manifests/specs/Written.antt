-- Objects as the lines that a machine loads.
use Rattle.std.specs.Prelude.{◌≡◌, ℕ, ◌≤◌, ◌+◌, List, [], ◌∷◌, ◌++◌, ◌||◌, Bool, length, map, flat_map, filter, Some, codes}
use Rattle.std.specs.Str.{bytes_eq}
use Rattle.serde_json.specs.Data.{Data, depth}
use Rattle.serde_json.specs.Read.{max_depth, read}
use Rattle.kapi_model.specs.declared.row.ResourceRow.{ResourceRow}
use Rattle.kapi_manifests.specs.Dangling.{dangling, origin_of}
use Rattle.kapi_manifests.specs.Files.{bad_pieces, data_of, faults_among, loaded_among, namespaces_among, objects_of, sum_of}
use Rattle.kapi_manifests.specs.Kinds.{kind_of}
use Rattle.kapi_manifests.specs.Made.{made}
use Rattle.kapi_manifests.specs.DefaultObjects.{defaults_among, default_namespace_objects, all_default_objects}
use Rattle.kapi_manifests.specs.declared.fault.Origin.{Origin}
use Rattle.kapi_manifests.specs.declared.prepared.Lines.{Lines}
use Rattle.kapi_manifests.specs.declared.prepared.Prepared.{Prepared}
use Rattle.kapi_manifests.specs.declared.sorted.Manifest.{Manifest}
use Rattle.kapi_manifests.specs.declared.sorted.Selection.{Selection}
use Rattle.kapi_manifests.specs.declared.sorted.Sorted.{Sorted}

-- the text reads as the object, unless that nests deeper than a text may
abbrev pub IsTextOf : List ℕ → Data → Type 0
IsTextOf text d = depth d ≤ max_depth → read text ≡ Some d

-- lines, each of them the text of an object, in order
abbrev pub AreLines : List ℕ → List Data → Type 0
AreLines text [] = text ≡ []
AreLines text (d ∷ ds) = (line : List ℕ) × (rest : List ℕ) × (text ≡ line ++ 10 ∷ rest) × IsTextOf line d × AreLines rest ds

-- lines of those objects, and a place for each
pub record AreOf (l : Lines) (ds : List Data) : Type 0 where
  pub text : AreLines l.text.items ds
  pub origins : length l.origins.items ≡ length ds

-- the objects of all files, one file after the other
abbrev pub objects_in_all : List (List ℕ) → List Data
objects_in_all texts = flat_map objects_of texts

-- how many faults files have
abbrev pub faults_in_all : List ResourceRow → Selection → List ℕ → List (List ℕ) → ℕ
faults_in_all table scope given texts = sum_of bad_pieces texts + faults_among table scope given (objects_in_all texts)

-- what is loaded of namespaces and other objects: the namespaces, beside those that every policy has; those that the
-- objects live in besides; the roles and bindings that stand beneath, if the objects have no others; the objects
pub record Loaded (table : List ResourceRow) (defaults : Bool) (namespaces : List Manifest) (objects : List Manifest) (ds : List Data) : Type 0 where
  pub homes : List Manifest
  pub are_homes : map data_of homes ≡ defaults_among (map data_of namespaces) default_namespace_objects ++ map data_of namespaces
  pub all : ds ≡ map data_of homes ++ (made table homes objects ++ (defaults_among (map data_of objects) (all_default_objects defaults) ++ map data_of objects))

-- the object is of one of two kinds
abbrev pub is_either : List ℕ → List ℕ → Data → Bool
is_either kind other d = bytes_eq (kind_of d) kind || bytes_eq (kind_of d) other

-- how many roles there are among objects, and how many bindings
abbrev pub roles_among : List Data → ℕ
roles_among ds = length (filter (is_either (codes "Role") (codes "ClusterRole")) ds)

abbrev pub bindings_among : List Data → ℕ
bindings_among ds = length (filter (is_either (codes "RoleBinding") (codes "ClusterRoleBinding")) ds)

-- where the bindings begin whose role is neither among the objects nor beneath them
pub record IsDangling (defaults : Bool) (origins : List Origin) (objects : List Manifest) : Type 0 where
  pub others : List Manifest
  pub are_others : map data_of others ≡ defaults_among [] (all_default_objects defaults)
  pub all : origins ≡ dangling others objects

-- sorted objects are written as lines
pub record IsWritten (table : List ResourceRow) (defaults : Bool) (s : Sorted) (p : Prepared) : Type 0 where
  pub all : List Data
  pub loaded : Loaded table defaults s.namespaces.items s.objects.items all
  pub text : AreLines p.text.items all
  pub origins : length p.origins.items ≡ length all
  pub faults : p.faults ≡ s.faults
  pub roles : p.roles ≡ roles_among (map data_of s.objects.items)
  pub bindings : p.bindings ≡ bindings_among (map data_of s.objects.items)
  pub dangling : IsDangling defaults (map origin_of p.dangling.items) s.objects.items

-- what is loaded of files by a table of resource types, with the default roles beneath them or not, and a place for each line
pub record Loads (table : List ResourceRow) (scope : Selection) (given : List ℕ) (defaults : Bool) (texts : List (List ℕ)) (p : Prepared) : Type 0 where
  pub namespaces : List Manifest
  pub objects : List Manifest
  pub all : List Data
  pub are_namespaces : map data_of namespaces ≡ namespaces_among table scope given (objects_in_all texts)
  pub are_objects : map data_of objects ≡ loaded_among table scope given (objects_in_all texts)
  pub loaded : Loaded table defaults namespaces objects all
  pub text : AreLines p.text.items all
  pub origins : length p.origins.items ≡ length all
  pub roles : p.roles ≡ roles_among (map data_of objects)
  pub bindings : p.bindings ≡ bindings_among (map data_of objects)
  pub dangling : IsDangling defaults (map origin_of p.dangling.items) objects
