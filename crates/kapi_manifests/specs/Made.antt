-- The namespaces that objects name and no file has.
use Rattle.std.specs.Prelude.{ℕ, ◌==◌, Bool, if◌then◌else◌, List, [], ◌∷◌, length, codes, flat_map, is_some}
use Rattle.std.specs.BTreeMap.{insert_entry, is_at}
use Rattle.std.specs.Cmp.Lexicographic.{slice_cmp}
use Rattle.std.specs.Map.{lookup}
use Rattle.std.specs.Ordering.{nat_cmp}
use Rattle.serde_json.specs.Data.{Data, string, object, no_members, put}
use Rattle.serde_json.specs.View.{view}
use Rattle.kapi_model.specs.declared.row.ResourceRow.{ResourceRow}
use Rattle.kapi_manifests.specs.Kinds.{lives_in_namespace, metadata_text}
use Rattle.kapi_manifests.specs.declared.fault.Origin.{Origin}
use Rattle.kapi_manifests.specs.declared.sorted.Manifest.{Manifest}

-- names, each with the place of the object that names it
abbrev pub Names : Type 0
Names = List (List ℕ × Origin)

-- the names have this one
abbrev pub has : Names → List ℕ → Bool
has names name = is_some (lookup (is_at (slice_cmp nat_cmp name)) names)

-- the names with one more, or from another place
abbrev pub with_name : Names → List ℕ → Origin → Names
with_name names name origin = insert_entry (slice_cmp nat_cmp) names name origin

-- the names with those of namespaces
unfoldable pub with_names : Names → List Manifest → Names
with_names names [] = names
with_names names (m ∷ ms) = with_names (with_name names (metadata_text (codes "name") (view m.object)) m.origin) ms

-- the names of namespaces
abbrev pub known : List Manifest → Names
known namespaces = with_names [] namespaces

-- the namespace that an object lives in by a table of resource types; empty where it lives in none
unfoldable pub home : List ResourceRow → Data → List ℕ
home table d = if lives_in_namespace table d then metadata_text (codes "namespace") d else codes ""

-- the names with one more, unless it is empty, from the first place that needs it
abbrev pub with_need : Names → List ℕ → Origin → Names
with_need names name origin =
    if (length name == 0) then names else (if has names name then names else with_name names name origin)

-- the names with the namespaces that objects live in
unfoldable pub needed_from : List ResourceRow → Names → List Manifest → Names
needed_from table names [] = names
needed_from table names (m ∷ ms) = needed_from table (with_need names (home table (view m.object)) m.origin) ms

-- the namespace of a name, as an object
unfoldable pub namespace_of : List ℕ → Data
namespace_of name =
    object (put (codes "metadata") (object (put (codes "name") (string name) no_members))
    (put (codes "kind") (string (codes "Namespace"))
    (put (codes "apiVersion") (string (codes "v1")) no_members)))

-- the namespace of a name that is not known
abbrev pub made_if : Names → List ℕ → List Data
made_if names name = if has names name then [] else namespace_of name ∷ []

-- the namespaces in which objects live, but the given ones, in the order of their names
abbrev pub made : List ResourceRow → List Manifest → List Manifest → List Data
made table namespaces objects = flat_map (λ need. made_if (known namespaces) need.0) (needed_from table [] objects)
