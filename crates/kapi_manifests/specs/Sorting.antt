-- What each object of a file is to the machine that loads the files.
use Rattle.std.specs.Prelude.{ℕ, ◌==◌, ◌&&◌, ◌||◌, not, Bool, true, false, if◌then◌else◌, List, [], ◌∷◌, length, codes, Option, Some, is_some}
use Rattle.serde_json.specs.Data.{Data, string, object, Members, no_members, put}
use Rattle.serde_json.specs.Find.{as_object, get}
use Rattle.kapi_model.specs.declared.row.ResourceRow.{ResourceRow}
use Rattle.kapi_manifests.specs.Kinds.{is_namespace, is_policy, kind_of, lives_in_namespace, metadata_text, version_of}
use Rattle.kapi_manifests.specs.declared.sorted.Selection.{Selection}
use Rattle.kapi_manifests.specs.declared.sorted.Selection.TheVariants.{Policy, All}
use Rattle.kapi_manifests.specs.declared.sorted.Sort.{Sort}
use Rattle.kapi_manifests.specs.declared.sorted.Sort.TheVariants as sort

-- only what counts for policy is loaded
abbrev pub is_for_policy : Selection → Bool
is_for_policy Policy = true
is_for_policy All = false

-- an object that lives in a namespace and names none, if this one is given
abbrev pub sort_without_namespace : List ℕ → Sort
sort_without_namespace given = if length given == 0 then sort.Homeless else sort.Placed

-- an object that lives in a namespace and names none
abbrev pub is_homeless : List ResourceRow → Data → Bool
is_homeless table d = lives_in_namespace table d && (length (metadata_text (codes "namespace") d) == 0)

-- what an object is that is no namespace
abbrev pub sort_of_object : List ResourceRow → Selection → List ℕ → Data → Sort
sort_of_object table scope given d =
    if is_for_policy scope && not (is_policy d) then sort.Skipped
    else (if is_homeless table d then sort_without_namespace given else sort.Loaded)

-- what an object is by a table of resource types, if objects without a namespace get the one that is given
unfoldable pub sort_of : List ResourceRow → Selection → List ℕ → Data → Sort
sort_of table scope given d =
    if (length (kind_of d) == 0) || (length (version_of d) == 0) then sort.Nameless
    else (if is_namespace d then sort.Namespace else sort_of_object table scope given d)

-- the members of an object; none of anything else
abbrev pub members_of : Option Data → Members
members_of (Some (object ms)) = ms
members_of _ = no_members

-- the object in a namespace: its metadata names it
unfoldable pub placed : List ℕ → Data → Data
placed namespace d =
    object (put (codes "metadata") (object (put (codes "namespace") (string namespace) (members_of (get (codes "metadata") d)))) (members_of (Some d)))

-- the object, of that kind and version
unfoldable pub named : List ℕ → List ℕ → Data → Data
named kind version d = object (put (codes "kind") (string kind) (put (codes "apiVersion") (string version) (members_of (Some d))))

-- the value has members, and says nothing of its kind
abbrev pub is_untyped : Data → Bool
is_untyped d = is_some (as_object d) && ((length (kind_of d) == 0) && (length (version_of d) == 0))

-- an item of a document whose items are of that kind and version (no kind: any), which it need not name
abbrev pub item_of : List ℕ → List ℕ → Data → Data
item_of kind version d = if not (length kind == 0) && is_untyped d then named kind version d else d

-- the object, if it is a namespace that is loaded
abbrev pub namespace_if : Sort → Data → List Data
namespace_if sort.Namespace d = d ∷ []
namespace_if _ d = []

-- the object as it is loaded, if it is and is no namespace
abbrev pub object_if : Sort → List ℕ → Data → List Data
object_if sort.Loaded given d = d ∷ []
object_if sort.Placed given d = placed given d ∷ []
object_if _ given d = []

-- how many faults an object is
abbrev pub faults_if : Sort → ℕ
faults_if sort.Nameless = 1
faults_if sort.Homeless = 1
faults_if _ = 0
