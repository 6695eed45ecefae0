-- The resource types that the objects of files of kinds name (Kubernetes, 'kubectl api-resources' and
-- 'CustomResourceDefinition v1 apiextensions.k8s.io').
use Rattle.std.specs.Prelude.{ℕ, ◌==◌, Bool, true, false, not, ◌&&◌, ◌||◌, if◌then◌else◌, List, [], ◌∷◌, length, map, slice_index, find, codes, Option, Some, None, option_and_then, option_map, is_some}
use Rattle.std.specs.Borrow.{Bor}
use Rattle.std.specs.Char.{is_ascii_alphabetic, to_ascii_lowercase}
use Rattle.std.specs.List.{list_all}
use Rattle.std.specs.Str.{bytes_eq}
use Rattle.serde_json.specs.Data.{Data, Items, boolean, object, Members, no_members, member}
use Rattle.serde_json.specs.Find.{as_array, as_bool, as_object, as_str, get, pointer}
use Rattle.serde_json.specs.View.{view}
use Rattle.serde_json.specs.declared.value.Value.{Value}
use Rattle.kapi_model.specs.Kinds.{rbac_group}
use Rattle.kapi_model.specs.Names.{is_dns_label, is_dns_subdomain}
use Rattle.kapi_model.specs.declared.row.ResourceRow.{ResourceRow}
use Rattle.kapi_model.specs.declared.row.Schema.TheVariants as schema
use Rattle.kapi_core.specs.Table.{is_further, reviews_group}
use Rattle.kapi_manifests.specs.Files.{listed}
use Rattle.kapi_manifests.specs.Kinds.{kind_of, text_or_empty, version_of}
use Rattle.kapi_kinds.specs.declared.named.Named.{Named}

infixl 10 ◌>>=◌
-- a value that depends on another, if there is one
abbrev pub ◌>>=◌ : {A B : Type 0} → Option A → (A → Option B) → Option B
o >>= f = option_and_then f o

-- the items of an array, if there is one
abbrev pub items_or_none : Option Items → List Data
items_or_none (Some ds) = listed ds
items_or_none None = []

-- the resource type of an open schema with these names
abbrev pub open_resource : List ℕ → List ℕ → List ℕ → List ℕ → Bool → Bool → ResourceRow
open_resource group version plural kind namespaced has_status =
    record { group = group; version = version; plural = plural; kind = kind; namespaced = namespaced; has_status = has_status; schema = schema.Open }

-- ---- a line as `kubectl api-resources` names a kind

-- what a member is; this one if it is absent
abbrev pub unless_absent : {X : Type 0} → X → (Data → Option X) → Option Data → Option X
unless_absent x f None = Some x
unless_absent x f (Some d) = f d

-- the keys of members
abbrev pub keys : Members → List (List ℕ)
keys no_members = []
keys (member key d ms) = key ∷ keys ms

-- a line may have a member at this key
abbrev pub is_column : List ℕ → Bool
is_column key =
    bytes_eq key (codes "group") || (bytes_eq key (codes "version") || (bytes_eq key (codes "resource")
    || (bytes_eq key (codes "kind") || (bytes_eq key (codes "namespaced") || bytes_eq key (codes "status")))))

-- an object that has no other members than a line may have
abbrev pub is_line : Data → Bool
is_line (object ms) = list_all is_column (keys ms)
is_line _ = false

-- the resource type that the members of a line name; the group and the status may be absent
unfoldable pub line_in : Data → Option ResourceRow
line_in d = do
  group ← unless_absent [] as_str (get (codes "group") d)
  version ← option_and_then as_str (get (codes "version") d)
  plural ← option_and_then as_str (get (codes "resource") d)
  kind ← option_and_then as_str (get (codes "kind") d)
  namespaced ← option_and_then as_bool (get (codes "namespaced") d)
  status ← unless_absent false as_bool (get (codes "status") d)
  Some (open_resource group version plural kind namespaced status)

-- ---- a CustomResourceDefinition

abbrev pub is_definition : Data → Bool
is_definition d = bytes_eq (version_of d) (codes "apiextensions.k8s.io/v1") && bytes_eq (kind_of d) (codes "CustomResourceDefinition")

-- the objects of a scope live in namespaces, or do not
abbrev pub scope_named : List ℕ → Option Bool
scope_named scope =
    if bytes_eq scope (codes "Namespaced") then Some true else (if bytes_eq scope (codes "Cluster") then Some false else None)

abbrev pub is_true : Option Data → Bool
is_true (Some (boolean b)) = b
is_true _ = false

-- a version that is served
abbrev pub is_served : Data → Bool
is_served version = is_true (get (codes "served") version)

-- a version that has the subresource `status`
abbrev pub has_status : Data → Bool
has_status version = is_some (option_and_then as_object (pointer (codes "/subresources/status") version))

-- the resource type that a definition names, of its first served version
unfoldable pub definition_in : Data → Option ResourceRow
definition_in d = do
  group ← option_and_then as_str (pointer (codes "/spec/group") d)
  plural ← option_and_then as_str (pointer (codes "/spec/names/plural") d)
  kind ← option_and_then as_str (pointer (codes "/spec/names/kind") d)
  namespaced ← scope_named (text_or_empty (pointer (codes "/spec/scope") d))
  served ← find is_served (items_or_none (option_and_then as_array (pointer (codes "/spec/versions") d)))
  version ← option_and_then as_str (get (codes "name") served)
  Some (open_resource group version plural kind namespaced (has_status served))

-- ---- the row of an object

abbrev pub form_in : Data → Option ResourceRow
form_in d = if is_definition d then definition_in d else (if is_line d then line_in d else None)

-- the group of roles and bindings, or that of reviews, which have the resource types of the programs alone
abbrev pub is_reserved : List ℕ → Bool
is_reserved group = bytes_eq group rbac_group || bytes_eq group reviews_group

-- the core group, or a DNS subdomain
abbrev pub is_group : List ℕ → Bool
is_group group = (length group == 0) || is_dns_subdomain group

abbrev pub begins_with_letter : List ℕ → Bool
begins_with_letter text = is_ascii_alphabetic (slice_index text 0)

-- a kind begins with a letter, and is a DNS label in lower case
abbrev pub is_kind : List ℕ → Bool
is_kind kind = begins_with_letter kind && is_dns_label (map to_ascii_lowercase kind)

-- a resource type that may be added to a table: of an open schema, of a group that is not reserved, and with good names
abbrev pub is_added : ResourceRow → Bool
is_added row =
    is_further row && (not (is_reserved row.group)
    && (is_group row.group && (is_dns_label row.version && (is_dns_label row.plural && is_kind row.kind))))

abbrev pub if_added : ResourceRow → Option ResourceRow
if_added row = if is_added row then Some row else None

-- the resource type that an object names, if it is of one of the two forms and the resource type may be added
unfoldable pub row_in : Data → Option ResourceRow
row_in d = option_and_then if_added (form_in d)

-- ---- as the code has them

-- a value, if there is one
abbrev pub told : Option (Bor Value) → Option Data
told o = option_map (λ v. view v.now) o

-- what the code read, as a resource type
abbrev pub row_named : Named → ResourceRow
row_named n = open_resource n.group.now n.version.now n.resource.now n.kind.now n.namespaced n.has_status
