-- Which members of an object's metadata are kept, one by one.
use Rattle.std.specs.Prelude.{ℕ, List, Bool, false, not, ◌&&◌, ◌||◌, if◌then◌else◌, is_some, codes}
use Rattle.std.specs.Str.{bytes_eq}
use Rattle.serde_json.specs.Data.{Data, Members, no_members, member}
use Rattle.serde_json.specs.Find.{as_null}
use Rattle.kapi_model.specs.declared.row.ResourceRow.{ResourceRow}
use Rattle.kapi_object.specs.Tree.{is_empty_object}

-- whether a member of the metadata is kept: labels and annotations that have entries, name and resource version, and the
-- namespace on resource types with namespaces; null is as if it were absent
abbrev pub is_kept : ResourceRow → List ℕ → Data → Bool
is_kept row key d =
    if is_some (as_null d) then false
    else (if bytes_eq key (codes "labels") || bytes_eq key (codes "annotations") then not (is_empty_object d)
    else bytes_eq key (codes "name") || (bytes_eq key (codes "resourceVersion") || (bytes_eq key (codes "namespace") && row.namespaced)))

-- the members of the metadata that are kept
abbrev pub kept_members : ResourceRow → Members → Members
kept_members row no_members = no_members
kept_members row (member key d ms) = if is_kept row key d then member key d (kept_members row ms) else kept_members row ms
