-- Keys: the places of objects, and the list of entries that a map of objects is.
use Rattle.std.specs.Prelude.{ℕ, Bool, List, [], codes}
use Rattle.std.specs.Ordering.{nat_cmp, ordering_then, is_eq}
use Rattle.std.specs.declared.cmp.Ordering.{Ordering}
use Rattle.std.specs.Cmp.Lexicographic.{slice_cmp}
use Rattle.kapi_store.specs.declared.key.Key.{Key}

-- keys are in order of group, resource, namespace and name, each by its bytes
abbrev pub key_cmp : Key → Key → Ordering
key_cmp a b =
    ordering_then (slice_cmp nat_cmp a.group b.group)
    (ordering_then (slice_cmp nat_cmp a.resource b.resource)
    (ordering_then (slice_cmp nat_cmp a.namespace b.namespace)
    (slice_cmp nat_cmp a.name b.name)))

-- whether another key is this one
abbrev pub is_key : Key → Key → Bool
is_key k l = is_eq (key_cmp k l)

-- the place of the Namespace object of this name
abbrev pub namespace_key : List ℕ → Key
namespace_key name = record { group = []; resource = codes "namespaces"; namespace = []; name = name }
