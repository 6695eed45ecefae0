-- Which watches a change may concern.
use Rattle.std.specs.Prelude.{ℕ, ◌*◌, ◌%◌, ◌^◌, ◌==◌, Bool, false, ◌||◌, List, [], ◌∷◌, Option, Some, None, option_and_then, option_map, bit_xor}
use Rattle.std.specs.List.{fold, list_any}
use Rattle.std.specs.Str.{bytes_eq}
use Rattle.kapi_answer.specs.Watch.{PlainWatching}
use Rattle.kapi_model.specs.Kinds.{rbac_group}
use Rattle.kapi_store.specs.Listing.{is_within}
use Rattle.kapi_store.specs.Plain.{PlainChange}
use Rattle.kapi_store.specs.declared.key.Key.{Key}
use Rattle.kapi_watch.specs.Watches.{later}
use Rattle.kapi_core.specs.Machine.{Link, Machine, link_at}

-- ---- what concerns a watch

-- the key is the place of a role or a binding, by which the rights of anybody may change
abbrev pub is_of_policy : Key → Bool
is_of_policy k = bytes_eq k.group rbac_group

-- a watch may show an object at the key, or end by it
abbrev pub may_concern : PlainWatching → Key → Bool
may_concern w k = is_of_policy k || is_within w.watch.scope.row w.watch.scope.namespace w.watch.scope.name k

-- the watch of a connection, if there is one
abbrev pub watch_on : Option Link → Option PlainWatching
watch_on l = option_and_then (λ (l : Link). l.watching) l

-- some of the changes may concern the watch, if there is one
abbrev pub fingerprint_some : List PlainChange → Option PlainWatching → Bool
fingerprint_some changes None = false
fingerprint_some changes (Some w) = list_any (λ c. may_concern w c.key) changes

-- some change after the revision may concern the watch of the connection of a number
abbrev pub is_concerned : Machine → ℕ → ℕ → Bool
is_concerned m id revision = fingerprint_some (later revision m.changes) (watch_on (link_at id m))

-- ---- fingerprints

-- the fingerprint of a text with one byte more (FNV-1a, http://www.isthe.com/chongo/tech/comp/fnv/)
abbrev pub fnv_step : ℕ → ℕ → ℕ
fnv_step hash byte = bit_xor hash byte * 1099511628211 % 2 ^ 64

-- the fingerprint of a resource in a namespace; if that is empty, in all
abbrev pub fingerprint_of : List ℕ → List ℕ → List ℕ → ℕ
fingerprint_of group resource namespace = fold fnv_step (fold fnv_step (fold fnv_step 14695981039346656037 group) resource) namespace

-- the fingerprints of the watches that may show an object at the key: those of its namespace, and those of all
abbrev pub fingerprints : Key → List ℕ
fingerprints k = fingerprint_of k.group k.resource k.namespace ∷ fingerprint_of k.group k.resource [] ∷ []

-- the fingerprint of a watch
abbrev pub fingerprint_of_watch : PlainWatching → ℕ
fingerprint_of_watch w = fingerprint_of w.watch.scope.row.group w.watch.scope.row.plural w.watch.scope.namespace

-- that of the watch of a connection, if there is one
abbrev pub fingerprint_on : Option Link → Option ℕ
fingerprint_on l = option_map fingerprint_of_watch (watch_on l)

-- the list has the fingerprint, if there is one
abbrev pub is_among : List ℕ → Option ℕ → Bool
is_among numbers None = false
is_among numbers (Some n) = list_any (λ m. m == n) numbers
