-- The bindings of a namespace, or the cluster-wide ones, and their index by subject.
use Rattle.std.specs.Prelude.{◌≡◌, ℕ, suc, ◌+◌, Bool, ◌&&◌, List, [], ◌∷◌, length, map, Option, Some, None}
use denote.Bor.{Bor}
use Rattle.std.specs.BTreeMap.{is_at}
use Rattle.std.specs.BTreeMap.Range.{is_from_start}
use Rattle.std.specs.List.{filter, find, fold, list_any}
use Rattle.std.specs.List.Sorted.{IsStrictlySortedBy}
use Rattle.std.specs.Map.{keys_of, lookup}
use Rattle.std.specs.Ordering.{match_ordering}
use Rattle.std.specs.declared.collections.Bound.{Bound as Start}
use Rattle.kapi_model.specs.Subjects.{subject_matches}
use Rattle.kapi_model.specs.declared.binding.RoleBinding.{RoleBinding}
use Rattle.kapi_model.specs.declared.identity.Identity.{Identity}
use Rattle.kapi_policy.specs.Objects.{name_cmp}
use Rattle.kapi_index.specs.Listed.{AreKeys, AreOrdered, has_name, is_key, names_at}
use Rattle.kapi_index.specs.Prepared.{groups_of, users_of}
use Rattle.kapi_index.specs.declared.scope.Bound.{Bound}

-- what is seen of a scope: its namespace, empty if it is cluster-wide, and its bindings by name
pub record Scoped : Type 0 where
  pub namespace : List ℕ
  pub bindings : List (List ℕ × RoleBinding)

-- the bindings without what was prepared
abbrev pub bare : List (List ℕ × Bound) → List (List ℕ × RoleBinding)
bare es = map (λ e. (e.0, e.1.binding)) es

-- whether some subject of a binding in the namespace matches the identity
abbrev pub matches : List ℕ → Identity → RoleBinding → Bool
matches namespace identity b = list_any (λ s. subject_matches s namespace identity) b.subjects

-- the looks that a walk over some bindings takes: one at each binding, and one at each of its subjects
abbrev pub looks : List (List ℕ × RoleBinding) → ℕ
looks [] = 0
looks (e ∷ es) = suc (length e.1.subjects) + looks es

-- the bindings from a name on that match the identity
abbrev pub left : Identity → Start (List ℕ) → Scoped → List (List ℕ × RoleBinding)
left identity start s = filter (λ e. is_from_start name_cmp start e.0 && matches s.namespace identity e.1) s.bindings

-- the keys of a binding, if there is one
abbrev pub keys_in : (Bound → List (List ℕ)) → Option Bound → List (List ℕ)
keys_in keys None = []
keys_in keys (Some b) = keys b

-- the users under whom a binding is indexed
abbrev pub user_keys : Bound → List (List ℕ)
user_keys b = b.keys.users

-- the groups under which a binding is indexed
abbrev pub group_keys : Bound → List (List ℕ)
group_keys b = b.keys.groups

-- the names under each key are those of the bindings that have it
pub record IsIndex (keys : Bound → List (List ℕ)) (es : List (List ℕ × Bound)) (sets : List (List ℕ × List (List ℕ))) : Type 0 where
  pub ordered : AreOrdered sets
  pub exact : (k n : List ℕ) → has_name sets k n ≡ is_key k (keys_in keys (lookup (is_at (name_cmp n)) es))

-- the lesser of two names, of which either may be missing
abbrev pub least : Option (List ℕ) → Option (List ℕ) → Option (List ℕ)
least None b = b
least (Some a) None = Some a
least (Some a) (Some b) = match_ordering (name_cmp a b) (Some a) (Some a) (Some b)

-- the least name from a start on under the user and the groups of an identity
abbrev pub first_name : List (List ℕ × List (List ℕ)) → List (List ℕ × List (List ℕ)) → Identity → Start (List ℕ) → Option (List ℕ)
first_name users groups identity start =
    fold (λ found g. least found (find (is_from_start name_cmp start) (names_at groups g)))
    (find (is_from_start name_cmp start) (names_at users identity.user)) identity.groups

-- the keys of a binding are those of its subjects
pub record IsPrepared (namespace : List ℕ) (b : Bound) : Type 0 where
  pub users : AreKeys b.keys.users (users_of namespace b.binding.subjects)
  pub groups : AreKeys b.keys.groups (groups_of b.binding.subjects)

-- each binding has the keys of its subjects
abbrev pub ArePrepared : List ℕ → List (List ℕ × Bound) → Type 0
ArePrepared namespace [] = Unit {0}
ArePrepared namespace (e ∷ es) = IsPrepared namespace e.1 × ArePrepared namespace es

-- the index is exactly the index of the bindings
pub record IsExact (namespace : List ℕ) (es : List (List ℕ × Bound)) (users groups : List (List ℕ × List (List ℕ))) : Type 0 where
  pub sorted : IsStrictlySortedBy name_cmp (keys_of es)
  pub prepared : ArePrepared namespace es
  pub by_user : IsIndex user_keys es users
  pub by_group : IsIndex group_keys es groups

-- a binding with its name, if there is one
abbrev pub with_name : List ℕ → Option Bound → Option (List ℕ × RoleBinding)
with_name name None = None
with_name name (Some b) = Some (name, b.binding)

-- a name and a binding without their references
abbrev pub named_now : Option (Bor (List ℕ) × Bor RoleBinding) → Option (List ℕ × RoleBinding)
named_now None = None
named_now (Some p) = Some (p.0.now, p.1.now)
