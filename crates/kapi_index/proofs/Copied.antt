-- Copies of scopes and of namespaces, entry by entry.
use Rattle.std.proofs.Common.{◌≡◌, ℕ, List, [], ◌∷◌, ◌++◌, map, refl, sym, ap, subst, string_bytes, ◌∙◌}
use Rattle.std.specs.BTreeMap.{insert_entry}
use Rattle.std.specs.Cmp.Lexicographic.{slice_cmp}
use Rattle.std.specs.List.{flat_map}
use Rattle.std.specs.List.Sorted.{IsStrictlySortedBy}
use Rattle.std.specs.Map.{keys_of}
use Rattle.std.specs.Ordering.{match_ordering, nat_cmp}
use Rattle.std.specs.declared.cmp.Ordering.TheVariants.{Less, Equal, Greater}
use Rattle.std.specs.declared.string.String.{String}
use Rattle.std.specs.declared.alloc.Global.{Global}
use Rattle.kapi_policy.proofs.Inserts.{one_more}
use Rattle.kapi_policy.specs.Objects.{name_cmp}
use Rattle.kapi_policy.specs.declared.change.NamespacedName.{NamespacedName}
use Rattle.kapi_model.specs.declared.binding.RoleBinding.{RoleBinding}
use Rattle.kapi_model.specs.declared.role.Role.{Role}
use Rattle.kapi_index.proofs.Finds.{name_total}
use Rattle.kapi_index.proofs.Spread.{insert_text}
use Rattle.kapi_index.specs.Contents.{AreNamed, AreDistinct, NamespaceContents, bindings_in, by_text, in_all, part, parts, placed, roles_in}
use Rattle.kapi_index.specs.Scopes.{bare}
use Rattle.kapi_index.specs.declared.scope.Bound.{Bound}
use Rattle.kapi_index.specs.declared.spaces.Namespace.{Namespace}

-- ---- scopes

keys_bare : (es : List (List ℕ × Bound)) → keys_of (bare es) ≡ keys_of es
keys_bare [] = refl
keys_bare (e ∷ es) = ap (λ l. e.0 ∷ l) (keys_bare es)

-- one binding more is copied
pub bound_more : (old new : List (List ℕ × RoleBinding)) (name : List ℕ) (b : Bound) (copy : RoleBinding) (left rest es : List (List ℕ × Bound))
    → left ≡ (name, b) ∷ rest → old ++ bare left ≡ bare es → IsStrictlySortedBy name_cmp (keys_of es) → copy ≡ b.binding
    → new ≡ insert_entry name_cmp old name copy → new ++ bare rest ≡ bare es
bound_more old new name b copy left rest es step whole sorted same put =
    one_more name_cmp name_total old name b.binding (bare rest) (bare es) new (subst (λ l. old ++ bare l ≡ bare es) step whole) (rw (keys_bare es) sorted) (put ∙ ap (insert_entry name_cmp old name) same)

-- ---- namespaces

keys_parts : (es : List (List ℕ × Namespace)) → keys_of (parts es) ≡ keys_of es
keys_parts [] = refl
keys_parts (e ∷ es) = ap (λ l. e.0 ∷ l) (keys_parts es)

parts_put : (es : List (List ℕ × Namespace)) (name : List ℕ) (w : Namespace) → parts (insert_entry name_cmp es name w) ≡ insert_entry name_cmp (parts es) name (part w)
parts_put [] name w = refl
parts_put (e ∷ es) name w =
    elim (name_cmp name e.0) as (λ r. parts (match_ordering r ((name, w) ∷ e ∷ es) ((e.0, w) ∷ es) (e ∷ insert_entry name_cmp es name w))
    ≡ match_ordering r ((name, part w) ∷ (e.0, part e.1) ∷ parts es) ((e.0, part w) ∷ parts es) ((e.0, part e.1) ∷ insert_entry name_cmp (parts es) name (part w))) [
      | Less ↦ refl
      | Equal ↦ refl
      | Greater ↦ ap (λ l. (e.0, part e.1) ∷ l) (parts_put es name w)
    ]

-- one namespace more is copied
pub space_more : (old new : List (String Global × Namespace)) (key name : String Global) (copy space : Namespace) (left rest es : List (String Global × Namespace))
    → left ≡ (name, space) ∷ rest → parts (by_text old) ++ parts (by_text left) ≡ parts (by_text es) → AreDistinct (by_text es) → part copy ≡ part space → string_bytes key ≡ string_bytes name
    → new ≡ insert_entry (λ a b. slice_cmp nat_cmp (string_bytes a) (string_bytes b)) old key copy → parts (by_text new) ++ parts (by_text rest) ≡ parts (by_text es)
space_more old new key name copy space left rest es step whole spread same named put =
    one_more name_cmp name_total (parts (by_text old)) (string_bytes name) (part space) (parts (by_text rest)) (parts (by_text es)) (parts (by_text new))
    (subst (λ l. parts (by_text old) ++ parts (by_text l) ≡ parts (by_text es)) step whole)
    (rw (keys_parts (by_text es)) spread.sorted)
    (ap (λ l. parts (by_text l)) put ∙ ap parts (insert_text old key copy) ∙ parts_put (by_text old) (string_bytes key) copy
    ∙ ap (λ n. insert_entry name_cmp (parts (by_text old)) n (part copy)) named ∙ ap (insert_entry name_cmp (parts (by_text old)) (string_bytes name)) same)

abbrev roles_of : List (List ℕ × NamespaceContents) → List (NamespacedName × Role)
roles_of ps = flat_map (λ s. map (placed s.0) s.1.roles) ps

abbrev bindings_of : List (List ℕ × NamespaceContents) → List (NamespacedName × RoleBinding)
bindings_of ps = flat_map (λ s. map (placed s.0) s.1.bound.bindings) ps

roles_of_parts : (a : List (List ℕ × Namespace)) → in_all roles_in a ≡ roles_of (parts a)
roles_of_parts [] = refl
roles_of_parts (s ∷ a) = ap (λ l. map (placed s.0) s.1.roles.entries ++ l) (roles_of_parts a)

bindings_of_parts : (a : List (List ℕ × Namespace)) → in_all bindings_in a ≡ bindings_of (parts a)
bindings_of_parts [] = refl
bindings_of_parts (s ∷ a) = ap (λ l. map (placed s.0) s.1.bound.bindings ++ l) (bindings_of_parts a)

abbrev named_parts : List (List ℕ × NamespaceContents) → Type 0
named_parts [] = Unit {0}
named_parts (p ∷ ps) = (p.1.bound.namespace ≡ p.0) × named_parts ps

from_names : (a : List (List ℕ × Namespace)) → AreNamed a → named_parts (parts a)
from_names [] all = tt
from_names (s ∷ a) all = (all.0, from_names a all.1)

to_names : (a : List (List ℕ × Namespace)) → named_parts (parts a) → AreNamed a
to_names [] all = tt
to_names (s ∷ a) all = (all.0, to_names a all.1)

pub same_roles : (a b : List (List ℕ × Namespace)) → parts a ≡ parts b → in_all roles_in a ≡ in_all roles_in b
same_roles a b same = roles_of_parts a ∙ ap roles_of same ∙ sym (roles_of_parts b)

pub same_bindings : (a b : List (List ℕ × Namespace)) → parts a ≡ parts b → in_all bindings_in a ≡ in_all bindings_in b
same_bindings a b same = bindings_of_parts a ∙ ap bindings_of same ∙ sym (bindings_of_parts b)

pub same_spread : (a b : List (List ℕ × Namespace)) → parts a ≡ parts b → AreDistinct b → AreDistinct a
same_spread a b same spread = record {
  sorted = subst (IsStrictlySortedBy name_cmp) (sym (keys_parts b) ∙ ap keys_of (sym same) ∙ keys_parts a) spread.sorted;
  named = to_names a (subst named_parts (sym same) (from_names b spread.named));
}
