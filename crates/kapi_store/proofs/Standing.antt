-- The objects of a namespace, resource type by resource type.
use Rattle.std.proofs.Common.{◌≡◌, ℕ, Bool, true, false, ◌&&◌, ◌||◌, List, [], ◌∷◌, refl, ap, ◌∙◌}
use Rattle.std.specs.List.{list_any}
use Rattle.std.specs.Str.{bytes_eq}
use Rattle.kapi_store.specs.declared.stored.StoredObject.{StoredObject}
use Rattle.kapi_model.specs.declared.row.ResourceRow.{ResourceRow}
use Rattle.kapi_store.specs.declared.key.Key.{Key}
use Rattle.kapi_store.specs.Plain.{plain_of, trees, is_namespaced, holds_objects}
use Rattle.kapi_store.specs.Private.Span.{is_of, row_holds}
use Rattle.kapi_store.specs.State.{State, objects}

or_swap : (a b c : Bool) → (a || (b || c)) ≡ (b || (a || c))
or_swap true true c = refl
or_swap true false c = refl
or_swap false true c = refl
or_swap false false c = refl

-- one resource type and one object
one_more : (scoped group plural inside others more rest : Bool)
    → ((scoped && ((group && (plural && inside)) || more)) || ((others && inside) || rest)) ≡ ((((group && (plural && scoped)) || others) && inside) || ((scoped && more) || rest))
one_more false false plural inside others more rest = refl
one_more false true false inside others more rest = refl
one_more false true true inside others more rest = refl
one_more true true true true others more rest = refl
one_more true true true false true more rest = refl
one_more true true true false false more rest = refl
one_more true true false inside others more rest = or_swap more (others && inside) rest
one_more true false plural inside others more rest = or_swap more (others && inside) rest

never : (a : Bool) → ((a && false) || false) ≡ false
never true = refl
never false = refl

module _ {X : Type 0} (namespace : List ℕ) where
  one_row : (row : ResourceRow) (rows : List ResourceRow) (os : List (Key × X))
      → (row_holds os namespace row || list_any (λ e. is_namespaced rows e.0 && bytes_eq e.0.namespace namespace) os)
      ≡ list_any (λ e. is_namespaced (row ∷ rows) e.0 && bytes_eq e.0.namespace namespace) os
  one_row row rows [] = never row.namespaced
  one_row row rows (e ∷ os) =
      let inside : Bool = bytes_eq e.0.namespace namespace in
      let this : Bool = bytes_eq row.group e.0.group && (bytes_eq row.plural e.0.resource && row.namespaced) in
      one_more row.namespaced (bytes_eq row.group e.0.group) (bytes_eq row.plural e.0.resource) inside (is_namespaced rows e.0)
      (list_any (λ e. is_of row namespace e.0) os) (list_any (λ e. is_namespaced rows e.0 && bytes_eq e.0.namespace namespace) os)
      ∙ ap (λ b. ((this || is_namespaced rows e.0) && inside) || b) (one_row row rows os)

  none : (os : List (Key × X)) → false ≡ list_any (λ e. is_namespaced [] e.0 && bytes_eq e.0.namespace namespace) os
  none [] = refl
  none (e ∷ os) = none os

  all_rows : (rows : List ResourceRow) (os : List (Key × X))
      → list_any (row_holds os namespace) rows ≡ list_any (λ e. is_namespaced rows e.0 && bytes_eq e.0.namespace namespace) os
  all_rows [] os = none os
  all_rows (row ∷ rows) os = ap (λ b. row_holds os namespace row || b) (all_rows rows os) ∙ one_row row rows os

any_trees : (p : Key → Bool) (os : List (Key × StoredObject)) → list_any (λ e. p e.0) os ≡ list_any (λ e. p e.0) (trees os)
any_trees p [] = refl
any_trees p (e ∷ os) = ap (λ b. p e.0 || b) (any_trees p os)

-- a namespace holds an object if it holds one of a resource type
pub holds_by_rows : (s : State) (namespace : List ℕ) → list_any (row_holds (objects s) namespace) s.table ≡ holds_objects (plain_of s) namespace
holds_by_rows s namespace =
    all_rows namespace s.table (objects s) ∙ any_trees (λ k. is_namespaced s.table k && bytes_eq k.namespace namespace) (objects s)
