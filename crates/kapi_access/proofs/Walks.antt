-- The walks over the bindings of a policy find what its definitions list.
use Rattle.std.proofs.Common.{◌≡◌, ℕ, Bool, true, false, cond, not, ◌==◌, if◌then◌else◌, List, [], ◌∷◌, ◌++◌, length, map, refl, sym, ap, ◌∙◌}
use Rattle.std.proofs.lemmas.Grind.{flat_map-append}
use Rattle.std.specs.List.{filter, flat_map}
use Rattle.std.specs.Str.{bytes_eq}
use Rattle.kapi_model.specs.declared.identity.Identity.{Identity}
use Rattle.kapi_model.specs.declared.binding.ClusterRoleBinding.{ClusterRoleBinding}
use Rattle.kapi_model.specs.declared.binding.RoleBinding.{RoleBinding}
use Rattle.kapi_rules.proofs.Covers.{same}
use Rattle.kapi_rules.specs.Rules.{allows}
use Rattle.kapi_rules.specs.declared.point.Point.{Point}
use Rattle.kapi_policy.specs.All.{all_bindings, bindings_in_namespaces, has_namespace}
use Rattle.kapi_policy.specs.Decided.{Binding, bindings_in, bindings_of, cluster_binding, is_in as is_there, namespace_binding}
use Rattle.kapi_policy.specs.Objects.{PolicyObjects}
use Rattle.kapi_policy.specs.Views.{binding_of}
use Rattle.kapi_policy.specs.declared.binding.Binding.{Binding as BoundBy}
use Rattle.kapi_policy.specs.declared.change.NamespacedName.{NamespacedName}
use Rattle.kapi_access.specs.Risks.{is_risky, risks}
use Rattle.kapi_rules.specs.declared.atom.Atom.{Atom}
use Rattle.kapi_access.specs.declared.grantee.Grantee.{Grantee}
use Rattle.kapi_access.specs.declared.identities.Identities.{Identities}
use Rattle.kapi_access.specs.Gained.{Gained, can_match, gained, gained_from}
use Rattle.kapi_access.specs.Given.{given_by, what}
use Rattle.kapi_access.specs.Views.{line_for, ways_there}
use Rattle.kapi_access.specs.Who.{counts, first_ways, listed_in, ways_of, who_anywhere, who_in, who_may}
use Rattle.kapi_access.specs.declared.first_ways.Listed.TheVariants as listed
use Rattle.kapi_access.specs.declared.question.Scope.{Scope}
use Rattle.kapi_access.specs.declared.question.Scope.TheVariants as scope

pub flat_map_map : {X Y Z : Type 0} (f : Y → List Z) (g : X → Y) (xs : List X) → flat_map (λ x. f (g x)) xs ≡ flat_map f (map g xs)
flat_map_map f g [] = refl
flat_map_map f g (x ∷ xs) = ap (λ l. f (g x) ++ l) (flat_map_map f g xs)

-- what the bindings of a namespace give is what all bindings give, without those that do not count there
module _ {Z : Type 0} (f : Binding → List Z) (objects : PolicyObjects) (namespace : List ℕ) where
  abbrev there : Binding → List Z
  there b = if counts namespace b then f b else []

  wide_count : (es : List (List ℕ × ClusterRoleBinding)) → flat_map there (map cluster_binding es) ≡ flat_map f (map cluster_binding es)
  wide_count [] = refl
  wide_count (e ∷ es) = ap (λ l. f (cluster_binding e) ++ l) (wide_count es)

  -- an entry counts if its namespace is that one, which is not empty
  one_more : (e : NamespacedName × RoleBinding) (left right : List (NamespacedName × RoleBinding)) (n c i : Bool) → (length e.0.namespace == 0) ≡ n → bytes_eq e.0.namespace namespace ≡ i → (i ≡ true → n ≡ c)
      → flat_map there (map namespace_binding left) ≡ (if c then [] else flat_map f (map namespace_binding right))
      → flat_map there (map namespace_binding (cond (not n) (e ∷ left) left)) ≡ (if c then [] else flat_map f (map namespace_binding (cond i (e ∷ right) right)))
  one_more e left right true true i empty is agree more = more
  one_more e left right true false true empty is agree more = absurd (let never = agree refl in cc)
  one_more e left right true false false empty is agree more = more
  one_more e left right false true true empty is agree more = absurd (let never = agree refl in cc)
  one_more e left right false true false empty is agree more = rw (empty, is) more
  one_more e left right false false true empty is agree more = rw (empty, is) (ap (λ l. f (namespace_binding e) ++ l) more)
  one_more e left right false false false empty is agree more = rw (empty, is) more

  none_counts : (c : Bool) → [] ≡ (if c then [] else flat_map f [])
  none_counts true = refl
  none_counts false = refl

  spaces_count : (es : List (NamespacedName × RoleBinding))
      → flat_map there (bindings_in_namespaces es) ≡ (if length namespace == 0 then [] else flat_map f (bindings_of namespace es))
  spaces_count [] = none_counts (length namespace == 0)
  spaces_count (e ∷ es) =
      one_more e (filter has_namespace es) (filter (λ (e : NamespacedName × RoleBinding). is_there namespace e.0) es) (length e.0.namespace == 0) (length namespace == 0) (bytes_eq e.0.namespace namespace) refl refl
      (λ is. ap (λ (t : List ℕ). length t == 0) (same e.0.namespace namespace is)) (spaces_count es)

  of_if : (c : Bool) (xs : List Binding) → (if c then [] else flat_map f xs) ≡ flat_map f (if c then [] else xs)
  of_if true xs = refl
  of_if false xs = refl

  pub all_count : flat_map there (all_bindings objects) ≡ flat_map f (bindings_in objects namespace)
  unfolding all_bindings bindings_in
  all_count =
      flat_map-append there (map cluster_binding objects.cluster_role_bindings) (bindings_in_namespaces objects.role_bindings)
      ∙ ap (λ l. l ++ flat_map there (bindings_in_namespaces objects.role_bindings)) (wide_count objects.cluster_role_bindings)
      ∙ ap (λ l. flat_map f (map cluster_binding objects.cluster_role_bindings) ++ l) (spaces_count objects.role_bindings ∙ of_if (length namespace == 0) (bindings_of namespace objects.role_bindings))
      ∙ sym (flat_map-append f (map cluster_binding objects.cluster_role_bindings) (if length namespace == 0 then [] else bindings_of namespace objects.role_bindings))

module _ (objects : PolicyObjects) (p : Point) (list : List BoundBy) (all : map binding_of list ≡ all_bindings objects) where
  walked : (there : Scope) → flat_map (λ b. ways_there objects (λ rule. allows rule p) there (binding_of b)) list ≡ flat_map (ways_there objects (λ rule. allows rule p) there) (all_bindings objects)
  walked there = flat_map_map (ways_there objects (λ rule. allows rule p) there) binding_of list ∙ ap (λ l. flat_map (ways_there objects (λ rule. allows rule p) there) l) all

  pub who_by_all : (there : Scope) → first_ways (listed_in there) (flat_map (λ b. ways_there objects (λ rule. allows rule p) there (binding_of b)) list) ≡ who_in objects there p
  unfolding who_may who_anywhere ways_there
  who_by_all (scope.Namespace n) = ap (first_ways listed.Once) (walked (scope.Namespace n) ∙ all_count (ways_of objects (λ rule. allows rule p)) objects n)
  who_by_all scope.Cluster = ap (first_ways listed.Once) (walked scope.Cluster ∙ all_count (ways_of objects (λ rule. allows rule p)) objects [])
  who_by_all scope.Everywhere = ap (first_ways listed.InEachScope) (walked scope.Everywhere)

pub risks_by_all : (objects : PolicyObjects) (list : List BoundBy) → map binding_of list ≡ all_bindings objects → first_ways listed.InEachScope (flat_map (λ b. ways_of objects is_risky (binding_of b)) list) ≡ risks objects
unfolding risks
risks_by_all objects list all = ap (first_ways listed.InEachScope) (flat_map_map (ways_of objects is_risky) binding_of list ∙ ap (λ l. flat_map (ways_of objects is_risky) l) all)

pub lines_alike : (to : Grantee) (b : Binding) (rule : ℕ) (list : List Atom) → flat_map (line_for to b rule) list ≡ map (λ a. record { to = to; binding = b; rule = rule; gain = a }) (filter (can_match b.namespace) list)
unfolding line_for
lines_alike to b rule [] = refl
lines_alike to b rule (a ∷ list) =
    elim (can_match b.namespace a) as (λ c. (if c then record { to = to; binding = b; rule = rule; gain = a } ∷ [] else []) ++ flat_map (line_for to b rule) list
    ≡ map (λ a. record { to = to; binding = b; rule = rule; gain = a }) (cond c (a ∷ filter (can_match b.namespace) list) (filter (can_match b.namespace) list))) [
      | true ↦ ap (λ (l : List Gained). record { to = to; binding = b; rule = rule; gain = a } ∷ l) (lines_alike to b rule list)
      | false ↦ lines_alike to b rule list
    ]

pub gained_by_all : (who : Identities) (before after : PolicyObjects) (list : List BoundBy) → map binding_of list ≡ all_bindings after
    → flat_map (λ b. gained_from who before after (binding_of b)) list ≡ gained who before after
unfolding gained
gained_by_all who before after list all = flat_map_map (gained_from who before after) binding_of list ∙ ap (λ l. flat_map (gained_from who before after) l) all

pub what_by_all : (objects : PolicyObjects) (identity : Identity) (list : List BoundBy) → map binding_of list ≡ all_bindings objects
    → flat_map (λ b. given_by objects identity (binding_of b)) list ≡ what objects identity
unfolding what
what_by_all objects identity list all = flat_map_map (given_by objects identity) binding_of list ∙ ap (λ l. flat_map (given_by objects identity) l) all
