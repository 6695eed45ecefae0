-- The bindings of all namespaces, one namespace after the other.
use Rattle.std.proofs.Common.{◌≡◌, ℕ, Bool, true, false, ◌==◌, if◌then◌else◌, List, [], ◌∷◌, ◌++◌, length, map, refl, sym, ap, append_assoc, ◌∙◌}
use Rattle.std.proofs.lemmas.List.{map-append}
use Rattle.std.proofs.lemmas.List.Elements.{filter-append}
use Rattle.std.specs.List.{filter}
use Rattle.kapi_model.specs.declared.binding.RoleBinding.{RoleBinding}
use Rattle.kapi_policy.specs.All.{all_bindings, bindings_in_namespaces, has_namespace}
use Rattle.kapi_policy.specs.Decided.{Binding, cluster_binding, namespace_binding}
use Rattle.kapi_policy.specs.Objects.{PolicyObjects}
use Rattle.kapi_policy.specs.declared.decision.BindingKind.TheVariants as kind
use Rattle.kapi_index.specs.Contents.{binding_at, bindings_in, bindings_of_space, cluster_wide, in_all, placed}
use Rattle.kapi_index.specs.Scopes.{Scoped}
use Rattle.kapi_index.specs.declared.spaces.Namespace.{Namespace}

of_space : (ns : List ℕ) (n : Bool) → (length ns == 0) ≡ n → (es : List (List ℕ × RoleBinding))
    → bindings_in_namespaces (map (placed ns) es) ≡ (if n then [] else map (binding_at kind.RoleBinding ns) es)
of_space ns true is [] = refl
of_space ns false is [] = refl
of_space ns true is (e ∷ es) = rw is (of_space ns true is es)
of_space ns false is (e ∷ es) = rw is (ap (λ l. binding_at kind.RoleBinding ns e ∷ l) (of_space ns false is es))

-- the first namespace, and the others
pub of_spaces : (ns : List ℕ) (space : Namespace) (rest : List (List ℕ × Namespace))
    → bindings_in_namespaces (in_all bindings_in ((ns, space) ∷ rest)) ≡ bindings_of_space ns space ++ bindings_in_namespaces (in_all bindings_in rest)
unfolding bindings_of_space
of_spaces ns space rest =
    ap (map namespace_binding) (filter-append has_namespace (map (placed ns) (bindings_in space)) (in_all bindings_in rest))
    ∙ map-append namespace_binding (filter has_namespace (map (placed ns) (bindings_in space))) (filter has_namespace (in_all bindings_in rest))
    ∙ ap (λ l. l ++ bindings_in_namespaces (in_all bindings_in rest)) (of_space ns (length ns == 0) refl (bindings_in space))

-- one namespace more is listed
pub one_space : (old new start all : List Binding) (ns : List ℕ) (space : Namespace) (left rest : List (List ℕ × Namespace)) → left ≡ (ns, space) ∷ rest
    → old ++ bindings_in_namespaces (in_all bindings_in left) ≡ start ++ all → new ≡ old ++ bindings_of_space ns space
    → new ++ bindings_in_namespaces (in_all bindings_in rest) ≡ start ++ all
one_space old new start all ns space left rest step whole put =
    ap (λ l. l ++ bindings_in_namespaces (in_all bindings_in rest)) put
    ∙ append_assoc old (bindings_of_space ns space) (bindings_in_namespaces (in_all bindings_in rest))
    ∙ ap (λ l. old ++ l) (sym (of_spaces ns space rest) ∙ ap (λ l. bindings_in_namespaces (in_all bindings_in l)) (sym step))
    ∙ whole

pub of_cluster : (es : List (List ℕ × RoleBinding)) → map (binding_at kind.ClusterRoleBinding []) es ≡ map cluster_binding (map cluster_wide es)
of_cluster [] = refl
of_cluster (e ∷ es) = ap (λ l. binding_at kind.ClusterRoleBinding [] e ∷ l) (of_cluster es)

-- all bindings of a policy, from those of its scopes
pub all_of : (policy : PolicyObjects) (cluster : Scoped) (spaces : List (List ℕ × Namespace)) (list : List Binding) → policy.cluster_role_bindings ≡ map cluster_wide cluster.bindings
    → policy.role_bindings ≡ in_all bindings_in spaces → list ≡ map (binding_at kind.ClusterRoleBinding []) cluster.bindings ++ bindings_in_namespaces (in_all bindings_in spaces) → list ≡ all_bindings policy
unfolding all_bindings
all_of policy cluster spaces list wide there is =
    is ∙ ap (λ l. l ++ bindings_in_namespaces (in_all bindings_in spaces)) (of_cluster cluster.bindings ∙ ap (map cluster_binding) (sym wide))
    ∙ ap (λ l. map cluster_binding policy.cluster_role_bindings ++ bindings_in_namespaces l) (sym there)
