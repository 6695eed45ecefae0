-- What bindings say of a cluster.
use Rattle.std.specs.Prelude.{ℕ, ◌==◌, Bool, if◌then◌else◌, List, [], ◌∷◌, ◌++◌, length, map, codes, nat_eq}
use Rattle.std.specs.BTreeSet.{insert_key}
use Rattle.std.specs.List.{flat_map, fold, starts_with}
use Rattle.std.specs.declared.cmp.Ordering.{Ordering}
use Rattle.kapi_policy.specs.Decided.{Binding}
use Rattle.kapi_policy.specs.Objects.{name_cmp, place_cmp}
use Rattle.kapi_policy.specs.declared.change.NamespacedName.{NamespacedName}
use Rattle.kapi_paths.specs.Sources.{sources}
use Rattle.kapi_paths.specs.declared.node.NodeKind.{NodeKind}
use Rattle.kapi_paths.specs.declared.node.NodeKind.TheVariants as kind
use Rattle.kapi_paths.specs.declared.steps.Known.{Known}

-- the items in their order, each once
abbrev pub in_order : {X : Type 0} → (X → X → Ordering) → List X → List X
in_order cmp list = fold (insert_key cmp) [] list

abbrev pub account : List ℕ → List ℕ → NamespacedName
account namespace name = record { namespace = namespace; name = name }

-- the account that each namespace has (Kubernetes, 'Managing Service Accounts')
abbrev pub default_in : List ℕ → List NamespacedName
default_in namespace = if length namespace == 0 then [] else account namespace (codes "default") ∷ []

-- a node as an account, if it is one
abbrev pub account_named : NodeKind → List ℕ → List ℕ → List NamespacedName
account_named kind.Account place name = account place name ∷ []
account_named other place name = []

-- the name of a user is that of an account
unfoldable pub is_account : List ℕ → Bool
is_account name = starts_with nat_eq name (codes "system:serviceaccount:")

-- the name of a node, if it is a user, and no account
abbrev pub user_named : NodeKind → List ℕ → List (List ℕ)
user_named kind.User name = if is_account name then [] else name ∷ []
user_named other name = []

-- the account `default` of the namespaces `default` and `kube-system`, and of each namespace of a binding
abbrev pub defaults : List Binding → List NamespacedName
defaults bindings = default_in (codes "default") ++ default_in (codes "kube-system") ++ flat_map (λ b. default_in b.namespace) bindings

-- the accounts `default`, and those that bindings name
abbrev pub accounts : List Binding → List NamespacedName
accounts bindings = defaults bindings ++ flat_map (λ n. account_named n.kind n.place n.name) (sources bindings)

-- the users that are bound
abbrev pub users : List Binding → List (List ℕ)
users bindings = flat_map (λ n. user_named n.kind n.name) (sources bindings)

-- the accounts with their namespaces, and the users
unfoldable pub known_of : List Binding → Known
known_of bindings = record {
  namespaces = in_order name_cmp (map (λ a. a.namespace) (accounts bindings));
  accounts = in_order place_cmp (accounts bindings);
  users = in_order name_cmp (users bindings);
}
