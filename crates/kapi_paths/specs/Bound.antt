-- Under which user or group the position of a binding is found.
use Rattle.std.specs.Prelude.{◌≡◌, ℕ, Bool, true, false, List, [], get_or, Some}
use Rattle.std.specs.BTreeMap.{BTreeMap, get}
use Rattle.std.specs.List.{list_any, slice_get}
use Rattle.std.specs.Option.{unwrap_or}
use Rattle.kapi_model.specs.Subjects.{account_user, namespace_of, subject_matches}
use Rattle.kapi_model.specs.declared.identity.Identity.{Identity}
use Rattle.kapi_model.specs.declared.subject.Subject.{Subject}
use Rattle.kapi_model.specs.declared.subject.Subject.TheVariants as subject
use Rattle.kapi_policy.specs.Decided.{Binding}
use Rattle.kapi_paths.specs.Chains.{Has}
use Rattle.kapi_paths.specs.Numbers.{node_cmp}
use Rattle.kapi_paths.specs.Steps.{node}
use Rattle.kapi_paths.specs.declared.node.Node.{Node}
use Rattle.kapi_paths.specs.declared.node.NodeKind.TheVariants as kind

-- the user or group of a subject; an account is the user that it is
abbrev pub key_of : List ℕ → Subject → Node
key_of namespace (subject.User name) = node kind.User [] name
key_of namespace (subject.Group name) = node kind.Group [] name
key_of namespace (subject.ServiceAccount account) = node kind.User [] (account_user (namespace_of account namespace) account.name)

-- the positions under a user or group
abbrev pub positions_at : BTreeMap Node (List ℕ) → Node → List ℕ
positions_at positions key = unwrap_or (get node_cmp positions key) []

-- each binding is found under the user or group of each of its subjects
abbrev pub AreUnder : BTreeMap Node (List ℕ) → List Binding → Type 0
AreUnder positions bindings =
    (i : ℕ) (b : Binding) (s : Subject) → slice_get bindings i ≡ Some b → Has b.subjects s → Has (positions_at positions (key_of b.namespace s)) i

abbrev pub IsMarked : List Bool → ℕ → Type 0
IsMarked marks i = get_or marks i false ≡ true

-- each binding that gives the identity its role is marked
abbrev pub AreMarked : Identity → List Binding → List Bool → Type 0
AreMarked identity bindings marks =
    (i : ℕ) (b : Binding) → slice_get bindings i ≡ Some b → list_any (λ s. subject_matches s b.namespace identity) b.subjects ≡ true → IsMarked marks i
