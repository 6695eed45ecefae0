-- Questions of whom a policy allows something, as words tell them.
use Rattle.std.specs.Prelude.{ℕ, ◌-◌, ◌==◌, ◌&&◌, ◌||◌, drop, length, take, Bool, false, if◌then◌else◌, List, [], ◌∷◌, codes, Option, Some, None}
use Rattle.std.specs.List.{after_first, before_first, slice_split}
use Rattle.std.specs.Str.{bytes_eq, is_utf8}
use Rattle.kapi_model.specs.Kinds.{rbac_group}
use Rattle.kapi_rules.specs.declared.point.Point.{Point}
use Rattle.kapi_rules.specs.declared.point.Point.TheVariants as point
use Rattle.kapi_access.specs.declared.question.KindNames.{KindNames as NamesOfKind}
use Rattle.kapi_access.specs.declared.question.Scope.{Scope}
use Rattle.kapi_access.specs.declared.question.Scope.TheVariants as scope
use Rattle.kapi_access.specs.declared.question.ScopedPoint.{ScopedPoint}

-- what stands before the first such byte, or all if there is none
abbrev pub before : ℕ → List ℕ → List ℕ
before byte s = before_first (λ b. b == byte) s

-- what stands after the first such byte, if there is one
abbrev pub after : ℕ → List ℕ → List ℕ
after byte s = after_first (λ b. b == byte) s

-- ---- short and singular names

-- a kind: its short and its singular name, its resource and group (kubectl, `kubectl api-resources`)
pub record KindNames : Type 0 where
  pub short : List ℕ
  pub singular : List ℕ
  pub resource : List ℕ
  pub group : List ℕ

-- a kind's names without their references
abbrev pub kind_of : NamesOfKind → KindNames
kind_of k = record { short = k.short.now; singular = k.singular.now; resource = k.resource.now; group = k.group.now }

-- a kind of the core group
abbrev pub core_kind : List ℕ → List ℕ → List ℕ → KindNames
core_kind short singular resource = record { short = short; singular = singular; resource = resource; group = [] }

-- a kind of roles and bindings, which has no short name
abbrev pub rbac_kind : List ℕ → List ℕ → KindNames
rbac_kind singular resource = record { short = singular; singular = singular; resource = resource; group = rbac_group }

-- the kinds that Kapi keeps
unfoldable pub kinds : List KindNames
kinds =
    core_kind (codes "po") (codes "pod") (codes "pods")
    ∷ core_kind (codes "cm") (codes "configmap") (codes "configmaps")
    ∷ core_kind (codes "secret") (codes "secret") (codes "secrets")
    ∷ core_kind (codes "sa") (codes "serviceaccount") (codes "serviceaccounts")
    ∷ core_kind (codes "no") (codes "node") (codes "nodes")
    ∷ core_kind (codes "ns") (codes "namespace") (codes "namespaces")
    ∷ record { short = codes "deploy"; singular = codes "deployment"; resource = codes "deployments"; group = codes "apps" }
    ∷ rbac_kind (codes "role") (codes "roles")
    ∷ rbac_kind (codes "rolebinding") (codes "rolebindings")
    ∷ rbac_kind (codes "clusterrole") (codes "clusterroles")
    ∷ rbac_kind (codes "clusterrolebinding") (codes "clusterrolebindings")
    ∷ []

-- the word is the kind's short or singular name, in its group or in none
abbrev pub is_called : List ℕ → List ℕ → KindNames → Bool
is_called word group k = (bytes_eq k.short word || bytes_eq k.singular word) && (length group == 0 || bytes_eq k.group group)

-- the resource and group of the first kind that is called so; the word and group themselves if there is none
abbrev pub full_among : List KindNames → List ℕ → List ℕ → List ℕ × List ℕ
full_among [] word group = (word, group)
full_among (k ∷ kinds) word group = if is_called word group k then (k.resource, k.group) else full_among kinds word group

-- a resource and its group, in full
unfoldable pub in_full : List ℕ → List ℕ → List ℕ × List ℕ
in_full word group = full_among kinds word group

-- ---- questions

-- `RESOURCE.GROUP`, of which the group may be left out
abbrev pub kind_in : List ℕ → List ℕ × List ℕ
kind_in text = in_full (before 46 text) (after 46 text)

-- `RESOURCE.GROUP/SUBRESOURCE`, of which the group and the subresource may be left out
abbrev pub resource_point : List ℕ → List ℕ → List ℕ → Point
resource_point verb resource name = point.Resource (record {
  verb = verb;
  group = (kind_in (before 47 resource)).1;
  resource = (kind_in (before 47 resource)).0;
  subresource = after 47 resource;
  name = name;
})

-- a path begins with a slash
abbrev pub begins_with_slash : List ℕ → Bool
begins_with_slash [] = false
begins_with_slash (b ∷ s) = b == 47

-- a path is asked about cluster-wide
abbrev pub question_of : List ℕ → List ℕ → Scope → List ℕ → ScopedPoint
question_of verb resource s name =
    if begins_with_slash resource then record { scope = scope.Cluster; point = point.Url (record { verb = verb; path = resource }) }
    else record { scope = s; point = resource_point verb resource name }

-- ---- a line of a file of questions

-- words with one space between them
abbrev pub words_in : List ℕ → List (List ℕ)
words_in s = slice_split (λ b. b == 32) s

-- `*` asks cluster-wide
abbrev pub scope_in : List ℕ → Scope
scope_in word = if bytes_eq word (codes "*") then scope.Cluster else scope.Namespace word

-- `VERB RESOURCE [NAMESPACE [NAME]]`
abbrev pub question_by : List (List ℕ) → Option ScopedPoint
question_by (verb ∷ resource ∷ []) = Some (question_of verb resource scope.Cluster [])
question_by (verb ∷ resource ∷ namespace ∷ []) = Some (question_of verb resource (scope_in namespace) [])
question_by (verb ∷ resource ∷ namespace ∷ name ∷ []) = Some (question_of verb resource (scope_in namespace) name)
question_by _ = None

-- a line without the carriage return at its end, if it has one
unfoldable pub without_return : List ℕ → List ℕ
without_return line = if bytes_eq (drop (length line - 1) line) (13 ∷ []) then take (length line - 1) line else line

-- the question of a line, if it is one
unfoldable pub question_in : List ℕ → Option ScopedPoint
question_in line = if is_utf8 (without_return line) then question_by (words_in (without_return line)) else None
