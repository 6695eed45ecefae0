-- Paths as they are printed: what is no printable ASCII is escaped on a line.
use Rattle.std.specs.Prelude.{◌≡◌, ℕ, ◌==◌, Bool, not, ◌&&◌, ◌||◌, if◌then◌else◌, List, [], ◌∷◌, ◌++◌, length, map, codes, decimal, Option, Some, None, option_map}
use Rattle.std.specs.List.{enumerate_from, find, flat_map, list_any}
use Rattle.std.specs.Option.{option_map_or}
use Rattle.std.specs.Str.{bytes_eq}
use Rattle.serde_json.specs.Data.{Data, array, member, no_members, object, string}
use Rattle.serde_json.specs.View.{items_of}
use Rattle.serde_json.specs.Written.{compact_text}
use Rattle.kapi_lines.specs.declared.form.Form.{Form}
use Rattle.kapi_lines.specs.declared.form.Form.TheVariants as form
use Rattle.kapi_model.specs.Subjects.{subject_matches}
use Rattle.kapi_model.specs.declared.identity.Identity.{Identity}
use Rattle.kapi_model.specs.declared.policy_rule.PolicyRule.{PolicyRule}
use Rattle.kapi_policy.specs.Decided.{Binding, first_some}
use Rattle.kapi_policy.specs.Objects.{PolicyObjects}
use Rattle.kapi_policy.specs.declared.decision.BindingKind.{BindingKind}
use Rattle.kapi_policy.specs.declared.decision.BindingKind.TheVariants as binding
use Rattle.kapi_paths.specs.Asked.{is_everything, rules_at}
use Rattle.kapi_paths.specs.Chains.{Has}
use Rattle.kapi_paths.specs.Gathered.{known_of}
use Rattle.kapi_paths.specs.Graphs.{AreApart, HasAll, IsPath, is_listed, next_of}
use Rattle.kapi_paths.specs.Rights.{Row, row_of}
use Rattle.kapi_paths.specs.Sources.{sources}
use Rattle.kapi_paths.specs.Steps.{by_right, held_kind, identity_of, node}
use Rattle.kapi_paths.specs.contracts.node.NodePartialEq.TheImpl as node_eq
use Rattle.kapi_paths.specs.declared.node.Node.{Node}
use Rattle.kapi_paths.specs.declared.node.NodeKind.{NodeKind}
use Rattle.kapi_paths.specs.declared.node.NodeKind.TheVariants as kind
use Rattle.kapi_paths.specs.declared.path.Path.{Path}
use Rattle.kapi_paths.specs.declared.printed.Reason.{Reason as ReasonOfCode}
use Rattle.kapi_paths.specs.declared.printed.Step.{Step}
use Rattle.kapi_paths.specs.declared.steps.Known.{Known}
use Rattle.kapi_report.specs.Reports.{printable}

-- ---- names

-- a namespace, or every one
abbrev pub place_of : List ℕ → List ℕ
place_of place = if length place == 0 then codes "every namespace" else place

-- what is held in a namespace, or cluster-wide
abbrev pub held_at : List ℕ → List ℕ → List ℕ
held_at what place = if length place == 0 then what ++ codes " cluster-wide" else what ++ (codes " in " ++ place)

-- a role
abbrev pub role_text : NodeKind → List ℕ → List ℕ
role_text kind.Role name = codes "Role " ++ name
role_text other name = codes "ClusterRole " ++ name

-- a node
abbrev pub text_of : NodeKind → List ℕ → List ℕ → List ℕ
text_of kind.Everything place name = codes "everything"
text_of kind.EveryUser place name = codes "every user"
text_of kind.All place name = codes "all in " ++ place_of place
text_of kind.Accounts place name = codes "accounts of " ++ place_of place
text_of kind.Limits place name = codes "limits of " ++ place_of place
text_of kind.User place name = codes "User " ++ name
text_of kind.Group place name = codes "Group " ++ name
text_of kind.Account place name = codes "ServiceAccount " ++ (place ++ (codes "/" ++ name))
text_of kind.Role place name = held_at (role_text kind.Role name) place
text_of kind.ClusterRole place name = held_at (role_text kind.ClusterRole name) place

abbrev pub node_text : Node → List ℕ
node_text n = text_of n.kind n.place n.name

-- a binding
abbrev pub text_of_binding : BindingKind → List ℕ → List ℕ → List ℕ
text_of_binding binding.RoleBinding namespace name = codes "RoleBinding " ++ (namespace ++ (codes "/" ++ name))
text_of_binding binding.ClusterRoleBinding namespace name = codes "ClusterRoleBinding " ++ name

abbrev pub binding_text : Binding → List ℕ
binding_text b = text_of_binding b.kind b.namespace b.name

-- the verb and resource of a right
abbrev pub right_words : Row → List ℕ
right_words row =
    if length row.subresource == 0 then row.verb ++ (codes " " ++ row.resource)
    else row.verb ++ (codes " " ++ (row.resource ++ (codes "/" ++ row.subresource)))

-- a right that is held in a namespace, or cluster-wide
abbrev pub right_text : Row → List ℕ → List ℕ
right_text row place = held_at (right_words row) place

-- a rule of a role, by its index, behind the binding that gives the role, if there is one
abbrev pub by_text : List ℕ → List ℕ → ℕ → List ℕ
by_text binding role rule =
    if length binding == 0 then role ++ (codes ", rule " ++ decimal rule)
    else binding ++ (codes ", " ++ (role ++ (codes ", rule " ++ decimal rule)))

-- ---- reasons

-- the same node
abbrev pub same_node : Node → Node → Bool
same_node = (node_eq.ghosts).eq

-- a binding gives the identity the role
abbrev pub gives : Identity → Node → Binding → Bool
gives identity role b =
    same_node (node (held_kind b.role.kind) b.namespace b.role.name) role && list_any (λ s. subject_matches s b.namespace identity) b.subjects

-- the first binding that gives the node the role
abbrev pub binding_to : List Binding → Node → Node → List ℕ
binding_to bindings from role = option_map_or binding_text (find (gives (identity_of from.kind from.place from.name) role) bindings) []

-- the index of a rule, and a right
pub record Reason : Type 0 where
  pub rule : ℕ
  pub right : Row

abbrev pub reason_of : ReasonOfCode → Reason
reason_of r = record { rule = r.rule; right = row_of r.right }

-- a rule that is held in a place leads to the node by the right
abbrev pub leads : Known → List ℕ → Node → PolicyRule → Row → Bool
leads known place to rule row = list_any (λ n. same_node n to) (by_right known place rule row)

-- a rule with the first right by which it leads to the node, if there is one
abbrev pub reason_in : Known → List Row → List ℕ → Node → ℕ × PolicyRule → Option Reason
reason_in known rows place to numbered =
    option_map (λ row. record { rule = numbered.0; right = row }) (find (leads known place to numbered.1) rows)

-- the first rule of a role that leads to the node, with the first right by which it does
abbrev pub reason : PolicyObjects → Known → List Row → Node → Node → Option Reason
reason objects known rows role to =
    first_some (reason_in known rows role.place to) (enumerate_from 0 (rules_at objects role.kind role.place role.name))

-- a step for a reason, from a role that the binding gives; without one, to what a node has in it
abbrev pub step_for : List ℕ → Node → Node → Option Reason → Step
step_for binding from to None = record { right = node_text from; by = []; to = node_text to }
step_for binding from to (Some r) =
    record { right = right_text r.right from.place; by = by_text binding (role_text from.kind from.name) r.rule; to = node_text to }

abbrev pub step : PolicyObjects → Known → List Row → List ℕ → Node → Node → Step
step objects known rows binding from to = step_for binding from to (reason objects known rows from to)

-- the steps over the nodes, in order; the binding by which one comes to a role is printed with the step from there
abbrev pub steps : PolicyObjects → List Binding → Known → List Row → List ℕ → Node → List Node → List Step
steps objects bindings known rows binding from [] = []
steps objects bindings known rows binding from (to ∷ nodes) =
    if is_listed from.kind && not (is_listed to.kind) then steps objects bindings known rows (binding_to bindings from to) to nodes
    else step objects known rows binding from to ∷ steps objects bindings known rows [] to nodes

abbrev pub steps_of : PolicyObjects → List Binding → Known → List Row → Path → List Step
steps_of objects bindings known rows p = steps objects bindings known rows [] p.from p.nodes

-- ---- lines

abbrev pub line : List ℕ → List ℕ
line text = printable text ++ 10 ∷ []

-- the ends of a path
abbrev pub ends_text : Path → List ℕ
ends_text p = node_text p.from ++ (codes " -> " ++ node_text p.to)

abbrev pub step_text : Step → List ℕ
step_text s =
    if length s.by == 0 then s.right ++ (codes " -> " ++ s.to)
    else s.right ++ (codes " (" ++ (s.by ++ (codes ") -> " ++ s.to)))

-- a step, below the ends
abbrev pub step_line : Step → List ℕ
step_line s = codes "  " ++ line (step_text s)

-- a path as a line, and its steps below
abbrev pub path_lines : Path → List Step → List ℕ
path_lines p steps = line (ends_text p) ++ flat_map step_line steps

-- ---- JSON

abbrev pub step_tree : Step → Data
step_tree s = object (member (codes "by") (string s.by) (member (codes "right") (string s.right) (member (codes "to") (string s.to) no_members)))

abbrev pub path_tree : Path → List Step → Data
path_tree p steps =
    object (member (codes "from") (string (node_text p.from))
    (member (codes "steps") (array (items_of (map step_tree steps))) (member (codes "to") (string (node_text p.to)) no_members)))

-- a path as an object on a line
abbrev pub path_object : Path → List Step → List ℕ
path_object p steps = compact_text (path_tree p steps) ++ 10 ∷ []

-- ---- answers

abbrev pub path_text : Form → Path → List Step → List ℕ
path_text form.Json p steps = path_object p steps
path_text other p steps = path_lines p steps

-- the path leads to whom it is to, as it is printed, or to everything; no name stands for all
abbrev pub is_wanted : List ℕ → Path → Bool
is_wanted to p = (length to == 0 || is_everything p.to.kind) || bytes_eq (node_text p.to) to

-- what no path takes into account
abbrev pub unseen : List ℕ
unseen = codes "Not looked at: pod security, admission, the rights of nodes, and what runs in the cluster.\n"

-- a path that is wanted, with its steps
abbrev pub wanted_text : PolicyObjects → List Binding → Known → List Row → Form → List ℕ → Path → List ℕ
wanted_text objects bindings known rows f to p =
    if is_wanted to p then path_text f p (steps_of objects bindings known rows p) else []

-- in Markdown, paths are a block of text (GitHub Flavored Markdown, 'Fenced code blocks')
abbrev pub fence : Form → List ℕ
fence form.Markdown = codes "```\n"
fence form.Json = []
fence form.Table = []

-- the last line
abbrev pub end : Form → List ℕ
end form.Json = []
end form.Table = unseen
end form.Markdown = unseen

-- those of the paths that are wanted; as text the last line says what was not looked at
abbrev pub printed : PolicyObjects → List Binding → Known → List Row → Form → List ℕ → List Path → List ℕ
printed objects bindings known rows f to paths = fence f ++ (flat_map (wanted_text objects bindings known rows f to) paths ++ (end f ++ fence f))

-- the text is that of paths: from each subject of a binding a shortest one to everything, or else to each other node that it reaches
pub record IsAnswer (objects : PolicyObjects) (bindings : List Binding) (rows : List Row) (f : Form) (to text : List ℕ) : Type 0 where
  pub paths : List Path
  pub each : (p : Path) → Has paths p → IsPath (next_of objects bindings (known_of bindings) rows) (sources bindings) p
  pub once : AreApart paths
  pub listed : HasAll (next_of objects bindings (known_of bindings) rows) (sources bindings) paths
  pub printed_is : text ≡ printed objects bindings (known_of bindings) rows f to paths
