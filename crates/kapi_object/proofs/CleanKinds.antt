-- Roles, bindings and their parts have, as they are written, what is kept of them by their tables.
use Rattle.std.proofs.Common.{◌≡◌, ◌∙◌, ℕ, List, [], ◌∷◌, Bool, true, false, ◌&&◌, ◌||◌, Option, Some, None, refl, sym, ap, subst, codes, is_some, if◌then◌else◌, length, ◌==◌, bytes_eq}
use Rattle.std.proofs.Math.Dec.{eqb-suc-zero}
use Rattle.std.proofs.lemmas.Slice.Eq.{bytes_eq-Decides}
use Rattle.std.specs.Option.{option_and_then, option_map, unwrap_or}
use Rattle.serde_json.specs.Data.{Data, string, array, object, Items, no_items, item, Members, no_members, put}
use Rattle.serde_json.specs.Find.{as_object, get_member}
use Rattle.kapi_model.specs.FaultKind.{fault}
use Rattle.kapi_model.specs.Kinds.{operator_of, operator_text, rbac_group, role_kind, role_kind_text, subject_kind, subject_kind_text}
use Rattle.kapi_model.specs.declared.fault.FaultKind.TheVariants.{Required, BadValue}
use Rattle.kapi_model.specs.declared.fault.FieldFault.{FieldFault}
use Rattle.kapi_model.specs.declared.kinds.RoleKind.TheVariants as role_kinds
use Rattle.kapi_model.specs.declared.kinds.SubjectKind.{SubjectKind}
use Rattle.kapi_model.specs.declared.kinds.SubjectKind.TheVariants.{User, Group, ServiceAccount}
use Rattle.kapi_model.specs.declared.selector.Operator.TheVariants.{In, NotIn, Exists, DoesNotExist}
use Rattle.kapi_object.proofs.Fields.{verbs_at, groups_at, resources_at, names_at, urls_at, key_at, operator_here, values_at, labels_at, expressions_at, account_kind_at, account_name_at, account_group_at, account_namespace_at}
use Rattle.kapi_object.proofs.Puts.{put_if_other, put_if_here, list_there, written_at_once}
use Rattle.kapi_object.specs.Contents.{text_if, text_at, text_of, text_value, items_if, items_at, list_value, read_items, write_items, rule_of, rule_tree, rules_of, requirement_of, requirement_tree, selector_of, selector_tree, aggregation_of, aggregation_tree, aggregation_in, subject_from, subject_of, subject_tree, subject_kind_at, subjects_of, role_ref_if, role_ref_of, role_ref_tree, role_content, cluster_role_content, binding_content}
use Rattle.kapi_object.specs.Tree.{is_empty, member_of, unless_null}
use Rattle.kapi_object.proofs.CleanLists.{parts, list_parts}
use Rattle.kapi_object.proofs.CleanTables.{Found, text_written}
use Rattle.kapi_object.proofs.KeptParts.{Keeps, filled, part_value}
use Rattle.kapi_object.specs.Shapes.{Says, passes, element_faults, part_faults, rows_faults}
use Rattle.kapi_object.specs.Tables.{rows_of, urls}
use Rattle.kapi_object.specs.Typed.{need_faults, list_faults, is_right, is_required, member_path, object_faults, text_faults, text_item_faults}
use Rattle.kapi_object.specs.declared.table.ValueRule.{ValueRule}
use Rattle.kapi_object.specs.declared.table.ValueRule.TheVariants as part
use Rattle.kapi_object.specs.declared.table.Table.{Table}
use Rattle.kapi_object.specs.declared.table.Table.TheVariants as table
use Rattle.kapi_object.specs.declared.text_rule.TextRule.{TextRule}
use Rattle.kapi_object.specs.declared.text_rule.TextRule.TheVariants as rule
use Rattle.kapi_object.specs.declared.typed_list.Presence.{Presence}
use Rattle.kapi_object.specs.declared.typed_list.Presence.TheVariants as need

-- what is kept of each sort of objects: what is read of it, written
abbrev pub kept_of : Keeps
kept_of table.Role d = object (role_content (rules_of d))
kept_of table.ClusterRole d = object (cluster_role_content (aggregation_in d) (rules_of d))
kept_of table.RoleBinding d = object (binding_content (subjects_of d) (role_ref_of d))
kept_of table.ClusterRoleBinding d = object (binding_content (subjects_of d) (role_ref_of d))
kept_of table.RoleRule d = rule_tree (rule_of d)
kept_of table.ClusterRoleRule d = rule_tree (rule_of d)
kept_of table.AggregationRule d = aggregation_tree (aggregation_of d)
kept_of table.Selector d = selector_tree (selector_of d)
kept_of table.Requirement d = requirement_tree (requirement_of d)
kept_of table.Subject d = subject_tree (subject_of d)
kept_of table.ClusterSubject d = subject_tree (subject_of d)
kept_of table.RoleRef d = role_ref_tree (role_ref_if (Some d))
kept_of table.ClusterRoleRef d = role_ref_tree (role_ref_if (Some d))

subject_is_object : (k : SubjectKind) (name namespace : List ℕ) → is_some (as_object (subject_tree (subject_from k name namespace))) ≡ true
unfolding subject_tree
subject_is_object User name namespace = refl
subject_is_object Group name namespace = refl
subject_is_object ServiceAccount name namespace = refl

pub is_object : (t : Table) (d : Data) → is_some (as_object (kept_of t d)) ≡ true
unfolding rule_tree aggregation_tree selector_tree requirement_tree role_ref_tree
is_object table.Subject d = subject_is_object (subject_kind_at (codes "kind") d) (text_at (codes "name") d) (text_at (codes "namespace") d)
is_object table.ClusterSubject d = subject_is_object (subject_kind_at (codes "kind") d) (text_at (codes "name") d) (text_at (codes "namespace") d)
is_object _ d = refl

-- ---- texts that must be there

not_absent : (a : Bool) (f : FieldFault) → a ≡ true → (if a then f ∷ [] else []) ≡ [] → ⊥
not_absent true f e h = cc h
not_absent false f e h = cc e

not_empty : (a b : Bool) (f g : FieldFault) → a ≡ true → (if a && true then f ∷ [] else (if b then [] else g ∷ [])) ≡ [] → ⊥
not_empty true b f g e h = cc h
not_empty false b f g e h = cc e

right_if : (a b : Bool) (f g : FieldFault) → (if a then f ∷ [] else (if b then [] else g ∷ [])) ≡ [] → b ≡ true
right_if true b f g h = absurd (cc h)
right_if false true f g h = refl
right_if false false f g h = absurd (cc h)

-- a required text is there
there : (r : TextRule) (p : List ℕ) (o : Option Data) → is_required r ≡ true → text_faults r p o ≡ [] → Some (string (text_if o)) ≡ text_value (text_if o)
unfolding text_faults
there r p None e h = absurd (not_absent (is_required r) (fault p Required) e h)
there r p (Some (string [])) e h = absurd (not_empty (is_required r) (is_right r []) (fault p Required) (fault p BadValue) e h)
there r p (Some (string (x ∷ s))) e h = sym (text_written x s)
there r p (Some _) e h = absurd (cc h)

-- a required text that is there obeys its rule
right : (r : TextRule) (p : List ℕ) (o : Option Data) → is_required r ≡ true → text_faults r p o ≡ [] → is_right r (text_if o) ≡ true
unfolding text_faults
right r p None e h = absurd (not_absent (is_required r) (fault p Required) e h)
right r p (Some (string s)) e h = right_if (is_required r && (length s == 0)) (is_right r s) (fault p Required) (fault p BadValue) h
right r p (Some _) e h = absurd (cc h)

-- ---- kinds are written as they were read

one : {X : Type 0} (text : X → List ℕ) (x e : X) (rest : Option X) (s : List ℕ) → (is_some rest ≡ true → text (unwrap_or rest e) ≡ s)
    → is_some (if bytes_eq s (text x) then Some x else rest) ≡ true → text (unwrap_or (if bytes_eq s (text x) then Some x else rest) e) ≡ s
one text x e rest s next =
    let P : Bool → Type 0 = λ b. bytes_eq s (text x) ≡ b → is_some (if b then Some x else rest) ≡ true → text (unwrap_or (if b then Some x else rest) e) ≡ s in
    let cases : P (bytes_eq s (text x)) = elim (bytes_eq s (text x)) as P [ true ↦ λ i h. sym ((bytes_eq-Decides s (text x)).0 i) | false ↦ λ i h. next h ] in
    cases refl

operator_told : (s : List ℕ) → is_some (operator_of s) ≡ true → operator_text (unwrap_or (operator_of s) In) ≡ s
operator_told s =
    one operator_text In In _ s (one operator_text NotIn In _ s (one operator_text Exists In _ s (one operator_text DoesNotExist In None s (λ h. absurd (cc h)))))

subject_kind_told : (s : List ℕ) → is_some (subject_kind s) ≡ true → subject_kind_text (unwrap_or (subject_kind s) ServiceAccount) ≡ s
subject_kind_told s =
    one subject_kind_text User ServiceAccount _ s (one subject_kind_text Group ServiceAccount _ s (one subject_kind_text ServiceAccount ServiceAccount None s (λ h. absurd (cc h))))

role_kind_told : (s : List ℕ) → is_some (role_kind s) ≡ true → role_kind_text (unwrap_or (role_kind s) role_kinds.ClusterRole) ≡ s
role_kind_told s =
    one role_kind_text role_kinds.Role role_kinds.ClusterRole _ s (one role_kind_text role_kinds.ClusterRole role_kinds.ClusterRole None s (λ h. absurd (cc h)))

-- ---- rules

some_listed : (ds : Items) (p : List ℕ) → need_faults need.Required (is_empty ds) p ≡ [] → Some (array ds) ≡ list_value ds
some_listed ds p =
    elim (is_empty ds) as (λ b. need_faults need.Required b p ≡ [] → Some (array ds) ≡ (if b then None else Some (array ds))) [ true ↦ λ h. absurd (cc h) | false ↦ λ h. refl ]

empty_same : (ds : Items) → is_empty (write_items string (read_items text_of ds)) ≡ is_empty ds
empty_same ds = elim ds as (λ e. is_empty (write_items string (read_items text_of e)) ≡ is_empty e) [ no_items ↦ refl | item d e ↦ refl ]

-- the list that is kept is the same whether it must have elements or not
texts_two : (b : Bool) (n m : Presence) (o : Option Data) → list_value (write_items string (read_items text_of (items_if o))) ≡ part_value kept_of (if b then part.Texts n rule.Any else part.Texts m rule.Any) o
texts_two true n m o = refl
texts_two false n m o = refl

rule_found : (d : Data) (p : List ℕ) → list_faults (text_item_faults rule.Any) need.Required p (member_of (codes "verbs") d) ≡ []
    → Found kept_of (rows_of table.RoleRule) (rule_tree (rule_of d)) d
rule_found d p h =
    let ds : Items = items_at (codes "verbs") d in
    let full : need_faults need.Required (is_empty ds) p ≡ [] = (list_parts (text_item_faults rule.Any) need.Required p (member_of (codes "verbs") d) h).0 in (
      verbs_at (rule_of d) ∙ some_listed (write_items string (read_items text_of ds)) p (ap (λ b. need_faults need.Required b p) (empty_same ds) ∙ full),
      (
        groups_at (rule_of d) ∙ texts_two (passes urls d) need.Forbidden need.Required (member_of (codes "apiGroups") d),
        (
          resources_at (rule_of d) ∙ texts_two (passes urls d) need.Forbidden need.Required (member_of (codes "resources") d),
          (names_at (rule_of d) ∙ texts_two (passes urls d) need.Forbidden need.Optional (member_of (codes "resourceNames") d), (urls_at (rule_of d), tt)),
        ),
      ),
    )

-- ---- selectors

values_three : (a b : Bool) (n m l : Presence) (o : Option Data) → list_value (write_items string (read_items text_of (items_if o)))
    ≡ part_value kept_of (if a then part.Texts n rule.LabelValue else (if b then part.Texts m rule.LabelValue else part.Texts l rule.LabelValue)) o
values_three true b n m l o = refl
values_three false true n m l o = refl
values_three false false n m l o = refl

requirement_found : (d : Data) (p q : List ℕ) → text_faults rule.LabelKey p (member_of (codes "key") d) ≡ [] → text_faults rule.Operator q (member_of (codes "operator") d) ≡ []
    → Found kept_of (rows_of table.Requirement) (requirement_tree (requirement_of d)) d
requirement_found d p q hk ho =
    let s : List ℕ = text_at (codes "operator") d in (
      key_at (requirement_of d) ∙ there rule.LabelKey p (member_of (codes "key") d) refl hk,
      (
        operator_here (requirement_of d)
            ∙ ap (λ t. Some (string t)) (operator_told s (right rule.Operator q (member_of (codes "operator") d) refl ho))
            ∙ there rule.Operator q (member_of (codes "operator") d) refl ho,
        (values_at (requirement_of d) ∙ values_three (bytes_eq s (codes "In") || bytes_eq s (codes "NotIn")) (is_some (operator_of s)) need.Required need.Forbidden need.Optional (member_of (codes "values") d), tt),
      ),
    )

selector_found : (d : Data) → Found kept_of (rows_of table.Selector) (selector_tree (selector_of d)) d
selector_found d = (
  labels_at (selector_of d),
  (expressions_at (selector_of d) ∙ ap list_value (written_at_once requirement_of requirement_tree (items_at (codes "matchExpressions") d)), tt),
)

aggregation_found : (d : Data) → Found kept_of (rows_of table.AggregationRule) (aggregation_tree (aggregation_of d)) d
unfolding aggregation_tree
aggregation_found d =
    let as_list : Items → Option Data = λ ds. Some (array ds) in
    (ap as_list (written_at_once selector_of selector_tree (items_at (codes "clusterRoleSelectors") d)), tt)

-- ---- subjects

-- a subject of the kind, as it is written
abbrev written : SubjectKind → List ℕ → List ℕ → Data
written k name namespace = subject_tree (subject_from k name namespace)

kind_at : (k : SubjectKind) (name namespace : List ℕ) → member_of (codes "kind") (written k name namespace) ≡ Some (string (subject_kind_text k))
unfolding subject_tree
kind_at User name namespace = refl
kind_at Group name namespace = refl
kind_at ServiceAccount name namespace = account_kind_at (record { namespace = namespace; name = name })

name_at : (k : SubjectKind) (name namespace : List ℕ) → member_of (codes "name") (written k name namespace) ≡ Some (string name)
unfolding subject_tree
name_at User name namespace = refl
name_at Group name namespace = refl
name_at ServiceAccount name namespace = account_name_at (record { namespace = namespace; name = name })

-- users and groups are of the API group of roles, service accounts of the core group
abbrev group_of : SubjectKind → List ℕ
group_of ServiceAccount = []
group_of _ = rbac_group

group_at : (k : SubjectKind) (name namespace : List ℕ) → member_of (codes "apiGroup") (written k name namespace) ≡ text_value (group_of k)
unfolding subject_tree
group_at User name namespace = refl
group_at Group name namespace = refl
group_at ServiceAccount name namespace = account_group_at (record { namespace = namespace; name = name })

-- only service accounts have a namespace
abbrev namespace_of : SubjectKind → List ℕ → Option Data
namespace_of ServiceAccount namespace = text_value namespace
namespace_of _ namespace = None

namespace_at : (k : SubjectKind) (name namespace : List ℕ) → member_of (codes "namespace") (written k name namespace) ≡ namespace_of k namespace
unfolding subject_tree
namespace_at User name namespace = refl
namespace_at Group name namespace = refl
namespace_at ServiceAccount name namespace = account_namespace_at (record { namespace = namespace; name = name })

-- the parts that the kind chooses, by its text
abbrev is_account : List ℕ → Bool
is_account s = bytes_eq s (codes "ServiceAccount") || bytes_eq s (codes "ServiceAccount")

abbrev name_part : List ℕ → ValueRule
name_part s = if is_account s then part.Text rule.AccountName else part.Text rule.NotEmpty

abbrev group_part : List ℕ → ValueRule
group_part s = if is_account s then part.Text rule.Empty else (if is_some (subject_kind s) then part.Text rule.RbacGroup else part.Text rule.Any)

abbrev namespace_part : TextRule → List ℕ → ValueRule
namespace_part r s = if is_account s then part.Text r else part.Dropped

name_kept : (f : Says) (b : Bool) (p : List ℕ) (o : Option Data) → part_faults f (if b then part.Text rule.AccountName else part.Text rule.NotEmpty) p o ≡ []
    → Some (string (text_if o)) ≡ part_value kept_of (if b then part.Text rule.AccountName else part.Text rule.NotEmpty) o
unfolding part_faults
name_kept f true p o h = there rule.AccountName p o refl h
name_kept f false p o h = there rule.NotEmpty p o refl h

empty_text : (p : List ℕ) (o : Option Data) → text_faults rule.Empty p o ≡ [] → None ≡ text_value (text_if o)
unfolding text_faults
empty_text p (Some (string (x ∷ s))) h =
    let P : Bool → Type 0 = λ b. (if b then [] else fault p BadValue ∷ []) ≡ [] in
    absurd (cc (subst P (eqb-suc-zero (length s)) h))
empty_text p _ h = refl

group_kept : (f : Says) (k : SubjectKind) (p : List ℕ) (o : Option Data) → part_faults f (group_part (subject_kind_text k)) p o ≡ []
    → text_value (group_of k) ≡ part_value kept_of (group_part (subject_kind_text k)) o
unfolding part_faults
group_kept f User p o h = refl
group_kept f Group p o h = refl
group_kept f ServiceAccount p o h = empty_text p o h

namespace_kept : (r : TextRule) → ((s : List ℕ) → filled r s ≡ s) → (k : SubjectKind) (o : Option Data) → namespace_of k (text_if o) ≡ part_value kept_of (namespace_part r (subject_kind_text k)) o
namespace_kept r plain User o = refl
namespace_kept r plain Group o = refl
namespace_kept r plain ServiceAccount o = ap text_value (sym (plain (text_if o)))

subject_found : (f : Says) (r : TextRule) → ((s : List ℕ) → filled r s ≡ s) → (d : Data) (p q u : List ℕ)
    → text_faults rule.SubjectKind p (member_of (codes "kind") d) ≡ []
    → part_faults f (name_part (text_at (codes "kind") d)) q (member_of (codes "name") d) ≡ []
    → part_faults f (group_part (text_at (codes "kind") d)) u (member_of (codes "apiGroup") d) ≡ []
    → (member_of (codes "kind") (subject_tree (subject_of d)) ≡ text_value (text_at (codes "kind") d))
    × ((member_of (codes "name") (subject_tree (subject_of d)) ≡ part_value kept_of (name_part (text_at (codes "kind") d)) (member_of (codes "name") d))
    × ((member_of (codes "apiGroup") (subject_tree (subject_of d)) ≡ part_value kept_of (group_part (text_at (codes "kind") d)) (member_of (codes "apiGroup") d))
    × ((member_of (codes "namespace") (subject_tree (subject_of d)) ≡ part_value kept_of (namespace_part r (text_at (codes "kind") d)) (member_of (codes "namespace") d)) × Unit {0})))
subject_found f r plain d p q u hk hn hg =
    let s : List ℕ = text_at (codes "kind") d in
    let k : SubjectKind = subject_kind_at (codes "kind") d in
    let name : List ℕ = text_at (codes "name") d in
    let namespace : List ℕ = text_at (codes "namespace") d in
    let group : Option Data = member_of (codes "apiGroup") d in
    let place : Option Data = member_of (codes "namespace") d in
    let is : subject_kind_text k ≡ s = subject_kind_told s (right rule.SubjectKind p (member_of (codes "kind") d) refl hk) in
    let P : List ℕ → Type 0 = λ l. part_faults f (group_part l) u group ≡ [] → text_value (group_of k) ≡ part_value kept_of (group_part l) group in
    let Q : List ℕ → Type 0 = λ l. namespace_of k namespace ≡ part_value kept_of (namespace_part r l) place in (
      kind_at k name namespace ∙ ap (λ l. Some (string l)) is ∙ there rule.SubjectKind p (member_of (codes "kind") d) refl hk,
      (
        name_at k name namespace ∙ name_kept f (is_account s) q (member_of (codes "name") d) hn,
        (group_at k name namespace ∙ subst P is (group_kept f k u group) hg, (namespace_at k name namespace ∙ subst Q is (namespace_kept r plain k place), tt)),
      ),
    )

-- ---- references to roles

role_ref_found : (d : Data) (p q : List ℕ) → is_some (role_kind (text_at (codes "kind") d)) ≡ true → Some (string (text_at (codes "kind") d)) ≡ text_value (text_at (codes "kind") d)
    → text_faults rule.RoleName q (member_of (codes "name") d) ≡ [] → Found kept_of (rows_of table.RoleRef) (role_ref_tree (role_ref_if (Some d))) d
unfolding role_ref_tree
role_ref_found d p q known here hn =
    (refl, (ap (λ l. Some (string l)) (role_kind_told (text_at (codes "kind") d) known) ∙ here, (there rule.RoleName q (member_of (codes "name") d) refl hn, tt)))

-- the kind of cluster roles is a kind of roles
cluster_known : (s : List ℕ) → bytes_eq s (codes "ClusterRole") ≡ true → is_some (role_kind s) ≡ true
cluster_known s h = rw ((bytes_eq-Decides s (codes "ClusterRole")).0 h) refl

-- ---- the four kinds

-- the tree has the members of a content
abbrev pub Has : Members → Data → Type 0
Has content tree = (q : List ℕ) → bytes_eq q (codes "metadata") ≡ false → bytes_eq q (codes "kind") ≡ false → bytes_eq q (codes "apiVersion") ≡ false
    → member_of q tree ≡ option_and_then unless_null (get_member q content)

abbrev rules_kept : Data → Option Data
rules_kept tree = Some (array (write_items (λ d. d) (read_items (λ d. rule_tree (rule_of d)) (items_at (codes "rules") tree))))

rules_written : (tree : Data) → Some (array (write_items rule_tree (rules_of tree))) ≡ rules_kept tree
rules_written tree = let as_list : Items → Option Data = λ ds. Some (array ds) in ap as_list (written_at_once rule_of rule_tree (items_at (codes "rules") tree))

pub role_found : (tree kept : Data) → Has (role_content (rules_of tree)) kept → Found kept_of (rows_of table.Role) kept tree
role_found tree kept has = (has (codes "rules") refl refl refl ∙ rules_written tree, tt)

aggregation_there : (o : Option Data) → option_and_then unless_null (option_map aggregation_tree (option_map aggregation_of o)) ≡ option_map (λ d. aggregation_tree (aggregation_of d)) o
unfolding aggregation_tree
aggregation_there None = refl
aggregation_there (Some d) = refl

pub cluster_role_found : (tree kept : Data) → Has (cluster_role_content (aggregation_in tree) (rules_of tree)) kept → Found kept_of (rows_of table.ClusterRole) kept tree
cluster_role_found tree kept has =
    let written_rule : Option Data = option_map aggregation_tree (aggregation_in tree) in (
      has (codes "rules") refl refl refl
          ∙ ap (option_and_then unless_null) (put_if_other (codes "rules") (codes "aggregationRule") written_rule (role_content (rules_of tree)) refl)
          ∙ rules_written tree,
      (
        has (codes "aggregationRule") refl refl refl
            ∙ ap (option_and_then unless_null) (put_if_here (codes "aggregationRule") written_rule (role_content (rules_of tree)) refl)
            ∙ aggregation_there (member_of (codes "aggregationRule") tree),
        tt,
      ),
    )

ref_there : (f : List ℕ → Data → List FieldFault) (p : List ℕ) (o : Option Data) → element_faults f need.Required p o ≡ []
    → option_and_then unless_null (Some (role_ref_tree (role_ref_if o))) ≡ option_map (λ d. role_ref_tree (role_ref_if (Some d))) o
unfolding role_ref_tree
ref_there f p None h = absurd (cc h)
ref_there f p (Some d) h = refl

pub binding_found : (f : List ℕ → Data → List FieldFault) (p : List ℕ) (tree kept : Data) → Has (binding_content (subjects_of tree) (role_ref_of tree)) kept
    → element_faults f need.Required p (member_of (codes "roleRef") tree) ≡ [] → Found kept_of (rows_of table.RoleBinding) kept tree
binding_found f p tree kept has h =
    let ds : Items = write_items subject_tree (subjects_of tree) in
    let reference : Members = put (codes "roleRef") (role_ref_tree (role_ref_of tree)) no_members in (
      has (codes "roleRef") refl refl refl
          ∙ ap (option_and_then unless_null) (put_if_other (codes "roleRef") (codes "subjects") (list_value ds) reference refl)
          ∙ ref_there f p (member_of (codes "roleRef") tree) h,
      (
        has (codes "subjects") refl refl refl
            ∙ ap (option_and_then unless_null) (put_if_here (codes "subjects") (list_value ds) reference refl)
            ∙ list_there ds
            ∙ ap list_value (written_at_once subject_of subject_tree (items_at (codes "subjects") tree)),
        tt,
      ),
    )

-- ---- all of them

pub found : (f : Says) (t : Table) (p : List ℕ) (d : Data) → rows_faults f (rows_of t) p d ≡ [] → Found kept_of (rows_of t) (kept_of t d) d
unfolding rows_faults part_faults
found f table.Role p d h = role_found d (kept_of table.Role d) (λ q hm hk ha. refl)
found f table.ClusterRole p d h = cluster_role_found d (kept_of table.ClusterRole d) (λ q hm hk ha. refl)
found f table.RoleBinding p d h = binding_found (object_faults (f table.RoleRef)) (member_path p (codes "roleRef")) d (kept_of table.RoleBinding d) (λ q hm hk ha. refl) (parts _ _ h).0
found f table.ClusterRoleBinding p d h = binding_found (object_faults (f table.ClusterRoleRef)) (member_path p (codes "roleRef")) d (kept_of table.ClusterRoleBinding d) (λ q hm hk ha. refl) (parts _ _ h).0
found f table.RoleRule p d h = rule_found d (member_path p (codes "verbs")) (parts _ _ h).0
found f table.ClusterRoleRule p d h = rule_found d (member_path p (codes "verbs")) (parts _ _ h).0
found f table.AggregationRule p d h = aggregation_found d
found f table.Selector p d h = selector_found d
found f table.Requirement p d h = requirement_found d (member_path p (codes "key")) (member_path p (codes "operator")) (parts _ _ h).0 (parts _ _ (parts _ _ h).1).0
found f table.Subject p d h =
    subject_found f rule.Any (λ s. refl) d (member_path p (codes "kind")) (member_path p (codes "name")) (member_path p (codes "apiGroup")) (parts _ _ h).0 (parts _ _ (parts _ _ h).1).0
    (parts _ _ (parts _ _ (parts _ _ h).1).1).0
found f table.ClusterSubject p d h =
    subject_found f rule.NotEmpty (λ s. refl) d (member_path p (codes "kind")) (member_path p (codes "name")) (member_path p (codes "apiGroup")) (parts _ _ h).0 (parts _ _ (parts _ _ h).1).0
    (parts _ _ (parts _ _ (parts _ _ h).1).1).0
found f table.RoleRef p d h =
    let o : Option Data = member_of (codes "kind") d in
    let path : List ℕ = member_path p (codes "kind") in
    let hk : text_faults rule.RoleKind path o ≡ [] = (parts _ _ (parts _ _ h).1).0 in
    role_ref_found d path (member_path p (codes "name")) (right rule.RoleKind path o refl hk) (there rule.RoleKind path o refl hk) (parts _ _ (parts _ _ (parts _ _ h).1).1).0
found f table.ClusterRoleRef p d h =
    let o : Option Data = member_of (codes "kind") d in
    let path : List ℕ = member_path p (codes "kind") in
    let hk : text_faults rule.ClusterRoleKind path o ≡ [] = (parts _ _ (parts _ _ h).1).0 in
    role_ref_found d path (member_path p (codes "name")) (cluster_known (text_if o) (right rule.ClusterRoleKind path o refl hk)) (there rule.ClusterRoleKind path o refl hk)
    (parts _ _ (parts _ _ (parts _ _ h).1).1).0
