-- What is wrong with texts, lists and objects as members, and where it is reported (Kubernetes, 'API Conventions',
-- 'Typical status codes', for the fields).
use Rattle.std.specs.Prelude.{ℕ, ◌+◌, List, [], ◌∷◌, ◌++◌, length, Bool, true, false, ◌&&◌, ◌||◌, ◌==◌, if◌then◌else◌, Option, Some, None, is_some, codes, decimal}
use Rattle.std.specs.Str.{bytes_eq}
use Rattle.serde_json.specs.Data.{Data, null, string, array, Items, no_items, item}
use Rattle.serde_json.specs.Find.{as_object}
use Rattle.kapi_model.specs.declared.fault.FaultKind.TheVariants.{Required, NotAllowedHere, WrongType, BadValue}
use Rattle.kapi_model.specs.declared.fault.FieldFault.{FieldFault}
use Rattle.kapi_object.specs.declared.typed_list.Presence.{Presence}
use Rattle.kapi_object.specs.declared.typed_list.Presence.TheVariants as need
use Rattle.kapi_object.specs.declared.text_rule.TextRule.{TextRule}
use Rattle.kapi_object.specs.declared.text_rule.TextRule.TheVariants as rule
use Rattle.kapi_model.specs.FaultKind.{fault}
use Rattle.kapi_object.specs.Tree.{is_empty, member_of}
use Rattle.kapi_model.specs.Kinds.{operator_of, rbac_group, role_kind, subject_kind}
use Rattle.kapi_model.specs.Names.{is_dns_subdomain, is_path_segment, is_label_key, is_label_value}

-- ---- members, and where their faults are reported

-- the path of a member, as `rules` or `rules[0].verbs`
abbrev pub member_path : List ℕ → List ℕ → List ℕ
member_path path key = if length path == 0 then key else path ++ codes "." ++ key

-- the path of an element, as `rules[0]`
abbrev pub item_path : List ℕ → ℕ → List ℕ
item_path path index = path ++ codes "[" ++ decimal index ++ codes "]"

-- ---- texts

-- a text that must be there, and not be empty
abbrev pub is_required : TextRule → Bool
is_required rule.Any = false
is_required rule.LabelValue = false
is_required rule.RbacGroup = false
is_required rule.RbacGroupOrEmpty = false
is_required rule.Empty = false
is_required _ = true

-- what a text has to be
abbrev pub is_right : TextRule → List ℕ → Bool
is_right rule.Any s = true
is_right rule.NotEmpty s = true
is_right rule.LabelKey s = is_label_key s
is_right rule.LabelValue s = is_label_value s
is_right rule.Operator s = is_some (operator_of s)
is_right rule.RoleKind s = is_some (role_kind s)
is_right rule.ClusterRoleKind s = bytes_eq s (codes "ClusterRole")
is_right rule.RoleName s = is_path_segment s
is_right rule.SubjectKind s = is_some (subject_kind s)
is_right rule.AccountName s = is_dns_subdomain s
is_right rule.RbacGroup s = bytes_eq s rbac_group
is_right rule.RbacGroupOrEmpty s = length s == 0 || bytes_eq s rbac_group
is_right rule.Empty s = length s == 0

-- what is wrong if a text is absent
abbrev pub absent_text_faults : TextRule → List ℕ → List FieldFault
absent_text_faults r path = if is_required r then fault path Required ∷ [] else []

-- what is wrong with a text
abbrev pub given_text_faults : TextRule → List ℕ → List ℕ → List FieldFault
given_text_faults r path s =
    if is_required r && length s == 0 then fault path Required ∷ []
    else (if is_right r s then [] else fault path BadValue ∷ [])

-- what is wrong with a value if a text is expected
unfoldable pub text_faults : TextRule → List ℕ → Option Data → List FieldFault
text_faults r path None = absent_text_faults r path
text_faults r path (Some (string s)) = given_text_faults r path s
text_faults r path (Some _) = fault path WrongType ∷ []

-- what is wrong with a text at a member
abbrev pub text_faults_at : TextRule → List ℕ → List ℕ → Data → List FieldFault
text_faults_at r path key d = text_faults r (member_path path key) (member_of key d)

-- what is wrong with a text at an element, if null is a value
abbrev pub text_item_faults : TextRule → List ℕ → Data → List FieldFault
text_item_faults r path d = text_faults r path (Some d)

-- ---- lists

-- what is wrong with a list for being empty or not
abbrev pub need_faults : Presence → Bool → List ℕ → List FieldFault
need_faults need.Required true path = fault path Required ∷ []
need_faults need.Forbidden false path = fault path NotAllowedHere ∷ []
need_faults _ _ path = []

-- what is wrong with the elements, by index
unfoldable pub items_faults : (List ℕ → Data → List FieldFault) → List ℕ → ℕ → Items → List FieldFault
items_faults f path index no_items = []
items_faults f path index (item d ds) = f (item_path path index) d ++ items_faults f path (index + 1) ds

-- what is wrong with a value if a list is expected: first with the list, then with its elements
unfoldable pub list_faults : (List ℕ → Data → List FieldFault) → Presence → List ℕ → Option Data → List FieldFault
list_faults f n path None = need_faults n true path
list_faults f n path (Some (array ds)) = need_faults n (is_empty ds) path ++ items_faults f path 0 ds
list_faults f n path (Some _) = fault path WrongType ∷ []

-- what is wrong with a list at a member
abbrev pub list_faults_at : (List ℕ → Data → List FieldFault) → Presence → List ℕ → List ℕ → Data → List FieldFault
list_faults_at f n path key d = list_faults f n (member_path path key) (member_of key d)

-- the value is anything but an empty list
abbrev pub is_given : Option Data → Bool
is_given None = false
is_given (Some (array ds)) = if is_empty ds then false else true
is_given (Some _) = true

-- what is wrong with an object by its members, and with anything else
abbrev pub object_faults : (List ℕ → Data → List FieldFault) → List ℕ → Data → List FieldFault
object_faults f path d = if is_some (as_object d) then f path d else fault path WrongType ∷ []
