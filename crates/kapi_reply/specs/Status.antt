-- The Status object of a failure (Kubernetes API conventions, 'Response Status Kind').
use Rattle.std.specs.Prelude.{ℕ, ◌==◌, if◌then◌else◌, List, length, codes, Option, Some, None}
use Rattle.serde_json.specs.Data.{Data, number, string, array, object, unsigned, Items, no_items, item, Members, no_members, member, put}
use Rattle.serde_json.specs.Events.{members_len}
use Rattle.serde_json.specs.View.{items_of}
use Rattle.serde_json.specs.Written.{compact_text}
use Rattle.kapi_http.specs.Message.{status_number}
use Rattle.kapi_http.specs.declared.message.Method.{Method}
use Rattle.kapi_http.specs.declared.message.StatusCode.{StatusCode}
use Rattle.kapi_model.specs.FaultKind.{cause_text}
use Rattle.kapi_model.specs.declared.fault.FieldFault.{FieldFault}
use Rattle.kapi_rules.specs.declared.atom.Atom.{Atom}
use Rattle.kapi_rules.specs.declared.atom.Atom.TheVariants as atom
use Rattle.kapi_rules.specs.declared.atom.Names.{Names}
use Rattle.kapi_rules.specs.declared.atom.Names.TheVariants as names
use Rattle.kapi_rules.specs.declared.atom.ResourceAtom.{ResourceAtom}
use Rattle.kapi_rules.specs.declared.point.Point.{Point}
use Rattle.kapi_rules.specs.declared.point.Point.TheVariants as point

-- the subject of a failure: the group, the resource and the name of a request
pub record Subject : Type 0 where
  pub group : List ℕ
  pub resource : List ℕ
  pub name : List ℕ

-- a failure: its code, one word for programs (which may be empty), its message, its causes, and the served methods if
-- the method of the request is not served (else none)
pub record Failed : Type 0 where
  pub code : StatusCode
  pub reason : List ℕ
  pub message : List ℕ
  pub causes : List Data
  pub allow : List Method

-- the members with a text at the key
abbrev pub with_text : List ℕ → List ℕ → Members → Members
with_text key text ms = put key (string text) ms

-- the members with a text at the key, unless the text is empty
unfoldable pub with_some_text : List ℕ → List ℕ → Members → Members
with_some_text key text ms = if length text == 0 then ms else put key (string text) ms

-- the members with the causes, unless there is none
unfoldable pub with_causes : List Data → Members → Members
with_causes causes ms = if length causes == 0 then ms else put (codes "causes") (array (items_of causes)) ms

-- the members with the subject of the failure
unfoldable pub with_subject : Option Subject → Members → Members
with_subject None ms = ms
with_subject (Some s) ms =
    with_some_text (codes "name") s.name (with_some_text (codes "kind") s.resource (with_some_text (codes "group") s.group ms))

-- the details of a failure: its causes and its subject
abbrev pub details_of : Option Subject → List Data → Members
details_of subject causes = with_subject subject (with_causes causes no_members)

-- the members with an object at the key, unless it is empty
unfoldable pub with_some_object : List ℕ → Members → Members → Members
with_some_object key members ms = if members_len members == 0 then ms else put key (object members) ms

-- the Status object of a failure and its subject
unfoldable pub status_of : Option Subject → Failed → Data
status_of subject f = object
    (with_text (codes "status") (codes "Failure")
    (with_some_text (codes "reason") f.reason
    (put (codes "metadata") (object no_members)
    (with_text (codes "message") f.message
    (with_text (codes "kind") (codes "Status")
    (with_some_object (codes "details") (details_of subject f.causes)
    (put (codes "code") (number (unsigned (status_number f.code)))
    (with_text (codes "apiVersion") (codes "v1") no_members))))))))

-- the details of a deletion: its subject, and the uid of what was deleted
abbrev pub deleted_details : Subject → List ℕ → Members
deleted_details s uid = with_text (codes "uid") uid (with_subject (Some s) no_members)

-- the Status object of a deletion
unfoldable pub deleted_status : Subject → List ℕ → Data
deleted_status s uid = object
    (with_text (codes "status") (codes "Success")
    (put (codes "metadata") (object no_members)
    (with_text (codes "kind") (codes "Status")
    (put (codes "details") (object (deleted_details s uid))
    (with_text (codes "apiVersion") (codes "v1") no_members)))))

-- the name that an atom speaks of, if not of all
abbrev pub name_item : Names → Items
name_item names.All = no_items
name_item (names.One name) = item (string name) no_items

-- a point as a list of texts
abbrev pub point_list : Point → Data
point_list (point.Resource p) =
    array (item (string p.verb) (item (string p.group) (item (string p.resource) (item (string p.subresource) (item (string p.name) no_items)))))
point_list (point.Url u) = array (item (string u.verb) (item (string u.path) no_items))

-- an atom on a resource as a list of texts: its name is left out if it speaks of all names
abbrev pub resource_atom_list : ResourceAtom → Data
resource_atom_list a = array (item (string a.verb) (item (string a.group) (item (string a.resource) (name_item a.names))))

-- an atom of a rule as a list of texts
abbrev pub atom_list : Atom → Data
atom_list (atom.Resource a) = resource_atom_list a
atom_list (atom.Url a) = array (item (string a.verb) (item (string a.url) no_items))

-- the cause of a denial: the missing parts as JSON text
abbrev pub missing : List ℕ → Data
missing parts = object
    (member (codes "message") (string parts)
    (member (codes "reason") (string (codes "MissingPermission")) no_members))

-- the cause of a denial: the point that no rule allows
abbrev pub missing_permission : Point → Data
missing_permission p = missing (compact_text (point_list p))

-- the cause of an escalation's refusal: a part of the written rules that the caller does not hold
abbrev pub missing_atom : Atom → Data
missing_atom a = missing (compact_text (atom_list a))

-- the cause of a body's refusal: a field and the words for what is wrong with it
abbrev pub field_cause : List ℕ → List ℕ → Data
field_cause field words = object
    (member (codes "field") (string field)
    (member (codes "message") (string words)
    (member (codes "reason") (string (codes "FieldValueInvalid")) no_members)))

-- the cause of a fault
abbrev pub invalid_field : FieldFault → Data
invalid_field f = field_cause f.field (cause_text f.cause)

-- the cause if a binding is to refer to another role
abbrev pub changed_role_ref : Data
changed_role_ref = field_cause (codes "roleRef") (codes "may not change")
