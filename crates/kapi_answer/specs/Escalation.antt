-- Who may write roles and bindings (Kubernetes, 'Using RBAC Authorization', 'Privilege escalation prevention and
-- bootstrapping').
use Rattle.std.specs.Prelude.{ℕ, List, [], Option, Some, None, Result, Ok, Err}
use Rattle.serde_json.specs.Data.{Data}
use Rattle.kapi_model.specs.declared.role_ref.RoleRef.{RoleRef}
use Rattle.kapi_model.specs.declared.identity.Identity.{Identity}
use Rattle.kapi_policy.specs.Objects.{PolicyObjects}
use Rattle.kapi_store.specs.declared.key.Key.{Key}
use Rattle.kapi_escalation.specs.declared.kind.PolicyKind.{PolicyKind}
use Rattle.kapi_escalation.specs.Checks.{Fault, checked, lacks, lacks_authority, role_not_found, role_ref_changed}
use Rattle.kapi_escalation.specs.Exempt.{plural}
use Rattle.kapi_escalation.specs.declared.write.WrittenObject.{WrittenObject}
use Rattle.kapi_escalation.specs.declared.write.WrittenObject.TheVariants as written
use Rattle.kapi_reply.specs.Refusals.{named}
use Rattle.kapi_reply.specs.declared.refusal.NamedRole.{NamedRole}
use Rattle.kapi_reply.specs.declared.refusal.Refusal.{Refusal}
use Rattle.kapi_reply.specs.declared.refusal.Refusal.TheVariants as refusal
use Rattle.kapi_reply.specs.declared.refusal.Refused.{Refused}
use Rattle.kapi_escalation.specs.Kind.{policy_kind}
use Rattle.kapi_escalation.specs.Written.{written_at}

-- ---- what a request is answered

-- a role by the resource of its kind and its name
abbrev pub role_named : RoleRef → NamedRole
role_named role = record { resource = plural role.kind; name = role.name }

-- the role that a binding refers to; a role refers to none
abbrev pub role_sought : WrittenObject → NamedRole
role_sought (written.RoleBinding place versions) = role_named versions.new.role_ref
role_sought (written.ClusterRoleBinding name versions) = role_named versions.new.role_ref
role_sought (written.Role place role) = record { resource = []; name = [] }
role_sought (written.ClusterRole name versions) = record { resource = []; name = [] }

-- the refusal that reports a fault found by the guard in a write
unfoldable pub refusal_of : WrittenObject → Fault → Refusal
refusal_of w role_ref_changed = refusal.RoleRefChanged
refusal_of w role_not_found = refusal.RoleNotFound (role_sought w)
refusal_of w (lacks atoms) = refusal.Escalation atoms
refusal_of w (lacks_authority atoms) = refusal.Escalation atoms

-- what the guard answers to a write of the object of that name, as an answer to the request
abbrev pub told : List ℕ → WrittenObject → Result (Unit {0}) Fault → Result (Unit {0}) Refused
told name w (Ok u) = Ok tt
told name w (Err fault) = Err (named name (refusal_of w fault))

-- ---- the check

-- the identity may make the write of the object `name` that a request for `request_name` asks for
unfoldable pub guarded : PolicyObjects → Identity → List ℕ → List ℕ → WrittenObject → Result (Unit {0}) Refused
guarded objects identity request_name name w = told name w (checked objects identity (record { request_name = request_name; object = w }))

-- the identity may write the role or binding of the kind at the key; any other object passes
unfoldable pub escalated_as : Option PolicyKind → PolicyObjects → Identity → List ℕ → Key → Option Data → Data → Result (Unit {0}) Refused
escalated_as None objects identity request_name k old new = Ok tt
escalated_as (Some of) objects identity request_name k old new = guarded objects identity request_name k.name (written_at of k old new)

-- the identity may write the object at the key
unfoldable pub escalated : PolicyObjects → Identity → List ℕ → Key → Option Data → Data → Result (Unit {0}) Refused
escalated objects identity request_name k old new = escalated_as (policy_kind k) objects identity request_name k old new
