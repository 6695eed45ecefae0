-- Who may do what (Kubernetes, 'Using RBAC Authorization').
use Rattle.std.specs.Prelude.{Bool, if◌then◌else◌, Result, Ok, Err}
use Rattle.kapi_policy.specs.Decided.{decided}
use Rattle.kapi_policy.specs.Laws.{is_allowed}
use Rattle.kapi_policy.specs.Objects.{PolicyObjects}
use Rattle.kapi_model.specs.declared.identity.Identity.{Identity}
use Rattle.kapi_reply.specs.Refusals.{asked_for}
use Rattle.kapi_reply.specs.declared.refusal.Refusal.TheVariants as refusal
use Rattle.kapi_reply.specs.declared.refusal.Refused.{Refused}
use Rattle.kapi_request_info.specs.declared.attributes.Attributes.{Attributes}

-- whether the identity may do what is asked for, by the current roles and bindings
abbrev pub is_authorized : PolicyObjects → Identity → Attributes → Bool
is_authorized objects identity a = is_allowed (decided objects identity a.namespace a.point)

-- authorization as a check: the request is refused if the identity may not do what it asks for
unfoldable pub authorized : PolicyObjects → Identity → Attributes → Result (Unit {0}) Refused
authorized objects identity a = if is_authorized objects identity a then Ok tt else Err (asked_for refusal.Forbidden)
