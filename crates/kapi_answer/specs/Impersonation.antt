-- The effective identity of a request (Kubernetes, 'Authenticating', 'User impersonation').
use Rattle.std.specs.Prelude.{List, Option, Some, None, Result, Ok, Err}
use Rattle.kapi_escalation.specs.Granted.{AreGranted}
use Rattle.kapi_escalation.specs.Impersonation.{MakesAs, impersonated}
use Rattle.kapi_http.specs.declared.message.HttpRequest.{HttpRequest}
use Rattle.kapi_policy.specs.Objects.{PolicyObjects}
use Rattle.kapi_model.specs.declared.identity.Identity.{Identity}
use Rattle.kapi_reply.specs.Refusals.{asked_for}
use Rattle.kapi_reply.specs.declared.refusal.BadRequestReason.TheVariants as word
use Rattle.kapi_reply.specs.declared.refusal.Refusal.TheVariants as refusal
use Rattle.kapi_reply.specs.declared.refusal.Refused.{Refused}
use Rattle.kapi_request_info.specs.Impersonation.{Misuse, bad_headers, impersonation}
use Rattle.kapi_request_info.specs.declared.impersonated.Impersonation.{Impersonation}
use Rattle.kapi_rules.specs.declared.point.Point.{Point}
use Rattle.kapi_store.specs.Plain.{PlainChange}

-- the effective identity, or the refusal with the points that are denied
abbrev pub acts_or_refused : Result Identity (List Point) → Result Identity Refused
acts_or_refused (Ok other) = Ok other
acts_or_refused (Err points) = Err (asked_for (refusal.Impersonation points))

-- the effective identity of a request with impersonation headers, and of one without
unfoldable pub acts_as : PolicyObjects → Identity → Result (Option Impersonation) Misuse → Result Identity Refused
acts_as objects identity (Ok None) = Ok identity
acts_as objects identity (Ok (Some wanted)) = acts_or_refused (impersonated objects identity wanted)
acts_as objects identity (Err bad_headers) = Err (asked_for (refusal.BadRequest word.Impersonation))

-- the identity as which a request is made: the caller, or an identity that the caller may impersonate
abbrev pub made_as : PolicyObjects → Identity → HttpRequest → Result Identity Refused
made_as objects identity request = acts_as objects identity (impersonation request.headers)

-- the changes of one write are granted to an identity as which the caller makes requests
abbrev pub AreGrantedAs : PolicyObjects → Identity → List PlainChange → Type 0
AreGrantedAs objects identity cs = (other : Identity) × (MakesAs objects identity other × AreGranted objects other cs)
