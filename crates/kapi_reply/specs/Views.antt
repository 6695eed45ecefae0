-- Failures and requests as data.
use Rattle.std.specs.Prelude.{map, string_bytes}
use Rattle.serde_json.specs.Data.{Data}
use Rattle.kapi_reply.specs.declared.reply.RefusedRequest.{RefusedRequest as AskedOf}
use Rattle.kapi_reply.specs.declared.status.Cause.{Cause}
use Rattle.kapi_reply.specs.declared.status.Cause.TheVariants as cause
use Rattle.kapi_reply.specs.declared.status.Failure.{Failure}
use Rattle.kapi_reply.specs.declared.status.Subject.{Subject as SubjectOf}
use Rattle.kapi_reply.specs.Refusals.{RefusedRequest}
use Rattle.kapi_reply.specs.Status.{Failed, Subject, field_cause, missing}

-- the subject of a failure, as data
abbrev pub subject_data : SubjectOf → Subject
subject_data s = record { group = s.group.now; resource = s.resource.now; name = s.name.now }

-- a cause as data
abbrev pub cause_data : Cause → Data
cause_data (cause.Missing parts) = missing (string_bytes parts)
cause_data (cause.Field wrong) = field_cause (string_bytes wrong.field) wrong.words.now

-- a failure as data
abbrev pub failure_data : Failure → Failed
failure_data f = record {
  code = f.code;
  reason = f.reason.now;
  message = string_bytes f.message;
  causes = map cause_data f.causes.items;
  allow = f.allow.now;
}

-- a refused request as data
abbrev pub asked_data : AskedOf → RefusedRequest
asked_data a = record { user = a.user.now; method = a.method; attributes = a.attributes.now }
