-- Reading an object (Kubernetes, 'Kubernetes API Concepts', API verbs).
use Rattle.std.specs.Prelude.{Option, Some, None, Result, Ok, Err}
use Rattle.std.specs.Map.{lookup}
use Rattle.serde_json.specs.Data.{Data}
use Rattle.kapi_http.specs.declared.message.StatusCode.TheVariants as status
use Rattle.kapi_reply.specs.Refusals.{asked_for}
use Rattle.kapi_reply.specs.declared.refusal.Refusal.TheVariants as refusal
use Rattle.kapi_reply.specs.declared.refusal.Refused.{Refused}
use Rattle.kapi_reply.specs.declared.refusal.Nonexistent.TheVariants as sought
use Rattle.kapi_store.specs.Keys.{is_key}
use Rattle.kapi_store.specs.Plain.{Plain}
use Rattle.kapi_store.specs.declared.key.Key.{Key}
use Rattle.kapi_answer.specs.Response.{Response, told}

-- the object that was looked for
abbrev pub found_if : Option Data → Result Response Refused
found_if (Some tree) = Ok (told status.Ok tree)
found_if None = Err (asked_for (refusal.NotFound sought.Object))

-- the object at a key
unfoldable pub found : Plain → Key → Result Response Refused
found s key = found_if (lookup (is_key key) s.objects)
