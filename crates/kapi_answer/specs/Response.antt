-- What a request that passes every check gets.
use Rattle.std.specs.Prelude.{ℕ, List, [], codes}
use Rattle.serde_json.specs.Data.{Data}
use Rattle.serde_json.specs.Written.{compact_text}
use Rattle.kapi_http.specs.declared.message.StatusCode.{StatusCode}
use Rattle.kapi_http.specs.declared.message.StatusCode.TheVariants as status
use Rattle.kapi_reply.specs.declared.reply.Content.{Content}
use Rattle.kapi_reply.specs.declared.reply.Content.TheVariants as content
use Rattle.kapi_store.specs.Plain.{PlainChange}

-- the code of the reply, its body, and the changes that are made: none, one or many
pub record Response : Type 0 where
  pub code : StatusCode
  pub content : Content
  pub body : List ℕ
  pub changes : List PlainChange

-- the reply is the object, and nothing is changed
abbrev pub told : StatusCode → Data → Response
told code tree = record { code = code; content = content.Json; body = compact_text tree; changes = [] }

-- the reply to a health request (Kubernetes, 'Kubernetes API health endpoints')
abbrev pub well : Response
well = record { code = status.Ok; content = content.Text; body = codes "ok"; changes = [] }
