-- What is passed, as a question.
use Rattle.std.specs.Prelude.{ℕ, ◌==◌, Bool, not, ◌&&◌, ◌||◌, if◌then◌else◌, List, [], length, Result, Ok, Err}
use Rattle.std.specs.List.{list_any, before_first, after_first}
use Rattle.std.specs.Str.{is_utf8}
use Rattle.kapi_text.specs.ResultIs.{◌>>=◌}
use Rattle.kapi_model.specs.declared.identity.Identity.{Identity}
use Rattle.kapi_rules.specs.declared.point.Point.{Point}
use Rattle.kapi_rules.specs.declared.point.Point.TheVariants as point
use Rattle.kapi_c_requests.specs.declared.fault.CallFault.{CallFault}
use Rattle.kapi_c_requests.specs.declared.fault.CallFault.TheVariants as fault
use Rattle.kapi_c_requests.specs.declared.passed.PassedText.{PassedText}
use Rattle.kapi_c_requests.specs.declared.passed.CQuestion.{CQuestion}
use Rattle.kapi_c_requests.specs.declared.reading.AccessQuestion.{AccessQuestion}
use Rattle.kapi_c_requests.specs.Each.{each}

-- bytes as a text
unfoldable pub text_of : List ℕ → Result (List ℕ) CallFault
text_of bytes = if is_utf8 bytes then Ok bytes else Err fault.Text

-- what is passed as a text
abbrev pub passed_text : PassedText → Result (List ℕ) CallFault
passed_text t = text_of t.bytes.now

-- all of them as texts
abbrev pub texts_of : List PassedText → Result (List (List ℕ)) CallFault
texts_of = each passed_text

abbrev pub has_slash : List ℕ → Bool
has_slash s = list_any (λ b. b == 47) s

-- a resource and a subresource that a review takes: only the resource may have a slash, only one, and only if no
-- subresource is named
abbrev pub are_plain : List ℕ → List ℕ → Bool
are_plain resource subresource =
    not (has_slash subresource)
    && (not (has_slash resource) || (length subresource == 0 && not (has_slash (after_first (λ b. b == 47) resource))))

-- the subresource: the one that is named, else what stands behind the resource's slash
abbrev pub subresource_of : List ℕ → List ℕ → List ℕ
subresource_of resource subresource = if length subresource == 0 then after_first (λ b. b == 47) resource else subresource

-- a verb on a resource
abbrev pub resource_of : List ℕ → List ℕ → List ℕ → List ℕ → List ℕ → Result Point CallFault
resource_of verb group resource subresource name =
    if are_plain resource subresource
    then Ok (point.Resource (record {
      verb = verb;
      group = group;
      resource = before_first (λ b. b == 47) resource;
      subresource = subresource_of resource subresource;
      name = name;
    }))
    else Err fault.Question

-- the point of a resource
unfoldable pub resource_point : CQuestion → Result Point CallFault
resource_point q =
    text_of q.verb.now >>= λ verb. text_of q.group.now >>= λ group. text_of q.resource.now >>= λ resource.
    text_of q.subresource.now >>= λ subresource. text_of q.name.now >>= λ name. resource_of verb group resource subresource name

-- the point of a path
unfoldable pub path_point : CQuestion → Result Point CallFault
path_point q = text_of q.verb.now >>= λ verb. text_of q.path.now >>= λ path. Ok (point.Url (record { verb = verb; path = path }))

-- the user and the groups, with nothing added
unfoldable pub identity_of : CQuestion → Result Identity CallFault
identity_of q = text_of q.user.now >>= λ user. texts_of q.groups.now >>= λ groups. Ok (record { user = user; groups = groups })

-- the question: a path is asked about cluster-wide
unfoldable pub question_of : CQuestion → Result AccessQuestion CallFault
question_of q =
    identity_of q >>= λ identity.
    if length q.path.now == 0
    then (text_of q.namespace.now >>= λ namespace. resource_point q >>= λ point. Ok (record { identity = identity; namespace = namespace; point = point }))
    else (path_point q >>= λ point. Ok (record { identity = identity; namespace = []; point = point }))
