-- What an event of a cluster's audit log shows (Kubernetes API, audit.k8s.io/v1, Event; Kubernetes, 'Auditing').
use Rattle.std.specs.Prelude.{ℕ, ◌==◌, Bool, false, not, ◌&&◌, if◌then◌else◌, List, [], ◌∷◌, ◌++◌, length, codes, Option, Some, None, Result, Ok, Err}
use Rattle.std.specs.List.{before_first}
use Rattle.std.specs.Str.{bytes_eq}
use Rattle.serde_json.specs.Data.{Data}
use Rattle.kapi_text.specs.ResultIs.{◌>>=◌}
use Rattle.kapi_lines.specs.Lines.{NumberedLine}
use Rattle.kapi_model.specs.declared.identity.Identity.{Identity}
use Rattle.kapi_object.specs.Contents.{text_at, texts_at}
use Rattle.kapi_object.specs.Tree.{json_object}
use Rattle.kapi_rules.specs.declared.point.Point.{Point}
use Rattle.kapi_rules.specs.declared.point.Point.TheVariants as point
use Rattle.kapi_access.specs.Lines.{LineError, no_question}
use Rattle.kapi_reviews.specs.Attributes.{has, has_slash}
use Rattle.kapi_reviews.specs.Questions.{at}
use Rattle.kapi_reviews.specs.declared.question.Question.{Question}
use Rattle.kapi_suggest.specs.declared.event.Shown.{Shown}
use Rattle.kapi_suggest.specs.declared.event.Shown.TheVariants as shown

-- the text is the member of that key
abbrev pub says : List ℕ → List ℕ → Data → Bool
says key text d = bytes_eq (text_at key d) text

-- the tree is an event
abbrev pub is_event : Data → Bool
is_event d = says (codes "kind") (codes "Event") d && says (codes "apiVersion") (codes "audit.k8s.io/v1") d

-- the request was decided so and is answered: each has one such event, watches too
abbrev pub is_decided : List ℕ → Data → Bool
is_decided decision d =
    says (codes "stage") (codes "ResponseComplete") d && says (codes "authorization.k8s.io/decision") decision (at (codes "annotations") d)

-- who made the request: whom the user impersonates, if anybody
abbrev pub who : Data → Data
who d = if has (codes "impersonatedUser") d then at (codes "impersonatedUser") d else at (codes "user") d

abbrev pub identity_in : Data → Identity
identity_in d = record { user = text_at (codes "username") d; groups = texts_at (codes "groups") d }

-- a create is allowed before its object has a name, which the log tells nevertheless
abbrev pub is_unnamed : List ℕ → Data → Bool
is_unnamed verb d = bytes_eq verb (codes "create") && length (text_at (codes "subresource") d) == 0

abbrev pub name_in : List ℕ → Data → List ℕ
name_in verb d = if is_unnamed verb d then [] else text_at (codes "name") d

-- the request on the resource that an event refers to
abbrev pub resource_point : List ℕ → Data → Point
resource_point verb d = point.Resource (record {
  verb = verb;
  group = text_at (codes "apiGroup") d;
  resource = text_at (codes "resource") d;
  subresource = text_at (codes "subresource") d;
  name = name_in verb d;
})

-- the path of a target, without its query
abbrev pub path_of : List ℕ → List ℕ
path_of target = before_first (λ b. b == 63) target

abbrev pub url_point : Data → Point
url_point d = point.Url (record { verb = text_at (codes "verb") d; path = path_of (text_at (codes "requestURI") d) })

-- the request that an event is of: on a resource, or on a path cluster-wide
unfoldable pub use_of : Data → Question
use_of d =
    if has (codes "objectRef") d
    then record {
      identity = identity_in (who d);
      namespace = text_at (codes "namespace") (at (codes "objectRef") d);
      point = resource_point (text_at (codes "verb") d) (at (codes "objectRef") d);
    }
    else record {
      identity = identity_in (who d);
      namespace = [];
      point = url_point d;
    }

-- the point's resource has a slash
abbrev pub has_slashed_resource : Point → Bool
has_slashed_resource (point.Resource p) = has_slash p.resource
has_slashed_resource (point.Url p) = false

-- a use has a user, and a resource without a slash
abbrev pub is_right : Question → Bool
is_right u = not (length u.identity.user == 0) && not (has_slashed_resource u.point)

abbrev pub used_if : Question → Shown
used_if u = if is_right u then shown.Used u else shown.NoEvent

abbrev pub refused_if : Question → Shown
refused_if u = if is_right u then shown.Refused u else shown.NoEvent

-- what a tree shows
unfoldable pub shown_by : Data → Shown
shown_by d =
    if is_event d
    then (if is_decided (codes "allow") d then used_if (use_of d)
    else (if is_decided (codes "forbid") d then refused_if (use_of d) else shown.Nothing))
    else shown.NoEvent

-- what a line shows
abbrev pub shown_if : Option Data → Shown
shown_if None = shown.NoEvent
shown_if (Some d) = shown_by d

abbrev pub shown_in : List ℕ → Shown
shown_in line = shown_if (json_object line)

-- ---- lines

-- the uses with what the line of that number shows
abbrev pub with_shown : List Question → ℕ → Shown → Result (List Question) LineError
with_shown uses n (shown.Used u) = Ok (uses ++ u ∷ [])
with_shown uses n (shown.Refused u) = Ok uses
with_shown uses n shown.Nothing = Ok uses
with_shown uses n shown.NoEvent = Err (no_question n)

abbrev pub with_line : List Question → NumberedLine → Result (List Question) LineError
with_line uses l = with_shown uses l.number (shown_in l.text)

-- the uses before and those of the lines, or the first line that is no event
unfoldable pub uses_in : List Question → List NumberedLine → Result (List Question) LineError
uses_in uses [] = Ok uses
uses_in uses (l ∷ ls) = with_line uses l >>= λ more. uses_in more ls
