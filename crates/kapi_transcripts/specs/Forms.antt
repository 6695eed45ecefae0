-- The forms of a transcript's lines.
use Rattle.std.specs.Prelude.{ℕ, if◌then◌else◌, List, drop, codes, Option, Some, None}
use Rattle.std.specs.Str.{bytes_eq}
use Rattle.kapi_transcripts.specs.Fields.{is_field}
use Rattle.kapi_transcripts.specs.Names.{are_names}
use Rattle.kapi_transcripts.specs.Requests.{request_line, request_of}
use Rattle.kapi_transcripts.specs.Wants.{wanted_of}
use Rattle.kapi_transcripts.specs.declared.form.Form.{Form}
use Rattle.kapi_transcripts.specs.declared.form.Form.TheVariants as form
use Rattle.kapi_transcripts.specs.declared.form.Source.TheVariants as source
use Rattle.kapi_transcripts.specs.declared.wanted.Expected.{Expected}
use Rattle.kapi_lines.specs.Words.{begins}

-- a header field, or a line of a script
abbrev pub plain_form : List ℕ → Form
plain_form line = if is_field line then form.Field else form.Event

-- a request, where the line begins with a method
abbrev pub request_form : List ℕ → Option (List ℕ × List ℕ) → Form
request_form line None = plain_form line
request_form line (Some p) = form.Request (request_of p.0 p.1)

-- a line that begins with no word of a transcript
abbrev pub line_form_of : List ℕ → Form
line_form_of line = request_form line (request_line line)

-- what is wanted, or another line
abbrev pub want_form : List ℕ → Option Expected → Form
want_form line None = line_form_of line
want_form line (Some wanted) = form.Expectation wanted

-- an identity; a line of no known form, if a name is none
abbrev pub actor_form : List ℕ → Form
actor_form names = if are_names names then form.Actor names else form.Event

-- the form of a line
unfoldable pub form_of : List ℕ → Form
form_of line =
    if bytes_eq line (codes "begin") then form.Begin source.Opening
    else (if bytes_eq line (codes "pump") then form.Pump
    else (if bytes_eq line (codes "recheck") then form.Recheck
    else (if bytes_eq line (codes "load defaults") then form.Begin source.Defaults
    else (if begins line (codes "load ") then form.Begin (source.Lines (drop 5 line))
    else (if begins line (codes "manifests ") then form.Begin (source.Manifests (drop 10 line))
    else (if begins line (codes "kinds ") then form.Kinds (drop 6 line)
    else (if begins line (codes "as ") then actor_form (drop 3 line) else want_form line (wanted_of line))))))))
