-- The request on a line of a transcript.
use Rattle.std.specs.Prelude.{ℕ, if◌then◌else◌, List, codes, Option, Some, None, Result, Ok, Err}
use Rattle.std.specs.Str.{bytes_eq, is_utf8}
use Rattle.kapi_http.specs.declared.message.Method.{Method}
use Rattle.kapi_http.specs.declared.message.Method.TheVariants.{Get, Post, Put, Patch, Delete}
use Rattle.kapi_request_info.specs.Attributes.{info}
use Rattle.kapi_request_info.specs.Faults.{TargetFault}
use Rattle.kapi_request_info.specs.declared.attributes.Attributes.{Attributes}
use Rattle.kapi_transcripts.specs.Forms.{form_of}
use Rattle.kapi_transcripts.specs.declared.form.Form.{Form}
use Rattle.kapi_transcripts.specs.declared.form.Form.TheVariants as form
use Rattle.kapi_transcripts.specs.declared.request.Request.{Request}

-- the method of a name
unfoldable pub method_named : List ℕ → Method
method_named name =
    if bytes_eq name (codes "POST") then Post
    else (if bytes_eq name (codes "PUT") then Put
    else (if bytes_eq name (codes "PATCH") then Patch else (if bytes_eq name (codes "DELETE") then Delete else Get)))

-- the attributes, if there are some
abbrev pub known : Result Attributes TargetFault → Option Attributes
known (Ok a) = Some a
known (Err fault) = None

-- the attributes of a request; none if its target is none
abbrev pub attributes_for : Request → Option Attributes
attributes_for r = if is_utf8 r.target then known (info (method_named r.method) r.target) else None

-- the attributes of a line of this form
abbrev pub attributes_in : Form → Option Attributes
attributes_in (form.Request r) = attributes_for r
attributes_in f = None

-- the attributes of the request on a line; none if the line is no request, or its target is none
abbrev pub attributes_of : List ℕ → Option Attributes
attributes_of line = attributes_in (form_of line)
