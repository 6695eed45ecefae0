-- The rules that the header fields of a request must keep.
use Rattle.std.specs.Prelude.{ℕ, ◌==◌, Bool, true, false, not, ◌&&◌, ◌||◌, if◌then◌else◌, List, find, codes, Option, Some, None, Result, Ok, Err}
use Rattle.std.specs.List.{list_all, before_first}
use Rattle.std.specs.Str.{str_eq_ignore_ascii_case}
use Rattle.httparse.specs.Grammar.{trim_ows}
use Rattle.kapi_http.specs.declared.message.Header.{Header}
use Rattle.kapi_http.specs.declared.message.Method.{Method}
use Rattle.kapi_http.specs.declared.message.Method.TheVariants.{Get, Post, Put, Patch, Delete}
use Rattle.kapi_reply.specs.declared.refusal.Refused.{Refused}
use Rattle.kapi_reply.specs.declared.refusal.Refusal.TheVariants as refusal
use Rattle.kapi_reply.specs.Refusals.{asked_for}
use Rattle.kapi_request_info.specs.Fields.{is_named}

-- the field is no content coding but `identity` (RFC 9110 section 8.4)
abbrev pub is_uncoded : Header → Bool
is_uncoded h = not (is_named (codes "content-encoding") h) || str_eq_ignore_ascii_case h.value (codes "identity")

-- a media type without its parameters (RFC 9110 section 8.3.1)
abbrev pub media_type : List ℕ → List ℕ
media_type value = trim_ows (before_first (λ b. b == 59) value)

-- the first field that names the media type (RFC 9110 section 8.3)
abbrev pub content_type : List Header → Option Header
content_type headers = find (is_named (codes "content-type")) headers

-- the field is that media type, up to its parameters and in any case
abbrev pub is_of_type : List ℕ → Header → Bool
is_of_type name h = str_eq_ignore_ascii_case (media_type h.value) name

-- the media type is JSON's; a body without one is taken as JSON
abbrev pub is_json_type : Option Header → Bool
is_json_type None = true
is_json_type (Some h) = is_of_type (codes "application/json") h

-- the body's media type, as the first field says, is JSON's
abbrev pub is_json : List Header → Bool
is_json headers = is_json_type (content_type headers)

-- the media type is there and is that of a merge patch (RFC 7396)
abbrev pub is_merge_patch_type : Option Header → Bool
is_merge_patch_type None = false
is_merge_patch_type (Some h) = is_of_type (codes "application/merge-patch+json") h

-- the body's media type, as the first field says, is that of a merge patch
abbrev pub is_merge_patch : List Header → Bool
is_merge_patch headers = is_merge_patch_type (content_type headers)

-- the body has the type that the method reads; for a read and a deletion the type is not checked
unfoldable pub is_typed : Method → List Header → Bool
is_typed Get headers = true
is_typed Post headers = is_json headers
is_typed Put headers = is_json headers
is_typed Patch headers = is_merge_patch headers
is_typed Delete headers = true

-- the body is not coded, and has the type that the method reads
unfoldable pub media_typed : Method → List Header → Result (Unit {0}) Refused
media_typed method headers =
    if list_all is_uncoded headers && is_typed method headers then Ok tt else Err (asked_for refusal.UnsupportedMediaType)
