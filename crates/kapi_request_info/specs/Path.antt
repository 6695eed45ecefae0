-- The segments of a path (RFC 3986 sections 2.1 and 3.3).
use Rattle.std.specs.Prelude.{ℕ, ◌==◌, Bool, true, false, not, ◌&&◌, if◌then◌else◌, List, [], ◌∷◌, length, map, drop, codes, Option, Some, None, Result, Ok, Err}
use Rattle.std.specs.Char.{is_ascii_hexdigit}
use Rattle.std.specs.List.{list_all, list_any, slice_split}
use Rattle.std.specs.Str.{bytes_eq, is_utf8}
use Rattle.percent_encoding.specs.Percent.{percent_decode}
use Rattle.kapi_request_info.specs.Faults.{TargetFault, bad_path, bad_escape}

-- the decoded texts between the slashes of a path, behind the first; a bad `%` stays (URL Standard section 1.3)
abbrev pub pieces : List ℕ → List (List ℕ)
pieces path = map percent_decode (slice_split (λ b. b == 47) (drop 1 path))

-- the pieces, a last empty one left out
unfoldable pub without_last_empty : List (List ℕ) → List (List ℕ)
without_last_empty [] = []
without_last_empty (s ∷ []) = if length s == 0 then [] else s ∷ []
without_last_empty (s ∷ t ∷ more) = s ∷ without_last_empty (t ∷ more)

-- the text has a slash
abbrev pub has_slash : List ℕ → Bool
has_slash s = list_any (λ b. b == 47) s

-- a segment is not empty, no dot segment, and without a slash of its own (RFC 3986 section 3.3)
abbrev pub names_something : List ℕ → Bool
names_something s = not (length s == 0) && (not (bytes_eq s (codes ".")) && (not (bytes_eq s (codes "..")) && not (has_slash s)))

-- the text begins with two hexadecimal digits
abbrev pub begins_with_digits : List ℕ → Bool
begins_with_digits (high ∷ low ∷ rest) = is_ascii_hexdigit high && is_ascii_hexdigit low
begins_with_digits (high ∷ []) = false
begins_with_digits [] = false

-- each `%` is followed by two hexadecimal digits (RFC 3986 section 2.1)
unfoldable pub has_whole_escapes : List ℕ → Bool
has_whole_escapes [] = true
has_whole_escapes (b ∷ rest) = if b == 37 && not (begins_with_digits rest) then false else has_whole_escapes rest

-- the bytes, if they are UTF-8
abbrev pub text_in : List ℕ → Option (List ℕ)
text_in bytes = if is_utf8 bytes then Some bytes else None

-- the segments as texts, which are UTF-8
unfoldable pub texts : List (List ℕ) → Result (List (List ℕ)) TargetFault
texts segments = if list_all is_utf8 segments then Ok segments else Err bad_escape

-- the decoded segments of a path, a last empty one left out; the rule that each names something is checked first
abbrev pub checked : List ℕ → List (List ℕ) → Result (List (List ℕ)) TargetFault
checked path segments =
    if list_all names_something segments
    then (if has_whole_escapes path then texts segments else Err bad_escape)
    else Err bad_path

-- the segments of a path, or its first fault
unfoldable pub segments : List ℕ → Result (List (List ℕ)) TargetFault
segments path = checked path (without_last_empty (pieces path))
