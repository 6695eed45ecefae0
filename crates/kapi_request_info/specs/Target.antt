-- The forms of a target and its two parts (RFC 9112 section 3.2; RFC 3986 sections 2, 3.2 and 3.5).
use Rattle.std.specs.Prelude.{ℕ, ◌==◌, nat_eq, nat_le, Bool, not, ◌&&◌, ◌||◌, if◌then◌else◌, List, length, drop, codes, Option, Some, None, Result, Ok, Err}
use Rattle.std.specs.List.{list_all, starts_with, position_or_len, before_first, after_first}
use Rattle.kapi_request_info.specs.Faults.{TargetFault, bad_path}

-- a byte of a target: visible ASCII but `#`, which would begin a fragment (RFC 3986 sections 2 and 3.5)
abbrev pub is_target_byte : ℕ → Bool
is_target_byte b = nat_le 33 b && (nat_le b 126 && not (b == 35))

-- the text behind the authority, which ends before the first `/` or `?` (RFC 3986 section 3.2)
abbrev pub behind_authority : List ℕ → List ℕ
behind_authority rest = drop (position_or_len (λ b. b == 47 || b == 63) rest) rest

-- a target from its path on, in origin form or in the absolute form of HTTP (RFC 9112 sections 3.2.1 and 3.2.2)
unfoldable pub path_on : List ℕ → Option (List ℕ)
path_on target =
    if starts_with nat_eq target (codes "/") then Some target
    else if starts_with nat_eq target (codes "http://") then Some (behind_authority (drop (length (codes "http://")) target))
    else None

-- the path, or `/` if it is absent (RFC 9110 section 4.2.3)
abbrev pub path_or_root : List ℕ → List ℕ
path_or_root path = if length path == 0 then codes "/" else path

-- the path, and the query behind the first `?`, which is empty if there is none (RFC 3986 section 3.4)
abbrev pub path_and_query : Option (List ℕ) → Result (List ℕ × List ℕ) TargetFault
path_and_query (Some text) = Ok (path_or_root (before_first (λ b. b == 63) text), after_first (λ b. b == 63) text)
path_and_query None = Err bad_path

-- the path of a target and its query
unfoldable pub split_target : List ℕ → Result (List ℕ × List ℕ) TargetFault
split_target target = if list_all is_target_byte target then path_and_query (path_on target) else Err bad_path
