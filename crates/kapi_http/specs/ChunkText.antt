-- A body in chunks as text (RFC 9112 section 7.1).
use Rattle.std.specs.Prelude.{ℕ, ◌<◌, ◌≤◌, false, List, ◌++◌, length, codes}
use Rattle.std.specs.Fmt.{digits}
use Rattle.std.specs.List.{All, concat, flat_map}
use Rattle.kapi_http.specs.Limits.{body_limit, sent_limit}

-- a chunk: its length in hexadecimal of lower case without leading zeros, CRLF, its bytes, CRLF
abbrev pub chunk : List ℕ → List ℕ
chunk bytes = digits 16 false (length bytes) ++ codes "\r\n" ++ bytes ++ codes "\r\n"

-- the last chunk, and the empty line behind it
abbrev pub last_chunk : List ℕ
last_chunk = codes "0\r\n\r\n"

-- the body whose chunks have these bytes
abbrev pub body_text : List (List ℕ) → List ℕ
body_text parts = flat_map chunk parts ++ last_chunk

-- a body may be sent in these parts: none of them is empty, and the limits are kept
pub record AreChunks (parts : List (List ℕ)) : Type 0 where
  pub some : All (λ part. 0 < length part) parts
  pub body : length (concat parts) ≤ body_limit
  pub sent : length (body_text parts) ≤ sent_limit
