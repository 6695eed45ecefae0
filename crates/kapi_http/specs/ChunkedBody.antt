-- What a body in chunks is (RFC 9112 section 7.1), without extensions of chunks and without trailer fields.
use Rattle.std.specs.Prelude.{◌≡◌, ℕ, ◌<◌, ◌≤◌, List, ◌++◌, length, codes}
use Rattle.std.specs.List.{All, flat_map}
use Rattle.std.specs.Str.Parse.{IsNumeral, digits_value}
use Rattle.kapi_http.specs.Limits.{body_limit, sent_limit}

-- the digits of that size: 1 to 8 in hexadecimal, of either case
pub record IsSize (digits : List ℕ) (size : ℕ) : Type 0 where
  pub numeral : IsNumeral 16 digits
  pub few : length digits ≤ 8
  pub value : digits_value 16 digits ≡ size

-- a chunk: the digits of its size, and its bytes
pub record SentChunk : Type 0 where
  pub size : List ℕ
  pub bytes : List ℕ

-- the size is that of the data, of which there are some
pub record IsChunk (chunk : SentChunk) : Type 0 where
  pub size : IsSize chunk.size (length chunk.bytes)
  pub some : 0 < length chunk.bytes

-- a chunk as it is sent: its size, CRLF, its data, CRLF
abbrev pub chunk_bytes : SentChunk → List ℕ
chunk_bytes chunk = chunk.size ++ codes "\r\n" ++ chunk.bytes ++ codes "\r\n"

-- the end as it is sent: a size, CRLF, and the empty line
abbrev pub end_bytes : List ℕ → List ℕ
end_bytes size = size ++ codes "\r\n\r\n"

-- the data of some chunks
abbrev pub data_of : List SentChunk → List ℕ
data_of chunks = flat_map (λ (c : SentChunk). c.bytes) chunks

-- the bytes are these chunks, and an end whose size is 0, within the limits
pub record IsBody (bytes : List ℕ) (chunks : List SentChunk) (size : List ℕ) : Type 0 where
  pub each : All IsChunk chunks
  pub last : IsSize size 0
  pub sent : bytes ≡ flat_map chunk_bytes chunks ++ end_bytes size
  pub data_limit : length (data_of chunks) ≤ body_limit
  pub sent_limit : length bytes ≤ sent_limit
