-- A body in chunks (RFC 9112 section 7.1): lines end with CRLF, a size is 1 to 8 hexadecimal digits, and the last
-- chunk's is 0; no extensions, no trailer fields.
use Rattle.std.specs.Prelude.{ℕ, ◌+◌, ◌-◌, ◌*◌, ◌==◌, nat_lt, if◌then◌else◌, not, ◌&&◌, Bool, true, false, List, [], ◌∷◌, min}
use Rattle.std.specs.Char.{digit_value, is_digit}
use Rattle.httparse.specs.Ascii.{line_feed, carriage_return}
use Rattle.kapi_http.specs.Limits.{body_limit, sent_limit}
use Rattle.kapi_http.specs.declared.chunks.ChunkState.{ChunkState}
use Rattle.kapi_http.specs.declared.chunks.ChunkState.TheVariants.{SizeLine, SizeCr, Data, DataEnd, DataCr, LastLine, LastCr, Whole, Wrong, TooLarge}
use Rattle.kapi_http.specs.declared.chunks.Chunks.{Chunks}
use Rattle.kapi_http.specs.declared.chunks.Ending.{Ending}
use Rattle.kapi_http.specs.declared.chunks.Ending.TheVariants as ending
use Rattle.kapi_http.specs.declared.message.Refusal.TheVariants as refusal

-- the state behind the only byte that is allowed here; any other byte is wrong
abbrev pub only : ℕ → ℕ → ChunkState → ChunkState
only wanted b spot = if b == wanted then spot else Wrong

-- the state in a size line: a ninth digit is wrong, and so is a line without a digit
abbrev pub in_size : ℕ → ℕ → ℕ → ChunkState
in_size digits size b =
    if is_digit b 16 && nat_lt digits 8 then SizeLine (digits + 1) (min (size * 16 + digit_value b) (body_limit + 1))
    else if b == carriage_return && nat_lt 0 digits then SizeCr size
    else Wrong

-- the state behind a size line: the last chunk, too much data, or so many bytes of data
abbrev pub behind_size : ℕ → ℕ → ChunkState
behind_size size sum =
    if size == 0 then LastLine else if nat_lt body_limit (sum + size) then TooLarge else Data size

-- the state behind the next byte, with so many bytes of data before it
abbrev pub next_state : ChunkState → ℕ → ℕ → ChunkState
next_state (SizeLine digits size) sum b = in_size digits size b
next_state (SizeCr size) sum b = only line_feed b (behind_size size sum)
next_state (Data left) sum b = if nat_lt 1 left then Data (left - 1) else DataEnd
next_state DataEnd sum b = only carriage_return b DataCr
next_state DataCr sum b = only line_feed b (SizeLine 0 0)
next_state LastLine sum b = only carriage_return b LastCr
next_state LastCr sum b = only line_feed b Whole
next_state Whole sum b = Whole
next_state Wrong sum b = Wrong
next_state TooLarge sum b = TooLarge

-- the byte is one of the data
abbrev pub in_data : ChunkState → Bool
in_data (SizeLine digits size) = false
in_data (SizeCr size) = false
in_data (Data left) = true
in_data DataEnd = false
in_data DataCr = false
in_data LastLine = false
in_data LastCr = false
in_data Whole = false
in_data Wrong = false
in_data TooLarge = false

-- the bytes are no body in chunks
abbrev pub is_wrong : ChunkState → Bool
is_wrong (SizeLine digits size) = false
is_wrong (SizeCr size) = false
is_wrong (Data left) = false
is_wrong DataEnd = false
is_wrong DataCr = false
is_wrong LastLine = false
is_wrong LastCr = false
is_wrong Whole = false
is_wrong Wrong = true
is_wrong TooLarge = false

-- the body is whole, or is refused
abbrev pub is_over : ChunkState → Bool
is_over (SizeLine digits size) = false
is_over (SizeCr size) = false
is_over (Data left) = false
is_over DataEnd = false
is_over DataCr = false
is_over LastLine = false
is_over LastCr = false
is_over Whole = true
is_over Wrong = true
is_over TooLarge = true

-- what is known of the body
abbrev pub ending_of : ChunkState → Ending
ending_of (SizeLine digits size) = ending.Open
ending_of (SizeCr size) = ending.Open
ending_of (Data left) = ending.Open
ending_of DataEnd = ending.Open
ending_of DataCr = ending.Open
ending_of LastLine = ending.Open
ending_of LastCr = ending.Open
ending_of Whole = ending.Closed
ending_of Wrong = ending.Refused refusal.Chunk
ending_of TooLarge = ending.Refused refusal.BodyTooLarge

-- the state, unless more bytes were sent than are allowed; a wrong byte is reported first
abbrev pub within_sent : ℕ → ChunkState → ChunkState
within_sent at spot = if nat_lt sent_limit at && not (is_wrong spot) then TooLarge else spot

-- the chunks with one byte more
abbrev pub chunk_step : Chunks → ℕ → Chunks
chunk_step c b = record {
  spot = within_sent (c.at + 1) (next_state c.spot c.sum b);
  at = c.at + 1;
  sum = if in_data c.spot then c.sum + 1 else c.sum;
}

-- the chunks before any byte
abbrev pub no_chunks : Chunks
no_chunks = record { spot = SizeLine 0 0; at = 0; sum = 0 }

-- the chunks with these bytes more, but with none behind the end of the body
unfoldable pub chunked : Chunks → List ℕ → Chunks
chunked c [] = c
chunked c (b ∷ bytes) = if is_over c.spot then c else chunked (chunk_step c b) bytes

-- the data of the chunks among these bytes
unfoldable pub joined : Chunks → List ℕ → List ℕ
joined c [] = []
joined c (b ∷ bytes) =
    if in_data c.spot then b ∷ joined (chunk_step c b) bytes else joined (chunk_step c b) bytes
