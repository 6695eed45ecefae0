-- A body in chunks is read as its chunks.
use Rattle.std.proofs.Common.{◌≡◌, ℕ, ◌+◌, ◌-◌, ◌*◌, ◌<◌, ◌≤◌, true, false, List, [], ◌∷◌, ◌++◌, length, refl, sym, ap, ◌∙◌, arith, append_assoc, length-append, flat_map, All, subst}
use Rattle.std.specs.Prelude.{min}
use Rattle.std.specs.Char.{digit_value}
use Rattle.std.specs.Str.Parse.{AllDigits, digits_value_after}
use Rattle.std.proofs.lemmas.Bool.{le-ltb, lt-ltb, ne_eqb}
use Rattle.std.proofs.lemmas.List.Elements.{All-head, All-tail}
use Rattle.httparse.specs.Ascii.{crlf_bytes}
use Rattle.kapi_http.specs.ChunkedBody.{IsBody, IsChunk, IsSize, SentChunk, chunk_bytes, data_of, end_bytes}
use Rattle.kapi_http.specs.Chunks.{behind_size, chunked, in_data, is_over, joined, next_state, no_chunks}
use Rattle.kapi_http.specs.declared.chunks.Chunks.{Chunks}
use Rattle.kapi_http.specs.declared.chunks.ChunkState.{ChunkState}
use Rattle.kapi_http.specs.declared.chunks.ChunkState.TheVariants.{SizeLine, SizeCr, Data, DataEnd, DataCr, LastLine, LastCr, Whole}
use Rattle.kapi_http.proofs.Chunking.{chunked_append, chunked_over}

abbrev pub mk : ChunkState → ℕ → ℕ → Chunks
mk spot at sum = record { spot = spot; at = at; sum = sum }

-- these bytes are read from there to there, and have these data
abbrev pub Reads : Chunks → List ℕ → List ℕ → Chunks → Type 0
Reads c bytes found d = (chunked c bytes ≡ d) × (joined c bytes ≡ found)

-- ---- one byte

out_more : (s t : ChunkState) (at sum b : ℕ) (bytes found : List ℕ) (d : Chunks) → next_state s sum b ≡ t → in_data s ≡ false → is_over s ≡ false → at < 1572864
    → Reads (mk t (at + 1) sum) bytes found d → Reads (mk s at sum) (b ∷ bytes) found d
unfolding chunked joined
out_more s t at sum b bytes found d e out going fits more =
    let within = le-ltb 1572864 (at + 1) (omega arith) in
    (rw (going, out, e, within) more.0, rw (out, e, within) more.1)

in_more : (s t : ChunkState) (at sum b : ℕ) (bytes found : List ℕ) (d : Chunks) → next_state s sum b ≡ t → in_data s ≡ true → is_over s ≡ false → at < 1572864
    → Reads (mk t (at + 1) (sum + 1)) bytes found d → Reads (mk s at sum) (b ∷ bytes) (b ∷ found) d
unfolding chunked joined
in_more s t at sum b bytes found d e out going fits more =
    let within = le-ltb 1572864 (at + 1) (omega arith) in
    (rw (going, out, e, within) more.0, rw (out, e, within) (ap (λ (l : List ℕ). b ∷ l) more.1))

-- ---- a size line

le_value_after : (n : ℕ) (ds : List ℕ) → n ≤ digits_value_after 16 n ds
le_value_after n [] = omega arith
le_value_after n (c ∷ cs) = omega (arith, le_value_after (n * 16 + digit_value c) cs)

a_digit : (k v sum c : ℕ) → digit_value c < 16 → k < 8 → v * 16 + digit_value c ≤ 1048576
    → next_state (SizeLine k v) sum c ≡ SizeLine (k + 1) (v * 16 + digit_value c)
a_digit k v sum c digit few small =
    let same : min (v * 16 + digit_value c) 1048577 ≡ v * 16 + digit_value c = omega arith in
    rw (lt-ltb (digit_value c) 16 digit, lt-ltb k 8 few) (ap (SizeLine (k + 1)) same)

digits_read : (ds : List ℕ) (k v at sum k' v' at' : ℕ) (bytes found : List ℕ) (d : Chunks) → AllDigits 16 ds
    → k' ≡ k + length ds → v' ≡ digits_value_after 16 v ds → at' ≡ at + length ds → k' ≤ 8 → v' ≤ 1048576 → at' ≤ 1572864
    → Reads (mk (SizeLine k' v') at' sum) bytes found d → Reads (mk (SizeLine k v) at sum) (ds ++ bytes) found d
digits_read [] k v at sum k' v' at' bytes found d all e f g few small fits more =
    let ke : k ≡ k' = omega (arith, e) in
    let ve : v ≡ v' = sym f in
    let ae : at ≡ at' = omega (arith, g) in
    rw (ke, ve, ae) more
digits_read (c ∷ cs) k v at sum k' v' at' bytes found d all e f g few small fits more =
    let grown : v * 16 + digit_value c ≤ 1048576 = omega (arith, f, le_value_after (v * 16 + digit_value c) cs) in
    out_more (SizeLine k v) (SizeLine (k + 1) (v * 16 + digit_value c)) at sum c (cs ++ bytes) found d
    (a_digit k v sum c all.0 (omega arith) grown) refl refl (omega arith)
    (digits_read cs (k + 1) (v * 16 + digit_value c) (at + 1) sum k' v' at' bytes found d all.1 (omega arith) f (omega arith) few small fits more)

size_read : (ds : List ℕ) (n at sum : ℕ) (bytes found : List ℕ) (d : Chunks) → IsSize ds n → n ≤ 1048576 → at + length ds + 2 ≤ 1572864
    → Reads (mk (behind_size n sum) (at + length ds + 1 + 1) sum) bytes found d
    → Reads (mk (SizeLine 0 0) at sum) (ds ++ 13 ∷ 10 ∷ bytes) found d
size_read ds n at sum bytes found d is small fits more =
    let count : ℕ = length ds in
    digits_read ds 0 0 at sum count n (at + count) (13 ∷ 10 ∷ bytes) found d is.numeral.1 (omega arith) (sym is.value) refl is.few small (omega arith)
    (out_more (SizeLine count n) (SizeCr n) (at + count) sum 13 (10 ∷ bytes) found d (rw (lt-ltb 0 count is.numeral.0) refl) refl refl (omega arith)
    (out_more (SizeCr n) (behind_size n sum) (at + count + 1) sum 10 bytes found d refl refl refl (omega arith) more))

-- ---- a chunk

data_read : (part : List ℕ) (left at sum at' sum' : ℕ) (bytes found : List ℕ) (d : Chunks) → 0 < left → left ≡ length part
    → at' ≡ at + length part → sum' ≡ sum + length part → at' ≤ 1572864
    → Reads (mk DataEnd at' sum') bytes found d → Reads (mk (Data left) at sum) (part ++ bytes) (part ++ found) d
data_read [] left at sum at' sum' bytes found d some is f g fits more = absurd (omega (arith, is))
data_read (b ∷ []) left at sum at' sum' bytes found d some is f g fits more =
    let ae : at + 1 ≡ at' = omega (arith, f) in
    let se : sum + 1 ≡ sum' = omega (arith, g) in
    in_more (Data left) DataEnd at sum b bytes found d (rw (le-ltb 1 left (omega (arith, is))) refl) refl refl (omega arith) (rw (ae, se) more)
data_read (b ∷ c ∷ part) left at sum at' sum' bytes found d some is f g fits more =
    in_more (Data left) (Data (left - 1)) at sum b (c ∷ (part ++ bytes)) (c ∷ (part ++ found)) d (rw (lt-ltb 1 left (omega (arith, is))) refl) refl refl (omega (arith, f))
    (data_read (c ∷ part) (left - 1) (at + 1) (sum + 1) at' sum' bytes found d (omega (arith, is)) (omega (arith, is)) (omega (arith, f)) (omega (arith, g)) fits more)

end_read : (at sum : ℕ) (bytes found : List ℕ) (d : Chunks) → at + 2 ≤ 1572864
    → Reads (mk (SizeLine 0 0) (at + 1 + 1) sum) bytes found d → Reads (mk DataEnd at sum) (13 ∷ 10 ∷ bytes) found d
end_read at sum bytes found d fits more =
    out_more DataEnd DataCr at sum 13 (10 ∷ bytes) found d refl refl refl (omega arith)
    (out_more DataCr (SizeLine 0 0) (at + 1) sum 10 bytes found d refl refl refl (omega arith) more)

pub opened : (n sum : ℕ) → 0 < n → sum + n ≤ 1048576 → behind_size n sum ≡ Data n
opened n sum some small = rw (ne_eqb n 0 (λ e. omega (arith, e)), le-ltb 1048576 (sum + n) small) refl

pub spelled : (ds part bytes : List ℕ) → ds ++ crlf_bytes ++ part ++ crlf_bytes ++ bytes ≡ ds ++ 13 ∷ 10 ∷ (part ++ 13 ∷ 10 ∷ bytes)
spelled ds part bytes =
    append_assoc (ds ++ crlf_bytes ++ part) crlf_bytes bytes ∙ append_assoc (ds ++ crlf_bytes) part (crlf_bytes ++ bytes) ∙ append_assoc ds crlf_bytes (part ++ (crlf_bytes ++ bytes))

measured : (ds part : List ℕ) → length (ds ++ crlf_bytes ++ part ++ crlf_bytes) ≡ length ds + length part + 4
measured ds part =
    omega (arith, length-append (ds ++ crlf_bytes ++ part) crlf_bytes, length-append (ds ++ crlf_bytes) part, length-append ds crlf_bytes)

chunk_read : (c : SentChunk) (at sum at' sum' : ℕ) (bytes found : List ℕ) (d : Chunks) → IsChunk c
    → sum' ≡ sum + length c.bytes → sum' ≤ 1048576 → at' ≡ at + length (chunk_bytes c) → at' ≤ 1572864
    → Reads (mk (SizeLine 0 0) at' sum') bytes found d → Reads (mk (SizeLine 0 0) at sum) (chunk_bytes c ++ bytes) (c.bytes ++ found) d
chunk_read c at sum at' sum' bytes found d is f small g fits more =
    let n : ℕ = length c.bytes in
    let count : ℕ = length c.size in
    let long : length (chunk_bytes c) ≡ count + n + 4 = measured c.size c.bytes in
    let ae : at + count + 1 + 1 + n + 1 + 1 ≡ at' = omega (arith, g, long) in
    rw (spelled c.size c.bytes bytes)
    (size_read c.size n at sum (c.bytes ++ 13 ∷ 10 ∷ bytes) (c.bytes ++ found) d is.size (omega (arith, f)) (omega (arith, g, long))
    (rw (opened n sum is.some (omega (arith, f)))
    (data_read c.bytes n (at + count + 1 + 1) sum (at + count + 1 + 1 + n) sum' (13 ∷ 10 ∷ bytes) found d is.some refl refl f (omega (arith, ae))
    (end_read (at + count + 1 + 1 + n) sum' bytes found d (omega (arith, ae)) (rw ae more)))))

-- ---- a body

last_read : (ds : List ℕ) (at sum at' : ℕ) → IsSize ds 0 → at' ≡ at + length (end_bytes ds) → at' ≤ 1572864
    → Reads (mk (SizeLine 0 0) at sum) (end_bytes ds) [] (mk Whole at' sum)
unfolding chunked joined
last_read ds at sum at' is g fits =
    let count : ℕ = length ds in
    let long : length (end_bytes ds) ≡ count + 4 = length-append ds (13 ∷ 10 ∷ 13 ∷ 10 ∷ []) in
    let ae : at + count + 1 + 1 + 1 + 1 ≡ at' = omega (arith, g, long) in
    size_read ds 0 at sum (13 ∷ 10 ∷ []) [] (mk Whole at' sum) is (omega arith) (omega (arith, ae))
    (out_more LastLine LastCr (at + count + 1 + 1) sum 13 (10 ∷ []) [] (mk Whole at' sum) refl refl refl (omega (arith, ae))
    (out_more LastCr Whole (at + count + 1 + 1 + 1) sum 10 [] [] (mk Whole at' sum) refl refl refl (omega (arith, ae))
    (ap (λ (k : ℕ). mk Whole k sum) ae, refl)))

chunks_read : (chunks : List SentChunk) (size : List ℕ) (at sum at' sum' : ℕ) → All IsChunk chunks → IsSize size 0
    → sum' ≡ sum + length (data_of chunks) → sum' ≤ 1048576 → at' ≡ at + length (flat_map chunk_bytes chunks ++ end_bytes size) → at' ≤ 1572864
    → Reads (mk (SizeLine 0 0) at sum) (flat_map chunk_bytes chunks ++ end_bytes size) (data_of chunks) (mk Whole at' sum')
chunks_read [] size at sum at' sum' are is f small g fits =
    let se : sum ≡ sum' = omega (arith, f) in
    let last = last_read size at sum at' is g fits in
    (last.0 ∙ ap (mk Whole at') se, last.1)
chunks_read (c ∷ chunks) size at sum at' sum' are is f small g fits =
    let behind : List ℕ = flat_map chunk_bytes chunks ++ end_bytes size in
    let order : flat_map chunk_bytes (c ∷ chunks) ++ end_bytes size ≡ chunk_bytes c ++ behind = append_assoc (chunk_bytes c) (flat_map chunk_bytes chunks) (end_bytes size) in
    let total : length (flat_map chunk_bytes (c ∷ chunks) ++ end_bytes size) ≡ length (chunk_bytes c) + length behind = ap length order ∙ length-append (chunk_bytes c) behind in
    let sums = length-append c.bytes (data_of chunks) in
    let at1 : ℕ = at + length (chunk_bytes c) in
    let sum1 : ℕ = sum + length c.bytes in
    rw order
    (chunk_read c at sum at1 sum1 behind (data_of chunks) (mk Whole at' sum') (All-head IsChunk c chunks are)
    refl (omega (arith, f, sums)) refl (omega (arith, g, total))
    (chunks_read chunks size at1 sum1 at' sum' (All-tail IsChunk c chunks are) is (omega (arith, f, sums)) small (omega (arith, g, total)) fits))

pub body_read : (bytes : List ℕ) (chunks : List SentChunk) (size : List ℕ) → IsBody bytes chunks size
    → Reads no_chunks bytes (data_of chunks) (mk Whole (length bytes) (length (data_of chunks)))
body_read bytes chunks size is =
    subst (λ (text : List ℕ). Reads no_chunks text (data_of chunks) (mk Whole (length bytes) (length (data_of chunks)))) (sym is.sent)
    (chunks_read chunks size 0 0 (length bytes) (length (data_of chunks)) is.each is.last (omega arith) is.data_limit (omega (arith, ap length is.sent)) is.sent_limit)

-- a body is read whole, whatever follows it
pub body_whole : (bytes more : List ℕ) (chunks : List SentChunk) (size : List ℕ) → IsBody bytes chunks size
    → chunked no_chunks (bytes ++ more) ≡ mk Whole (length bytes) (length (data_of chunks))
body_whole bytes more chunks size is =
    let end : Chunks = mk Whole (length bytes) (length (data_of chunks)) in
    chunked_append no_chunks bytes more ∙ ap (λ (c : Chunks). chunked c more) (body_read bytes chunks size is).0 ∙ chunked_over end more refl
