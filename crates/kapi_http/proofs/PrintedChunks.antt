-- Chunks that are printed are read.
use Rattle.std.proofs.Common.{◌≡◌, ℕ, zero, suc, ◌+◌, ◌-◌, ◌<◌, ◌≤◌, Bool, true, false, List, [], ◌∷◌, ◌++◌, length, take, drop, refl, sym, ap, ◌∙◌, arith, length-append, flat_map, All, Some, Ok}
use Rattle.std.specs.Prelude.{◌==◌, ◌/◌, ◌%◌, ◌^◌, map, slice_range}
use Rattle.std.specs.Fmt.{digit_glyph, digits, digits_onto}
use Rattle.std.specs.List.{concat}
use Rattle.std.specs.Str.Parse.{IsNumeral, digits_value}
use Rattle.std.proofs.Math.Nat.{pow-suc}
use Rattle.std.proofs.Math.Seq.{drop-append_seam, take-append_seam}
use Rattle.std.proofs.lemmas.Bool.{eq-eqb}
use Rattle.std.proofs.lemmas.Fmt.{digits_is_IsNumeral}
use Rattle.std.proofs.lemmas.List.Elements.{All-cons, All-head, All-nil, All-tail}
use Rattle.httparse.specs.Grammar.{IsRequestHead, RequestHead, print_request}
use Rattle.kapi_http.specs.ChunkText.{AreChunks, body_text, chunk, last_chunk}
use Rattle.kapi_http.specs.ChunkedBody.{IsBody, IsChunk, IsSize, SentChunk, chunk_bytes, data_of}
use Rattle.kapi_http.specs.Chunks.{chunked, ending_of, joined, no_chunks}
use Rattle.kapi_http.specs.Cut.{Finding, accepted, chunked_item, chunks_behind, first, item_of, request_of, settled, settled_by}
use Rattle.kapi_http.specs.Head.{says}
use Rattle.kapi_http.specs.Rules.{checked}
use Rattle.kapi_http.specs.declared.chunks.Chunks.{Chunks}
use Rattle.kapi_http.specs.declared.chunks.ChunkState.TheVariants.{Whole}
use Rattle.kapi_http.specs.declared.message.Method.{Method}
use Rattle.kapi_http.specs.declared.rules.Framing.TheVariants.{Chunked}
use Rattle.kapi_http.proofs.BodyReads.{Reads, body_read, body_whole, mk}
use Rattle.kapi_http.proofs.Printed.{settled_print}

-- a number below 16 to the power of j + 1 has at most j + 1 digits
onto_short : (k j n : ℕ) (acc : List ℕ) → n < 16 ^ suc j → length (digits_onto k 16 false n acc) ≤ suc j + length acc
onto_short zero j n acc small = omega arith
onto_short (suc k) j n acc small = by_last (n / 16 == 0) refl (λ i. onto_short k i (n / 16) (digit_glyph false (n % 16) ∷ acc))
  where
    Short : Type 0
    Short = (i : ℕ) → n / 16 < 16 ^ suc i → length (digits_onto k 16 false (n / 16) (digit_glyph false (n % 16) ∷ acc)) ≤ suc i + suc (length acc)

    shorter : (i : ℕ) → n < 16 ^ suc i → ((n / 16 == 0) ≡ false) → Short
        → length (digits_onto k 16 false (n / 16) (digit_glyph false (n % 16) ∷ acc)) ≤ suc i + length acc
    shorter zero below e more = absurd (let one : n / 16 ≡ 0 = omega (arith, below, pow-suc 16 0) in let no = eq-eqb (n / 16) 0 one in cc)
    shorter (suc i) below e more = omega (arith, more i (omega (arith, below, pow-suc 16 (suc i))))

    by_last : (t : Bool) → (n / 16 == 0) ≡ t → Short → length (digits_onto (suc k) 16 false n acc) ≤ suc j + length acc
    by_last true e more = rw e (omega arith)
    by_last false e more = rw e (shorter j small e more)

few_digits : (n : ℕ) → n ≤ 1048576 → length (digits 16 false n) ≤ 6
unfolding digits
few_digits n small = onto_short 64 5 n [] (omega arith)

-- ---- the chunks that are printed

-- the chunk of these bytes
abbrev printed : List ℕ → SentChunk
printed part = record { size = digits 16 false (length part); bytes = part }

printed_size : (n : ℕ) → n ≤ 1048576 → IsSize (digits 16 false n) n
printed_size n small =
    let is : IsNumeral 16 (digits 16 false n) × (digits_value 16 (digits 16 false n) ≡ n) = digits_is_IsNumeral 16 false (omega arith) (omega arith) n (omega arith) in
    record { numeral = is.0; few = omega (arith, few_digits n small); value = is.1 }

printed_chunks : (parts : List (List ℕ)) → All (λ part. 0 < length part) parts → length (concat parts) ≤ 1048576 → All IsChunk (map printed parts)
printed_chunks [] some small = All-nil IsChunk
printed_chunks (part ∷ parts) some small =
    let both = length-append part (concat parts) in
    let is : IsChunk (printed part) = record {
      size = printed_size (length part) (omega (arith, small, both));
      some = All-head (λ (p : List ℕ). 0 < length p) part parts some;
    } in
    All-cons IsChunk (printed part) (map printed parts) is
    (printed_chunks parts (All-tail (λ (p : List ℕ). 0 < length p) part parts some) (omega (arith, small, both)))

printed_text : (parts : List (List ℕ)) → flat_map chunk parts ≡ flat_map chunk_bytes (map printed parts)
printed_text [] = refl
printed_text (part ∷ parts) = ap (λ (l : List ℕ). chunk part ++ l) (printed_text parts)

printed_data : (parts : List (List ℕ)) → data_of (map printed parts) ≡ concat parts
printed_data [] = refl
printed_data (part ∷ parts) = ap (λ (l : List ℕ). part ++ l) (printed_data parts)

-- what is printed is a body
printed_body : (parts : List (List ℕ)) → AreChunks parts → IsBody (body_text parts) (map printed parts) (48 ∷ [])
printed_body parts are = record {
  each = printed_chunks parts are.some are.body;
  last = record { numeral = (omega arith, (omega arith, tt)); few = omega arith; value = refl };
  sent = ap (λ (l : List ℕ). l ++ last_chunk) (printed_text parts);
  data_limit = omega (arith, are.body, ap length (printed_data parts));
  sent_limit = are.sent;
}

pub printed_read : (parts : List (List ℕ)) → AreChunks parts
    → Reads no_chunks (body_text parts) (concat parts) (mk Whole (length (body_text parts)) (length (concat parts)))
printed_read parts are = rw (sym (printed_data parts)) (body_read (body_text parts) (map printed parts) (48 ∷ []) (printed_body parts are))

-- a printed body is read whole, whatever follows it
pub printed_whole : (parts : List (List ℕ)) (more : List ℕ) → AreChunks parts
    → chunked no_chunks (body_text parts ++ more) ≡ mk Whole (length (body_text parts)) (length (concat parts))
printed_whole parts more are = rw (sym (printed_data parts)) (body_whole (body_text parts) more (map printed parts) (48 ∷ []) (printed_body parts are))

-- a request of a printed head and body is that request
pub printed_request : (h : RequestHead) (method : Method) (parts : List (List ℕ)) (more : List ℕ) → IsRequestHead h → length (print_request h) ≤ 16384
    → length h.fields ≤ 64 → checked (says h) ≡ Ok (method, Chunked) → AreChunks parts
    → first (print_request h ++ (body_text parts ++ more))
    ≡ Some (Ok (request_of (says h) method (concat parts) (length (print_request h) + length (body_text parts))))
unfolding first
printed_request h method parts more is short few framed are =
    let head : List ℕ = print_request h in
    let body : List ℕ = body_text parts in
    let bytes : List ℕ = head ++ (body ++ more) in
    let n : ℕ = length head in
    let rest : drop n bytes ≡ body ++ more = drop-append_seam head (body ++ more) in
    let settles : settled bytes ≡ accepted n (says h) method Chunked =
    settled_print h (body ++ more) is short few ∙ ap (settled_by head (says h)) framed in
    let read : chunks_behind n bytes ≡ mk Whole (length body) (length (concat parts)) = ap (chunked no_chunks) rest ∙ printed_whole parts more are in
    let size : n + length body - n ≡ length body = omega arith in
    let part : slice_range bytes n (n + length body) ≡ body =
    ap (λ (k : ℕ). take k (drop n bytes)) size ∙ ap (take (length body)) rest ∙ take-append_seam body more in
    ap (λ (f : Finding). item_of f bytes) settles
    ∙ ap (λ (c : Chunks). chunked_item n (says h) method (ending_of c.spot) c.at bytes) read
    ∙ ap (λ (l : List ℕ). Some (Ok (request_of (says h) method l (n + length body)))) (ap (joined no_chunks) part ∙ (printed_read parts are).1)
