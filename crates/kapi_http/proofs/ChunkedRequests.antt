-- A request whose head says so has a body in chunks.
use Rattle.std.proofs.Common.{◌≡◌, ℕ, ◌+◌, ◌-◌, List, ◌++◌, length, take, drop, refl, sym, ap, ◌∙◌, arith, Some, Ok, take-append-drop}
use Rattle.std.specs.Prelude.{slice_range}
use Rattle.std.proofs.lemmas.List.{length-take}
use Rattle.kapi_http.specs.ChunkedBody.{IsBody, SentChunk, data_of}
use Rattle.kapi_http.specs.Chunks.{chunked, ending_of, joined, no_chunks}
use Rattle.kapi_http.specs.Cut.{Finding, accepted, chunked_item, chunks_behind, first, item_of, request_of, settled}
use Rattle.kapi_http.specs.Head.{Says}
use Rattle.kapi_http.specs.declared.chunks.Chunks.{Chunks}
use Rattle.kapi_http.specs.declared.chunks.ChunkState.{ChunkState}
use Rattle.kapi_http.specs.declared.chunks.ChunkState.TheVariants.{SizeLine, SizeCr, Data, DataEnd, DataCr, LastLine, LastCr, Whole, Wrong, TooLarge}
use Rattle.kapi_http.specs.declared.chunks.Ending.{Ending}
use Rattle.kapi_http.specs.declared.chunks.Ending.TheVariants as ending
use Rattle.kapi_http.specs.declared.message.HttpRequest.{HttpRequest}
use Rattle.kapi_http.specs.declared.message.Method.{Method}
use Rattle.kapi_http.specs.declared.rules.Framing.TheVariants.{Chunked}
use Rattle.kapi_http.proofs.BodyParts.{whole_is_body}
use Rattle.kapi_http.proofs.Chunking.{chunks_front, chunks_within}

closed_is_whole : (s : ChunkState) → ending_of s ≡ ending.Closed → s ≡ Whole
closed_is_whole (SizeLine digits size) e = absurd cc
closed_is_whole (SizeCr size) e = absurd cc
closed_is_whole (Data left) e = absurd cc
closed_is_whole DataEnd e = absurd cc
closed_is_whole DataCr e = absurd cc
closed_is_whole LastLine e = absurd cc
closed_is_whole LastCr e = absurd cc
closed_is_whole Whole e = refl
closed_is_whole Wrong e = absurd cc
closed_is_whole TooLarge e = absurd cc

pub request_has_body : (bytes : List ℕ) (n : ℕ) (h : Says) (method : Method) (r : HttpRequest) → settled bytes ≡ accepted n h method Chunked → first bytes ≡ Some (Ok r)
    → (body more : List ℕ) × (chunks : List SentChunk) × (size : List ℕ) × IsBody body chunks size × (drop n bytes ≡ body ++ more)
    × (r ≡ request_of h method (data_of chunks) (n + length body))
unfolding first
request_has_body bytes n h method r settles is = by_ending (ending_of c.spot) refl (sym (ap (λ (f : Finding). item_of f bytes) settles) ∙ is)
  where
    rest : List ℕ
    rest = drop n bytes

    c : Chunks
    c = chunks_behind n bytes

    body : List ℕ
    body = take c.at rest

    Goal : Type 0
    Goal = (text more : List ℕ) × (chunks : List SentChunk) × (size : List ℕ) × IsBody text chunks size × (rest ≡ text ++ more)
        × (r ≡ request_of h method (data_of chunks) (n + length text))

    by_ending : (e : Ending) → ending_of c.spot ≡ e → chunked_item n h method e c.at bytes ≡ Some (Ok r) → Goal
    by_ending ending.Open e found = absurd (cc found)
    by_ending (ending.Refused why) e found = absurd (cc found)
    by_ending ending.Closed e found =
        let same : chunked no_chunks body ≡ c = chunks_front rest in
        let long : length body ≡ c.at = omega (arith, length-take c.at rest, chunks_within rest) in
        let whole : (chunked no_chunks body).spot ≡ Whole = ap (λ (d : Chunks). d.spot) same ∙ closed_is_whole c.spot e in
        let all : (chunked no_chunks body).at ≡ length body = ap (λ (d : Chunks). d.at) same ∙ sym long in
        let is_one = whole_is_body body whole all in
        let size : n + c.at - n ≡ c.at = omega arith in
        let part : slice_range bytes n (n + c.at) ≡ body = ap (λ (k : ℕ). take k rest) size in
        let unwrapped : request_of h method (joined no_chunks (slice_range bytes n (n + c.at))) (n + c.at) ≡ r = cc found in (
          body,
          drop c.at rest,
          is_one.0,
          is_one.1,
          is_one.2,
          sym (take-append-drop c.at rest),
          sym unwrapped ∙ ap (λ (l : List ℕ). request_of h method l (n + c.at)) (ap (joined no_chunks) part ∙ is_one.3)
              ∙ ap (λ (k : ℕ). request_of h method (data_of is_one.0) (n + k)) (sym long),
        )
