-- The first item of a text.
use Rattle.std.proofs.Common.{◌≡◌, ℕ, ◌+◌, ◌<◌, ◌≤◌, ◌⊎◌, inl, inr, Bool, true, false, List, length, refl, ap, arith, Some, Ok, slice_range, drop, length-drop}
use Rattle.std.specs.Prelude.{nat_le}
use Rattle.std.proofs.lemmas.Bool.Decides.{leb_tells}
use Rattle.kapi_http.specs.Cut.{Finding, waits, refused, accepted, chunked_item, chunks_behind, item_of, first, settled, request_of}
use Rattle.kapi_http.specs.Chunks.{ending_of, joined, no_chunks}
use Rattle.kapi_http.specs.Head.{Says}
use Rattle.kapi_http.specs.declared.chunks.Ending.{Ending}
use Rattle.kapi_http.specs.declared.chunks.Ending.TheVariants as ending
use Rattle.kapi_http.specs.declared.message.Method.{Method}
use Rattle.kapi_http.specs.declared.rules.Framing.TheVariants.{Sized, Chunked}
use Rattle.kapi_http.proofs.Chunking.{chunks_within}
use Rattle.kapi_http.proofs.Settling.{Facts, facts}
use Rattle.kapi_http.specs.Inbox.{Unserved, next_of}
use Rattle.kapi_http.specs.declared.message.HttpRequest.{HttpRequest}

-- a request whose body came in chunks lies within the bytes
chunks_fit : (n : ℕ) (h : Says) (m : Method) (o : Ending) (at : ℕ) (bytes : List ℕ) (r : HttpRequest) → n + at ≤ length bytes
    → chunked_item n h m o at bytes ≡ Some (Ok r) → r.length ≤ length bytes
chunks_fit n h m ending.Open at bytes r fits e = absurd cc
chunks_fit n h m ending.Closed at bytes r fits e =
    let same : request_of h m (joined no_chunks (slice_range bytes n (n + at))) (n + at) ≡ r = cc in
    let longer : n + at ≡ r.length = ap (λ (q : HttpRequest). q.length) same in
    omega (arith, longer, fits)
chunks_fit n h m (ending.Refused why) at bytes r fits e = absurd cc

-- a request that is settled lies within the bytes
item_fits : (f : Finding) (bytes : List ℕ) (r : HttpRequest) → Facts bytes f → item_of f bytes ≡ Some (Ok r) → r.length ≤ length bytes
item_fits waits bytes r known e = absurd cc
item_fits (refused n method why) bytes r known e = absurd cc
item_fits (accepted n h method Chunked) bytes r known e =
    let at : ℕ = (chunks_behind n bytes).at in
    chunks_fit n h method (ending_of (chunks_behind n bytes).spot) at bytes r
    (omega (arith, known.3, chunks_within (drop n bytes), length-drop n bytes)) e
item_fits (accepted n h method (Sized size)) bytes r known e = by_room (leb_tells (n + size) (length bytes))
  where
    by_room : ((nat_le (n + size) (length bytes) ≡ true) × (n + size ≤ length bytes))
        ⊎ ((nat_le (n + size) (length bytes) ≡ false) × (length bytes < n + size))
        → r.length ≤ length bytes
    by_room (inl (t, room)) =
        let found = rw t at e in
        let same : request_of h method (slice_range bytes n (n + size)) (n + size) ≡ r = cc in
        let longer : n + size ≡ r.length = ap (λ (q : HttpRequest). q.length) same in
        omega (arith, longer, room)
    by_room (inr (f, short)) = absurd (let none = rw f at e in cc)

-- a request lies within the bytes
pub first_fits : (bytes : List ℕ) (r : HttpRequest) → first bytes ≡ Some (Ok r) → r.length ≤ length bytes
unfolding first
first_fits bytes r e = item_fits (settled bytes) bytes r (facts bytes) e

-- what an inbox returns next lies within its bytes
pub next_fits : (u : Unserved) (r : HttpRequest) → next_of u ≡ Some (Ok r) → r.length ≤ length u.kept
next_fits u r e = by_end u.ended refl
  where
    by_end : (b : Bool) → u.ended ≡ b → r.length ≤ length u.kept
    by_end true ended = absurd (let none = rw ended at e in cc)
    by_end false going = first_fits u.kept r (rw going at e)
