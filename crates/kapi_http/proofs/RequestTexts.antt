-- What is read as a request is one, and what is one is read.
use Rattle.std.proofs.Common.{◌≡◌, ℕ, zero, suc, ◌+◌, ◌-◌, ◌<◌, ◌≤◌, ◌⊎◌, inl, inr, true, false, List, [], ◌∷◌, ◌++◌, length, take, drop, refl, sym, ap, ◌∙◌, arith, Option, Some, None, Result, Ok, Err, append_assoc, append-nil, length-append, length-drop, take-append-drop}
use Rattle.std.specs.Prelude.{nat_le, slice_range}
use Rattle.std.specs.List.{concat}
use Rattle.std.proofs.Math.Seq.{drop-append_seam, take-append_seam}
use Rattle.std.proofs.lemmas.Bool.{le-leb}
use Rattle.std.proofs.lemmas.Bool.Decides.{leb_tells}
use Rattle.std.proofs.lemmas.List.{length-take}
use Rattle.httparse.specs.Grammar.{print_request}
use Rattle.kapi_http.specs.ChunkedBody.{data_of}
use Rattle.kapi_http.specs.Chunks.{chunked, ending_of, joined, no_chunks}
use Rattle.kapi_http.specs.Cut.{Cut, Finding, waits, refused, accepted, chunked_item, chunks_behind, cut, cut_at, cut_by, first, item_of, request_of, settled, settled_by}
use Rattle.kapi_http.specs.Head.{Says, says}
use Rattle.kapi_http.specs.Requests.{AreCut, AreRequests, HasNone, IsRequest, IsSent}
use Rattle.kapi_http.specs.Rules.{checked}
use Rattle.kapi_http.specs.declared.chunks.Chunks.{Chunks}
use Rattle.kapi_http.specs.declared.chunks.ChunkState.TheVariants.{Whole}
use Rattle.kapi_http.specs.declared.message.HttpFault.{HttpFault}
use Rattle.kapi_http.specs.declared.message.HttpRequest.{HttpRequest}
use Rattle.kapi_http.specs.declared.message.Method.{Method}
use Rattle.kapi_http.specs.declared.rules.Framing.{Framing}
use Rattle.kapi_http.specs.declared.rules.Framing.TheVariants.{Sized, Chunked}
use Rattle.kapi_http.proofs.BodyReads.{body_read, body_whole, mk}
use Rattle.kapi_http.proofs.ChunkedRequests.{request_has_body}
use Rattle.kapi_http.proofs.Cutting.{cut_apart, cut_first}
use Rattle.kapi_http.proofs.Decided.{first_positive}
use Rattle.kapi_http.proofs.HeadEnds.{accepted_head}
use Rattle.kapi_http.proofs.Items.{first_fits}
use Rattle.kapi_http.proofs.Printed.{settled_print}

-- ---- what is read is a request

-- the bytes begin with the text of this request
abbrev Fronts : List ℕ → HttpRequest → Type 0
Fronts bytes r = (text more : List ℕ) × IsRequest text r × (bytes ≡ text ++ more)

-- an accepted head and the body behind it are a request
joint : (bytes : List ℕ) (n : ℕ) (h : Says) (method : Method) (framing : Framing) (sent content more : List ℕ) (r : HttpRequest)
    → settled bytes ≡ accepted n h method framing → IsSent framing sent content → drop n bytes ≡ sent ++ more
    → r ≡ request_of h method content (n + length sent) → Fronts bytes r
joint bytes n h method framing sent content more r settles body behind is =
    let front = accepted_head bytes n h method framing settles in
    let head : List ℕ = print_request front.0 in
    let total : n + length sent ≡ length (head ++ sent) = omega (arith, front.1.size, length-append head sent) in (
      head ++ sent,
      more,
      record {
        head = front.0;
        method = method;
        framing = framing;
        sent = sent;
        content = content;
        valid = front.1.reads.0;
        short = omega (arith, front.1.size, front.1.short);
        few = front.1.few;
        rules = ap checked (sym front.2) ∙ front.3;
        body = body;
        whole = refl;
        request = is ∙ (λ i. request_of (front.2 i) method content (total i));
      },
      front.1.reads.1 ∙ ap (λ (t : List ℕ). head ++ t) behind ∙ sym (append_assoc head sent more),
    )

pub request_text : (bytes : List ℕ) (r : HttpRequest) → first bytes ≡ Some (Ok r) → Fronts bytes r
unfolding first
request_text bytes r is = by_finding (settled bytes) refl is
  where
    by_finding : (f : Finding) → settled bytes ≡ f → item_of f bytes ≡ Some (Ok r) → Fronts bytes r
    by_finding waits settles e = absurd cc
    by_finding (refused n method why) settles e = absurd cc
    by_finding (accepted n h method Chunked) settles e =
        let b = request_has_body bytes n h method r settles is in
        joint bytes n h method Chunked b.0 (data_of b.2) b.1 r settles (b.2, b.3, b.4, refl) b.5 b.6
    by_finding (accepted n h method (Sized size)) settles e = by_room (leb_tells (n + size) (length bytes))
      where
        by_room : ((nat_le (n + size) (length bytes) ≡ true) × (n + size ≤ length bytes)) ⊎ ((nat_le (n + size) (length bytes) ≡ false) × (length bytes < n + size))
            → Fronts bytes r
        by_room (inr (f, short)) = absurd (let none = rw f at e in cc)
        by_room (inl (t, room)) =
            let found = rw t at e in
            let same : request_of h method (slice_range bytes n (n + size)) (n + size) ≡ r = cc found in
            let rest : List ℕ = drop n bytes in
            let count : n + size - n ≡ size = omega arith in
            let part : slice_range bytes n (n + size) ≡ take size rest = ap (λ (k : ℕ). take k rest) count in
            let long : length (take size rest) ≡ size = omega (arith, length-take size rest, length-drop n bytes, room) in
            joint bytes n h method (Sized size) (take size rest) (take size rest) (drop size rest) r settles (long, refl) (sym (take-append-drop size rest))
            (sym same ∙ (λ i. request_of h method (part i) (n + sym long i)))

-- ---- what is a request is read

pub text_request : (text more : List ℕ) (r : HttpRequest) → IsRequest text r → first (text ++ more) ≡ Some (Ok r)
unfolding first
text_request text more r is =
    ap first (ap (λ (t : List ℕ). t ++ more) is.whole ∙ append_assoc head is.sent more)
    ∙ by_framing is.framing is.rules is.body ∙ ap (λ (q : HttpRequest). Some (Ok q)) (sym is.request)
  where
    head : List ℕ
    head = print_request is.head

    h : Says
    h = says is.head

    n : ℕ
    n = length head

    bytes : List ℕ
    bytes = head ++ (is.sent ++ more)

    rest : drop n bytes ≡ is.sent ++ more
    rest = drop-append_seam head (is.sent ++ more)

    total : n + length is.sent ≡ length text
    total = omega (arith, ap length is.whole, length-append head is.sent)

    part : (k : ℕ) → k ≡ length is.sent → slice_range bytes n (n + k) ≡ is.sent
    part k e =
        let size : n + k - n ≡ length is.sent = omega arith in
        ap (λ (j : ℕ). take j (drop n bytes)) size ∙ ap (take (length is.sent)) rest ∙ take-append_seam is.sent more

    settles : (f : Framing) → checked h ≡ Ok (is.method, f) → settled bytes ≡ accepted n h is.method f
    settles f framed = settled_print is.head (is.sent ++ more) is.valid is.short is.few ∙ ap (settled_by head h) framed

    by_framing : (f : Framing) → checked h ≡ Ok (is.method, f) → IsSent f is.sent is.content
        → first bytes ≡ Some (Ok (request_of h is.method is.content (length text)))
    by_framing (Sized size) framed body =
        let fits : nat_le (n + size) (length bytes) ≡ true =
        le-leb (n + size) (length bytes) (omega (arith, body.0, length-append head (is.sent ++ more), length-append is.sent more)) in
        let content : slice_range bytes n (n + size) ≡ is.content = part size (sym body.0) ∙ body.1 in
        let end : n + size ≡ length text = omega (arith, body.0, total) in
        ap (λ (f : Finding). item_of f bytes) (settles (Sized size) framed) ∙ rw fits (λ i. Some (Ok (request_of h is.method (content i) (end i))))
    by_framing Chunked framed body =
        let read : chunks_behind n bytes ≡ mk Whole (length is.sent) (length (data_of body.0)) =
        ap (chunked no_chunks) rest ∙ body_whole is.sent more body.0 body.1 body.2 in
        let content : joined no_chunks (slice_range bytes n (n + length is.sent)) ≡ is.content =
        ap (joined no_chunks) (part (length is.sent) refl) ∙ (body_read is.sent body.0 body.1 body.2).1 ∙ body.3 in
        ap (λ (f : Finding). item_of f bytes) (settles Chunked framed)
        ∙ ap (λ (c : Chunks). chunked_item n h is.method (ending_of c.spot) c.at bytes) read
        ∙ (λ i. Some (Ok (request_of h is.method (content i) (total i))))

-- no text begins with two requests
pub one_request : (text other more rest : List ℕ) (r s : HttpRequest) → IsRequest text r → IsRequest other s → text ++ more ≡ other ++ rest
    → (text ≡ other) × (r ≡ s)
one_request text other more rest r s is that same =
    let both : Some (Ok r) ≡ Some (Ok s) = sym (text_request text more r is) ∙ ap first same ∙ text_request other rest s that in
    let one : r ≡ s = cc both in
    let long : length text ≡ length other =
    sym (ap (λ (q : HttpRequest). q.length) is.request) ∙ ap (λ (q : HttpRequest). q.length) one ∙ ap (λ (q : HttpRequest). q.length) that.request in
    (sym (take-append_seam text more) ∙ ap (take (length text)) same ∙ ap (λ (k : ℕ). take k (other ++ rest)) long ∙ take-append_seam other rest, one)

-- ---- the requests of a connection

-- if no request is read, none is a front
no_request : (bytes : List ℕ) → ((r : HttpRequest) → first bytes ≡ Some (Ok r) → ⊥) → HasNone bytes
no_request bytes none text more r is same = none r (ap first same ∙ text_request text more r is)

text_length : (text : List ℕ) (r : HttpRequest) → IsRequest text r → r.length ≡ length text
text_length text r is = ap (λ (q : HttpRequest). q.length) is.request

cut_parts_by : (n : ℕ) (bytes : List ℕ) → length bytes ≤ n → AreCut bytes (cut_by n bytes).requests
unfolding cut_by
cut_parts_by zero bytes fits = record {
  texts = [];
  rest = bytes;
  each = tt;
  whole = refl;
  none = no_request bytes (λ r e. absurd (omega (arith, fits, first_positive bytes r e, first_fits bytes r e)));
}
cut_parts_by (suc n) bytes fits = by_first (first bytes) refl (cut_parts_by n)
  where
    by_first : (o : Option (Result HttpRequest HttpFault)) → first bytes ≡ o
        → ((rest : List ℕ) → length rest ≤ n → AreCut rest (cut_by n rest).requests)
        → AreCut bytes (cut_at (cut_by n) bytes o).requests
    by_first None e again =
        record { texts = []; rest = bytes; each = tt; whole = refl; none = no_request bytes (λ r f. let no = sym e ∙ f in cc) }
    by_first (Some (Err f)) e again =
        record { texts = []; rest = bytes; each = tt; whole = refl; none = no_request bytes (λ r g. let no = sym e ∙ g in cc) }
    by_first (Some (Ok r)) e again =
        let front = request_text bytes r e in
        let text : List ℕ = front.0 in
        let size : r.length ≡ length text = text_length text r front.2 in
        let left : drop r.length bytes ≡ front.1 =
        ap (drop r.length) front.3 ∙ ap (λ (k : ℕ). drop k (text ++ front.1)) size ∙ drop-append_seam text front.1 in
        let short : length (drop r.length bytes) ≤ n = omega (arith, fits, length-drop r.length bytes, first_positive bytes r e) in
        let others = again (drop r.length bytes) short in
        record {
          texts = text ∷ others.texts;
          rest = others.rest;
          each = (front.2, others.each);
          whole = front.3 ∙ ap (λ (t : List ℕ). text ++ t) (sym left ∙ others.whole) ∙ sym (append_assoc text (concat others.texts) others.rest);
          none = others.none;
        }

-- what is cut from the bytes are the texts of requests, one behind the other
pub cut_parts : (bytes : List ℕ) → AreCut bytes (cut bytes).requests
unfolding cut cut_by
cut_parts bytes = by_fuel (cut_parts_by (length bytes) bytes (omega arith))
  where
    by_fuel : AreCut bytes (cut_by (length bytes) bytes).requests → AreCut bytes (cut_by (length bytes) bytes).requests
    by_fuel are = are

rest_cut : (rest : List ℕ) → HasNone rest → (cut rest).requests ≡ []
rest_cut rest none = ap (λ (c : Cut). c.requests) (cut_first rest) ∙ by_first (first rest) refl
  where
    by_first : (o : Option (Result HttpRequest HttpFault)) → first rest ≡ o → (cut_at cut rest (first rest)).requests ≡ []
    by_first None e = rw e refl
    by_first (Some (Err f)) e = rw e refl
    by_first (Some (Ok r)) e = absurd (let front = request_text rest r e in none front.0 front.1 r front.2 front.3)

texts_cut : (texts : List (List ℕ)) (requests : List HttpRequest) (rest : List ℕ) → AreRequests texts requests → HasNone rest
    → (cut (concat texts ++ rest)).requests ≡ requests
texts_cut [] [] rest each none = rest_cut rest none
texts_cut [] (r ∷ requests) rest each none = absurd each
texts_cut (text ∷ texts) [] rest each none = absurd each
texts_cut (text ∷ texts) (r ∷ requests) rest each none =
    let behind : List ℕ = concat texts ++ rest in
    let one : first text ≡ Some (Ok r) = ap first (sym (append-nil text)) ∙ text_request text [] r each.0 in
    ap (λ (t : List ℕ). (cut t).requests) (append_assoc text (concat texts) rest)
    ∙ ap (λ (c : Cut). c.requests) (cut_apart text behind r one (text_length text r each.0))
    ∙ ap (λ (rs : List HttpRequest). r ∷ rs) (texts_cut texts requests rest each.1 none)

-- and whatever requests the texts of the bytes are, these are cut from them
pub parts_cut : (bytes : List ℕ) (requests : List HttpRequest) → AreCut bytes requests → (cut bytes).requests ≡ requests
parts_cut bytes requests are =
    ap (λ (t : List ℕ). (cut t).requests) are.whole ∙ texts_cut are.texts requests are.rest are.each are.none
