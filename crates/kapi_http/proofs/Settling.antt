-- What an inbox remembers of its bytes is what they settle.
use Rattle.std.proofs.Common.{◌≡◌, ℕ, ◌+◌, ◌-◌, ◌<◌, ◌≤◌, ◌⊎◌, inl, inr, Bool, true, false, List, [], ◌++◌, length, take, drop, refl, sym, ap, subst, ◌∙◌, arith, Option, Some, None, Result, Ok, Err, min, take-append-drop, length-append, length-drop}
use Rattle.std.specs.Prelude.{nat_le, slice_range, if◌then◌else◌, ⊤, IsUtf8}
use Rattle.std.proofs.lemmas.Bool.Decides.{leb_tells}
use Rattle.std.proofs.lemmas.List.{take-take, take_min, drop-take, take_all, take-append-le, length-take}
use Rattle.std.proofs.lemmas.Bool.{le-leb, lt-leb}
use Rattle.httparse.specs.Grammar.{ReadsRequest, RequestHead, is_token_byte, print_request}
use Rattle.httparse.specs.Spans.{IsWithin, span_bytes}
use Rattle.httparse.specs.declared.spans.RequestSpans.{RequestSpans}
use Rattle.kapi_http.specs.Cut.{Finding, waits, refused, accepted, settled_by, settled_of, settled_within, settled_at, settled, item_of, chunked_item, first, fault_of, request_of}
use Rattle.kapi_http.specs.Head.{Says, head_of, is_head, parts}
use Rattle.kapi_http.specs.Inbox.{decision_of}
use Rattle.kapi_http.specs.Rules.{checked}
use Rattle.kapi_http.specs.Scan.{begin, is_ended, scanned}
use Rattle.kapi_http.specs.Limits.{field_limit}
use Rattle.kapi_http.specs.Tied.{AreKept, HasLines, HasParts, IsRead, NamesMethod, told}
use Rattle.kapi_http.specs.declared.head.HeadParts.{HeadParts}
use Rattle.kapi_http.specs.declared.head.TheConstants.{NO_LINE}
use Rattle.kapi_http.specs.declared.item.Decision.TheVariants as decision
use Rattle.kapi_http.specs.Chunks.{chunked, ending_of, no_chunks}
use Rattle.kapi_http.specs.declared.chunks.Chunks.{Chunks}
use Rattle.kapi_http.specs.declared.chunks.Ending.{Ending}
use Rattle.kapi_http.specs.declared.rules.Framing.{Framing}
use Rattle.kapi_http.specs.declared.rules.Framing.TheVariants.{Sized, Chunked}
use Rattle.kapi_http.specs.declared.message.Method.{Method}
use Rattle.kapi_http.specs.declared.message.Refusal.{Refusal}
use Rattle.kapi_http.specs.declared.message.Refusal.TheVariants as refusal
use Rattle.kapi_http.specs.declared.scan.Scan.{Scan}
use Rattle.kapi_http.proofs.Chunking.{chunks_within}
use Rattle.kapi_http.proofs.HeadScans.{ended_lines}
use Rattle.kapi_http.proofs.Heads.{head_of_whole}
use Rattle.kapi_http.proofs.Scanning.{scanned_append, scanned_take, scanned_all, lines_bounded}

-- ---- reading on

-- a text in two pieces, the first of n bytes, of which the first end bytes are read
two_pieces : (n end : ℕ) (bytes : List ℕ) → n ≤ end → take end bytes ≡ take n bytes ++ drop n (take end bytes)
two_pieces n end bytes fits =
    sym (ap (λ (t : List ℕ). t ++ drop n (take end bytes)) (sym (take-take n end bytes fits)) ∙ take-append-drop n (take end bytes))

-- reading on from the first bytes is reading all
pub read_on : (s : Scan) (bytes : List ℕ) (end : ℕ) → s ≡ scanned begin (take s.at bytes) → s.at ≤ end
    → scanned s (drop s.at (take end bytes)) ≡ scanned begin (take end bytes)
read_on s bytes end e fits =
    ap (λ (t : Scan). scanned t (drop s.at (take end bytes))) e
    ∙ sym (scanned_append begin (take s.at bytes) (drop s.at (take end bytes)))
    ∙ ap (scanned begin) (sym (two_pieces s.at end bytes fits))

-- the lines of a scan are at most its bytes
pub lines_read : (s : Scan) (bytes : List ℕ) → s ≡ scanned begin bytes → s.lines ≤ s.at
lines_read s bytes e =
    subst (λ (t : Scan). t.lines ≤ t.at) (sym e) (lines_bounded begin bytes (omega arith))

-- a scan lies within the bytes
pub scan_within : (bytes : List ℕ) → (scanned begin bytes).at ≤ length bytes
scan_within bytes = let front = scanned_take begin bytes in omega (arith, front.1, front.2)

-- the bytes that are read
take_limit : (bytes : List ℕ) (end : ℕ) → end ≡ min (length bytes) 16384 → take end bytes ≡ take 16384 bytes
take_limit bytes end e = by_length (leb_tells (length bytes) 16384)
  where
    by_length : ((nat_le (length bytes) 16384 ≡ true) × (length bytes ≤ 16384)) ⊎ ((nat_le (length bytes) 16384 ≡ false) × (16384 < length bytes))
        → take end bytes ≡ take 16384 bytes
    by_length (inl (t, fits)) =
        let whole : length bytes ≤ end = omega arith in take_all end bytes whole ∙ sym (take_all 16384 bytes fits)
    by_length (inr (f, more)) =
        let same : end ≡ 16384 = omega arith in ap (λ (n : ℕ). take n bytes) same

-- reading on up to the limit
pub read_to : (s t : Scan) (bytes : List ℕ) (end : ℕ) → s ≡ scanned begin (take s.at bytes) → s.at ≤ length bytes → s.at ≤ 16384
    → end ≡ min (length bytes) 16384 → t ≡ scanned s (take (end - s.at) (drop s.at bytes))
    → t ≡ scanned begin (take 16384 bytes)
read_to s t bytes end read within limit e same =
    let fits : s.at ≤ end = omega arith in
    let sum : end ≡ s.at + (end - s.at) = omega arith in
    let cut : drop s.at (take end bytes) ≡ take (end - s.at) (drop s.at bytes) =
    ap (λ (n : ℕ). drop s.at (take n bytes)) sum ∙ drop-take s.at (end - s.at) bytes in
    same ∙ ap (scanned s) (sym cut) ∙ read_on s bytes end read fits ∙ ap (scanned begin) (take_limit bytes end e)

-- the bytes behind the first n, as a range of them
pub rest_of : (n : ℕ) (bytes : List ℕ) → take (length bytes - n) (drop n bytes) ≡ drop n bytes
rest_of n bytes = take_all (length bytes - n) (drop n bytes) (omega (arith, length-drop n bytes))

-- ---- what a scan up to the limit settles

at_limit : (bytes : List ℕ) → (scanned begin (take 16384 bytes)).at ≤ 16384
at_limit bytes = omega (arith, scan_within (take 16384 bytes), length-take 16384 bytes)

pub ended_has_lines : (t : Scan) (bytes : List ℕ) → t ≡ scanned begin (take 16384 bytes) → is_ended t.place ≡ true
    → HasLines t.lines (take t.at bytes)
ended_has_lines t bytes e ended =
    let P : Scan → Type 0 = λ u. is_ended u.place ≡ true → HasLines u.lines (take u.at bytes) in
    let here : P (scanned begin (take 16384 bytes)) = λ yes.
    subst (HasLines (scanned begin (take 16384 bytes)).lines) (take-take (scanned begin (take 16384 bytes)).at 16384 bytes (at_limit bytes))
    (ended_lines (take 16384 bytes) yes) in
    subst P (sym e) here ended

pub settled_ended : (t : Scan) (bytes : List ℕ) → t ≡ scanned begin (take 16384 bytes) → is_ended t.place ≡ true
    → settled bytes ≡ settled_within t.lines (take t.at bytes)
unfolding settled
settled_ended t bytes e ended = ap (λ (u : Scan). settled_at u bytes) (sym e) ∙ rw ended refl

-- what an inbox remembers of a whole head and of the bytes behind it
pub ended_decision : (t : Scan) (bytes : List ℕ) → t ≡ scanned begin (take 16384 bytes) → is_ended t.place ≡ true
    → decision_of (settled_within t.lines (take t.at bytes)) (take t.at bytes ++ take (length bytes - t.at) (drop t.at bytes))
    ≡ decision_of (settled bytes) bytes
ended_decision t bytes e ended =
    ap (λ (rest : List ℕ). decision_of (settled_within t.lines (take t.at bytes)) (take t.at bytes ++ rest)) (rest_of t.at bytes)
    ∙ ap (decision_of (settled_within t.lines (take t.at bytes))) (take-append-drop t.at bytes)
    ∙ ap (λ (f : Finding). decision_of f bytes) (sym (settled_ended t bytes e ended))

pub settled_long : (t : Scan) (bytes : List ℕ) → t ≡ scanned begin (take 16384 bytes) → is_ended t.place ≡ false
    → 16384 ≤ length bytes → settled bytes ≡ refused 0 [] refusal.HeadTooLarge
unfolding settled
settled_long t bytes e going long =
    ap (λ (u : Scan). settled_at u bytes) (sym e) ∙ rw (going, le-leb 16384 (length bytes) long) refl

pub settled_short : (t : Scan) (bytes : List ℕ) → t ≡ scanned begin (take 16384 bytes) → is_ended t.place ≡ false
    → length bytes < 16384 → settled bytes ≡ waits
unfolding settled
settled_short t bytes e going short =
    let more : nat_le 16384 (length bytes) ≡ false = lt-leb 16384 (length bytes) short in
    ap (λ (u : Scan). settled_at u bytes) (sym e) ∙ rw (going, more) refl

pub read_all : (t : Scan) (bytes : List ℕ) → t ≡ scanned begin (take 16384 bytes) → is_ended t.place ≡ false
    → length bytes < 16384 → IsRead (record { scan = t; decision = decision.Waits }) bytes
read_all t bytes e going short =
    let fits : length bytes ≤ 16384 = omega arith in
    let whole : t ≡ scanned begin bytes = e ∙ ap (scanned begin) (take_all 16384 bytes fits) in
    let unended : is_ended (scanned begin bytes).place ≡ false = ap (λ (u : Scan). is_ended u.place) (sym whole) ∙ going in
    record {
      scan = whole;
      at = ap (λ (u : Scan). u.at) whole ∙ scanned_all begin bytes unended ∙ omega arith;
      below = short;
    }

-- ---- what a settled text is

-- a head has no more fields than it may
abbrev pub HasRoom : List ℕ → Type 0
HasRoom head = (h : RequestHead) → ReadsRequest head h [] → length h.fields ≤ field_limit

pub no_head : head_of [] ≡ None
unfolding head_of is_head parts is_token_byte print_request
no_head = refl

no_room : HasRoom []
no_room h reads = absurd (let read = sym no_head ∙ head_of_whole [] h reads in cc)

-- what is known of the bytes by what they settle
abbrev pub Facts : List ℕ → Finding → Type 0
Facts bytes waits = ⊤
Facts bytes (refused n method why) =
    HasRoom (take n bytes) × (n ≤ length bytes)
Facts bytes (accepted n h method size) =
    HasRoom (take n bytes) × (head_of (take n bytes) ≡ Some h) × (checked h ≡ Ok (method, size)) × (n ≤ length bytes)
    × (n ≡ (scanned begin (take 16384 bytes)).at)

-- a front is the front of its own length
pub same_front : (k : ℕ) (bytes : List ℕ) → take (length (take k bytes)) bytes ≡ take k bytes
same_front k bytes = ap (λ (n : ℕ). take n bytes) (length-take k bytes) ∙ take_min k bytes

front_fits : (k : ℕ) (bytes : List ℕ) → length (take k bytes) ≤ length bytes
front_fits k bytes = omega (arith, length-take k bytes)

too_large : (bytes : List ℕ) → Facts bytes (refused 0 [] refusal.HeadTooLarge)
too_large bytes = (no_room, omega arith)

facts_by : (k : ℕ) (bytes : List ℕ) (h : Says) → k ≡ (scanned begin (take 16384 bytes)).at → HasRoom (take k bytes) → head_of (take k bytes) ≡ Some h
    → (r : Result (Method × Framing) Refusal) → checked h ≡ r → Facts bytes (settled_by (take k bytes) h r)
facts_by k bytes h at room e (Ok m) c =
    let same = sym (same_front k bytes) in (
      subst HasRoom same room,
      subst (λ (t : List ℕ). head_of t ≡ Some h) same e,
      c,
      front_fits k bytes,
      omega (arith, at, length-take k bytes, length-take 16384 bytes, scan_within (take 16384 bytes)),
    )
facts_by k bytes h at room e (Err why) c =
    (subst HasRoom (sym (same_front k bytes)) room, front_fits k bytes)

facts_of : (k : ℕ) (bytes : List ℕ) → k ≡ (scanned begin (take 16384 bytes)).at → HasRoom (take k bytes) → (o : Option Says) → head_of (take k bytes) ≡ o
    → Facts bytes (settled_of (take k bytes) o)
facts_of k bytes at room None e =
    (subst HasRoom (sym (same_front k bytes)) room, front_fits k bytes)
facts_of k bytes at room (Some h) e = facts_by k bytes h at room e (checked h) refl

facts_within : (lines k : ℕ) (bytes : List ℕ) → k ≡ (scanned begin (take 16384 bytes)).at → HasLines lines (take k bytes) → Facts bytes (settled_within lines (take k bytes))
facts_within lines k bytes at counted = by_lines (leb_tells 66 lines)
  where
    by_lines : ((nat_le 66 lines ≡ true) × (66 ≤ lines)) ⊎ ((nat_le 66 lines ≡ false) × (lines < 66))
        → Facts bytes (settled_within lines (take k bytes))
    by_lines (inl (t, more)) = rw t (too_large bytes)
    by_lines (inr (f, few)) = rw f (facts_of k bytes at (λ h reads. omega (arith, counted h reads)) (head_of (take k bytes)) refl)

pub facts : (bytes : List ℕ) → Facts bytes (settled bytes)
unfolding settled
facts bytes = by_end (is_ended (scanned begin (take 16384 bytes)).place) refl
  where
    by_end : (e : Bool) → is_ended (scanned begin (take 16384 bytes)).place ≡ e → Facts bytes (settled_at (scanned begin (take 16384 bytes)) bytes)
    by_end true e =
        rw e (facts_within (scanned begin (take 16384 bytes)).lines (scanned begin (take 16384 bytes)).at bytes refl
        (ended_has_lines (scanned begin (take 16384 bytes)) bytes refl e))
    by_end false e = rw e (by_length (leb_tells 16384 (length bytes)))
      where
        by_length : ((nat_le 16384 (length bytes) ≡ true) × (16384 ≤ length bytes)) ⊎ ((nat_le 16384 (length bytes) ≡ false) × (length bytes < 16384))
            → Facts bytes (if nat_le 16384 (length bytes) then refused 0 [] refusal.HeadTooLarge else waits)
        by_length (inl (t, long)) = rw t (too_large bytes)
        by_length (inr (f, short)) = rw f tt

-- ---- the parts of a head that are kept

-- parts without a line name no method
names_none : (parts : HeadParts) → parts.line ≡ NO_LINE → NamesMethod [] parts []
names_none parts e =
    let start : parts.line.method.start ≡ 0 = ap (λ (l : RequestSpans). l.method.start) e in
    let end : parts.line.method.end ≡ 0 = ap (λ (l : RequestSpans). l.method.end) e in
    let none : span_bytes [] parts.line.method ≡ [] = ap (λ (l : RequestSpans). span_bytes [] l.method) e in
    let empty : IsUtf8 [] = ([], (refl, refl)) in
    record {
      within = (omega (arith, start, end), omega (arith, end));
      text = subst IsUtf8 (sym none) empty;
      named = none;
    }

-- more bytes behind a head change nothing of its parts
pub kept_more : (f : Finding) (parts : HeadParts) (front more : List ℕ) → AreKept parts front f → AreKept parts (front ++ more) f
kept_more waits parts front more kept = tt
kept_more (refused n method why) parts front more kept = (
  omega (arith, kept.0, length-append front more),
  subst (λ (t : List ℕ). NamesMethod t parts method) (sym (take-append-le n front more kept.0)) kept.1,
)
kept_more (accepted n h method framing) parts front more kept =
    let P : List ℕ → Type 0 = λ t. HasParts t parts × (told t parts ≡ h) × (parts.method ≡ method) in
    let same : take n front ≡ take n (front ++ more) = sym (take-append-le n front more kept.0) in
    let there : P (take n (front ++ more)) = subst P same (kept.1, kept.2, kept.3) in
    (omega (arith, kept.0, length-append front more), there.0, there.1, there.2)

pub kept_ended : (t : Scan) (bytes : List ℕ) (parts : HeadParts) → t ≡ scanned begin (take 16384 bytes) → is_ended t.place ≡ true
    → AreKept parts (take t.at bytes) (settled_within t.lines (take t.at bytes)) → AreKept parts bytes (settled bytes)
kept_ended t bytes parts e ended kept =
    let f : Finding = settled_within t.lines (take t.at bytes) in
    let whole : AreKept parts bytes f =
    subst (λ (b : List ℕ). AreKept parts b f) (take-append-drop t.at bytes) (kept_more f parts (take t.at bytes) (drop t.at bytes) kept) in
    subst (AreKept parts bytes) (sym (settled_ended t bytes e ended)) whole

pub kept_long : (t : Scan) (bytes : List ℕ) (parts : HeadParts) → t ≡ scanned begin (take 16384 bytes) → is_ended t.place ≡ false
    → 16384 ≤ length bytes → parts.line ≡ NO_LINE → AreKept parts bytes (settled bytes)
kept_long t bytes parts e going long none =
    let here : AreKept parts bytes (refused 0 [] refusal.HeadTooLarge) = (omega arith, names_none parts none) in
    subst (AreKept parts bytes) (sym (settled_long t bytes e going long)) here

pub kept_short : (t : Scan) (bytes : List ℕ) (parts : HeadParts) → t ≡ scanned begin (take 16384 bytes) → is_ended t.place ≡ false
    → length bytes < 16384 → AreKept parts bytes (settled bytes)
kept_short t bytes parts e going short = subst (AreKept parts bytes) (sym (settled_short t bytes e going short)) tt

-- ---- the item of a settled text

pub waits_item : (f : Finding) (bytes : List ℕ) → decision.Waits ≡ decision_of f bytes → item_of f bytes ≡ None
waits_item waits bytes e = refl
waits_item (refused n method why) bytes e = absurd cc
waits_item (accepted n h method (Sized size)) bytes e = absurd cc
waits_item (accepted n h method Chunked) bytes e = absurd cc

-- what is known of a refused head
pub record IsRefused (bytes : List ℕ) (f : Finding) (n : ℕ) (why : Refusal) (parts : HeadParts) : Type 0 where
  pub head_within : n ≤ length bytes
  pub within : IsWithin (length (take n bytes)) parts.line.method
  pub text : IsUtf8 (span_bytes (take n bytes) parts.line.method)
  pub item : item_of f bytes ≡ Some (Err (fault_of (span_bytes (take n bytes) parts.line.method) why))

refused_item : (f : Finding) (bytes : List ℕ) (n : ℕ) (why : Refusal) (parts : HeadParts) → AreKept parts bytes f
    → decision.Refused n why ≡ decision_of f bytes → IsRefused bytes f n why parts
refused_item waits bytes n why parts kept e = absurd cc
refused_item (refused m method w) bytes n why parts kept e =
    let same : m ≡ n = cc in
    let reason : w ≡ why = cc in
    let here : (n ≤ length bytes) × NamesMethod (take n bytes) parts method =
    subst (λ (k : ℕ). (k ≤ length bytes) × NamesMethod (take k bytes) parts method) same kept in
    record {
      head_within = here.0;
      within = here.1.within;
      text = here.1.text;
      item = λ i. Some (Err (fault_of (sym here.1.named i) (reason i)));
    }
refused_item (accepted m h method (Sized size)) bytes n why parts kept e = absurd cc
refused_item (accepted m h method Chunked) bytes n why parts kept e = absurd cc

-- what is known of an accepted head
pub record IsAccepted (bytes : List ℕ) (f : Finding) (n t : ℕ) (parts : HeadParts) : Type 0 where
  pub has : HasParts (take n bytes) parts
  pub head_within : n ≤ length bytes
  pub ordered : n ≤ t
  pub short : length bytes < t → item_of f bytes ≡ None
  pub whole : t ≤ length bytes
      → item_of f bytes ≡ Some (Ok (request_of (told (take n bytes) parts) parts.method (slice_range bytes n t) t))

-- the parts of an accepted head of n bytes
abbrev AreParts : HeadParts → List ℕ → ℕ → Says → Method → Type 0
AreParts parts bytes n h method =
    (n ≤ length bytes) × HasParts (take n bytes) parts × (told (take n bytes) parts ≡ h) × (parts.method ≡ method)

accepted_item : (f : Finding) (bytes : List ℕ) (n t : ℕ) (parts : HeadParts) → AreKept parts bytes f
    → decision.Accepted n t ≡ decision_of f bytes → IsAccepted bytes f n t parts
accepted_item waits bytes n t parts kept e = absurd cc
accepted_item (refused m method w) bytes n t parts kept e = absurd cc
accepted_item (accepted m h method Chunked) bytes n t parts kept e = absurd cc
accepted_item (accepted m h method (Sized size)) bytes n t parts kept e =
    let same : m ≡ n = cc in
    let sum : m + size ≡ t = cc in
    let here : AreParts parts bytes n h method = subst (λ (k : ℕ). AreParts parts bytes k h method) same kept in
    let says : h ≡ told (take n bytes) parts = sym here.2 in
    let named : method ≡ parts.method = sym here.3 in
    record {
      has = here.1;
      head_within = here.0;
      ordered = omega arith;
      short = λ less. let no : nat_le (m + size) (length bytes) ≡ false = lt-leb (m + size) (length bytes) (omega arith) in rw no refl;
      whole = λ fits.
          let yes : nat_le (m + size) (length bytes) ≡ true = le-leb (m + size) (length bytes) (omega arith) in
          rw yes (λ i. Some (Ok (request_of (says i) (named i) (slice_range bytes (same i) (sum i)) (sum i))));
    }

-- what is known of the first item
pub first_waits : (bytes : List ℕ) → decision.Waits ≡ decision_of (settled bytes) bytes → first bytes ≡ None
unfolding first
first_waits bytes e = waits_item (settled bytes) bytes e

pub first_refused : (bytes : List ℕ) (n : ℕ) (why : Refusal) (parts : HeadParts) → AreKept parts bytes (settled bytes)
    → decision.Refused n why ≡ decision_of (settled bytes) bytes → IsRefused bytes (settled bytes) n why parts
first_refused bytes n why parts kept e = refused_item (settled bytes) bytes n why parts kept e

pub refused_first : (bytes : List ℕ) (n : ℕ) (why : Refusal) (parts : HeadParts) → AreKept parts bytes (settled bytes)
    → decision.Refused n why ≡ decision_of (settled bytes) bytes
    → first bytes ≡ Some (Err (fault_of (span_bytes (take n bytes) parts.line.method) why))
unfolding first
refused_first bytes n why parts kept e = (first_refused bytes n why parts kept e).item

pub first_accepted : (bytes : List ℕ) (n t : ℕ) (parts : HeadParts) → AreKept parts bytes (settled bytes)
    → decision.Accepted n t ≡ decision_of (settled bytes) bytes → IsAccepted bytes (settled bytes) n t parts
first_accepted bytes n t parts kept e = accepted_item (settled bytes) bytes n t parts kept e

pub accepted_first : (bytes : List ℕ) (n t : ℕ) (parts : HeadParts) → AreKept parts bytes (settled bytes)
    → decision.Accepted n t ≡ decision_of (settled bytes) bytes → t ≤ length bytes
    → first bytes ≡ Some (Ok (request_of (told (take n bytes) parts) parts.method (slice_range bytes n t) t))
unfolding first
accepted_first bytes n t parts kept e fits = (first_accepted bytes n t parts kept e).whole fits

pub accepted_waits : (bytes : List ℕ) (n t : ℕ) (parts : HeadParts) → AreKept parts bytes (settled bytes)
    → decision.Accepted n t ≡ decision_of (settled bytes) bytes → length bytes < t → first bytes ≡ None
unfolding first
accepted_waits bytes n t parts kept e short = (first_accepted bytes n t parts kept e).short short

-- ---- bodies in chunks

-- what is known of an accepted head whose body comes in chunks
pub record IsInChunks (bytes : List ℕ) (f : Finding) (n : ℕ) (c : Chunks) (parts : HeadParts) : Type 0 where
  pub has : HasParts (take n bytes) parts
  pub within : n + c.at ≤ length bytes
  pub item : item_of f bytes ≡ chunked_item n (told (take n bytes) parts) parts.method (ending_of c.spot) c.at bytes

chunks_item : (f : Finding) (bytes : List ℕ) (n : ℕ) (c : Chunks) (parts : HeadParts) → AreKept parts bytes f
    → decision.Chunked n c ≡ decision_of f bytes → IsInChunks bytes f n c parts
chunks_item waits bytes n c parts kept e = absurd cc
chunks_item (refused m method w) bytes n c parts kept e = absurd cc
chunks_item (accepted m h method (Sized size)) bytes n c parts kept e = absurd cc
chunks_item (accepted m h method Chunked) bytes n c parts kept e =
    let same : m ≡ n = cc in
    let read : chunked no_chunks (drop m bytes) ≡ c = cc in
    let here : AreParts parts bytes n h method = subst (λ (k : ℕ). AreParts parts bytes k h method) same kept in
    let says : h ≡ told (take n bytes) parts = sym here.2 in
    let named : method ≡ parts.method = sym here.3 in
    let come : (chunked no_chunks (drop m bytes)).at ≡ c.at = ap (λ (d : Chunks). d.at) read in
    record {
      has = here.1;
      within = omega (arith, same, come, kept.0, chunks_within (drop m bytes), length-drop m bytes);
      item = λ i. chunked_item (same i) (says i) (named i) (ending_of (read i).spot) (read i).at bytes;
    }

pub first_chunks : (bytes : List ℕ) (n : ℕ) (c : Chunks) (parts : HeadParts) → AreKept parts bytes (settled bytes)
    → decision.Chunked n c ≡ decision_of (settled bytes) bytes → IsInChunks bytes (settled bytes) n c parts
first_chunks bytes n c parts kept e = chunks_item (settled bytes) bytes n c parts kept e

-- the item by what is known of the body
pub first_in_chunks : (bytes : List ℕ) (n : ℕ) (c : Chunks) (o : Ending) (parts : HeadParts) → AreKept parts bytes (settled bytes)
    → decision.Chunked n c ≡ decision_of (settled bytes) bytes → ending_of c.spot ≡ o
    → first bytes ≡ chunked_item n (told (take n bytes) parts) parts.method o c.at bytes
unfolding first
first_in_chunks bytes n c o parts kept e is =
    (first_chunks bytes n c parts kept e).item
    ∙ ap (λ (k : Ending). chunked_item n (told (take n bytes) parts) parts.method k c.at bytes) is

-- the request of a body that is the same
pub with_body : {body joint : List ℕ} (h : Says) (method : Method) (at : ℕ) → body ≡ joint
    → request_of h method body at ≡ request_of h method joint at
with_body h method at e = ap (λ (b : List ℕ). request_of h method b at) e
