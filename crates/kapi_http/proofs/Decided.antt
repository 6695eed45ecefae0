-- What is decided of a text stays decided, whatever follows it.
use Rattle.std.proofs.Common.{◌≡◌, ℕ, ◌+◌, ◌-◌, ◌<◌, ◌≤◌, ◌⊎◌, inl, inr, Bool, true, false, List, [], ◌++◌, length, take, drop, refl, sym, ap, subst, ◌∙◌, arith, Option, Some, None, Result, Ok, append-nil, take-append-drop, length-append, length-drop, zero, suc}
use Rattle.std.specs.Prelude.{nat_le, slice_range, IsSome}
use Rattle.std.proofs.Math.Seq.{take-append-add}
use Rattle.std.proofs.lemmas.Bool.{le-leb}
use Rattle.std.proofs.lemmas.Bool.Decides.{leb_tells}
use Rattle.std.proofs.lemmas.List.{take-append-le, drop-append-le, take_all, length-take}
use Rattle.kapi_http.specs.Cut.{Finding, waits, refused, accepted, settled_within, settled, item_of, chunked_item, chunks_behind, first, request_of}
use Rattle.kapi_http.specs.Chunks.{chunked, ending_of, joined, no_chunks}
use Rattle.kapi_http.specs.declared.chunks.Chunks.{Chunks}
use Rattle.kapi_http.specs.declared.chunks.Ending.{Ending}
use Rattle.kapi_http.specs.declared.chunks.Ending.TheVariants as ending
use Rattle.kapi_http.specs.declared.message.Refusal.{Refusal}
use Rattle.kapi_http.specs.declared.rules.Framing.TheVariants.{Sized, Chunked}
use Rattle.kapi_http.proofs.Chunking.{chunks_append, chunks_stay, chunks_within, data_bounded, ended_is_over}
use Rattle.kapi_http.specs.Head.{Says, head_of}
use Rattle.kapi_http.specs.Inbox.{decision_of}
use Rattle.kapi_http.specs.Scan.{begin, is_ended, scanned}
use Rattle.kapi_http.specs.Tied.{AreKept, IsKnown, IsRead, IsTied}
use Rattle.kapi_http.specs.declared.head.HeadParts.{HeadParts}
use Rattle.kapi_http.specs.declared.item.Decision.{Decision}
use Rattle.kapi_http.specs.declared.item.Decision.TheVariants as decision
use Rattle.kapi_http.specs.declared.item.Progress.{Progress}
use Rattle.kapi_http.specs.declared.message.HttpFault.{HttpFault}
use Rattle.kapi_http.specs.declared.message.HttpRequest.{HttpRequest}
use Rattle.kapi_http.specs.declared.scan.Scan.{Scan}
use Rattle.kapi_http.proofs.Scanning.{scanned_append, scanned_ended}
use Rattle.kapi_http.proofs.Settling.{scan_within, settled_ended, settled_long, settled_short, Facts, facts, kept_more, no_head, rest_of, same_front}

-- the first bytes of a text begin those of a longer one
pub take_longer : (n : ℕ) (a b : List ℕ) → (rest : List ℕ) × (take n (a ++ b) ≡ take n a ++ rest)
take_longer n a b = by_length (leb_tells n (length a))
  where
    by_length : ((nat_le n (length a) ≡ true) × (n ≤ length a)) ⊎ ((nat_le n (length a) ≡ false) × (length a < n))
        → (rest : List ℕ) × (take n (a ++ b) ≡ take n a ++ rest)
    by_length (inl (t, fits)) = ([], take-append-le n a b fits ∙ sym (append-nil (take n a)))
    by_length (inr (f, more)) =
        let sum : n ≡ length a + (n - length a) = omega arith in
        let whole : length a ≤ n = omega arith in (
          take (n - length a) b,
          ap (λ (k : ℕ). take k (a ++ b)) sum ∙ take-append-add a b (n - length a)
              ∙ ap (λ (t : List ℕ). t ++ take (n - length a) b) (sym (take_all n a whole)),
        )

-- once a head is whole or too long, more bytes change nothing
pub settled_append : (bytes more : List ℕ) → (settled bytes ≡ waits → ⊥) → settled (bytes ++ more) ≡ settled bytes
settled_append bytes more decided = by_end (is_ended s.place) refl
  where
    s : Scan
    s = scanned begin (take 16384 bytes)

    by_end : (e : Bool) → is_ended (scanned begin (take 16384 bytes)).place ≡ e → settled (bytes ++ more) ≡ settled bytes
    by_end true e =
        let longer = take_longer 16384 bytes more in
        let t : Scan = scanned begin (take 16384 bytes) in
        let same : t ≡ scanned begin (take 16384 (bytes ++ more)) =
        sym (ap (scanned begin) longer.1 ∙ scanned_append begin (take 16384 bytes) longer.0 ∙ scanned_ended t longer.0 e) in
        let within : t.at ≤ length bytes = omega (arith, scan_within (take 16384 bytes), length-take 16384 bytes) in
        settled_ended t (bytes ++ more) same e ∙ ap (settled_within t.lines) (take-append-le t.at bytes more within)
        ∙ sym (settled_ended t bytes refl e)
    by_end false e = by_length (leb_tells 16384 (length bytes))
      where
        by_length : ((nat_le 16384 (length bytes) ≡ true) × (16384 ≤ length bytes)) ⊎ ((nat_le 16384 (length bytes) ≡ false) × (length bytes < 16384))
            → settled (bytes ++ more) ≡ settled bytes
        by_length (inl (t, long)) =
            let u : Scan = scanned begin (take 16384 bytes) in
            let same : u ≡ scanned begin (take 16384 (bytes ++ more)) = ap (scanned begin) (sym (take-append-le 16384 bytes more long)) in
            settled_long u (bytes ++ more) same e (omega (arith, length-append bytes more)) ∙ sym (settled_long u bytes refl e long)
        by_length (inr (f, short)) = absurd (decided (settled_short (scanned begin (take 16384 bytes)) bytes refl e short))

-- a part of the bytes stays where it was
slice_append : (bytes more : List ℕ) (i j : ℕ) → i ≤ j → j ≤ length bytes → slice_range (bytes ++ more) i j ≡ slice_range bytes i j
slice_append bytes more i j ordered fits =
    ap (take (j - i)) (drop-append-le i bytes more (omega arith))
    ∙ take-append-le (j - i) (drop i bytes) more (omega (arith, length-drop i bytes))

item_append : (f : Finding) (bytes more : List ℕ) (item : Result HttpRequest HttpFault) → Facts bytes f → item_of f bytes ≡ Some item
    → item_of f (bytes ++ more) ≡ Some item
item_append waits bytes more item known e = absurd cc
item_append (refused n method why) bytes more item known e = e
item_append (accepted n h method Chunked) bytes more item known e = by_ending (ending_of (chunks_behind n bytes).spot) refl
  where
    same : (o : Ending) → ending_of (chunks_behind n bytes).spot ≡ o → (o ≡ ending.Open → ⊥)
        → item_of (accepted n h method Chunked) (bytes ++ more) ≡ chunked_item n h method o (chunks_behind n bytes).at (bytes ++ more)
    same o is ended =
        ap (λ (c : Chunks). chunked_item n h method (ending_of c.spot) c.at (bytes ++ more))
        (chunks_stay n bytes more known.3 (ended_is_over (chunks_behind n bytes).spot (λ going. ended (sym is ∙ going))))
        ∙ ap (λ (k : Ending). chunked_item n h method k (chunks_behind n bytes).at (bytes ++ more)) is

    there : (o : Ending) → ending_of (chunks_behind n bytes).spot ≡ o → chunked_item n h method o (chunks_behind n bytes).at bytes ≡ Some item
    there o is = ap (λ (k : Ending). chunked_item n h method k (chunks_behind n bytes).at bytes) (sym is) ∙ e

    by_ending : (o : Ending) → ending_of (chunks_behind n bytes).spot ≡ o → item_of (accepted n h method Chunked) (bytes ++ more) ≡ Some item
    by_ending ending.Open is = absurd (let none = there ending.Open is in cc)
    by_ending ending.Closed is =
        let at : ℕ = (chunks_behind n bytes).at in
        let room : n + (chunks_behind n bytes).at ≤ length bytes = omega (arith, known.3, chunks_within (drop n bytes), length-drop n bytes) in
        same ending.Closed is (λ no. absurd cc)
        ∙ (λ i. Some (Ok (request_of h method (joined no_chunks (slice_append bytes more n (n + (chunks_behind n bytes).at) (omega arith) room i)) (n + (chunks_behind n bytes).at))))
        ∙ there ending.Closed is
    by_ending (ending.Refused why) is = same (ending.Refused why) is (λ no. absurd cc) ∙ there (ending.Refused why) is
item_append (accepted n h method (Sized size)) bytes more item known e = by_room (leb_tells (n + size) (length bytes))
  where
    by_room : ((nat_le (n + size) (length bytes) ≡ true) × (n + size ≤ length bytes))
        ⊎ ((nat_le (n + size) (length bytes) ≡ false) × (length bytes < n + size))
        → item_of (accepted n h method (Sized size)) (bytes ++ more) ≡ Some item
    by_room (inl (t, room)) =
        let found = rw t at e in
        let longer : nat_le (n + size) (length (bytes ++ more)) ≡ true =
        le-leb (n + size) (length (bytes ++ more)) (omega (arith, length-append bytes more)) in
        rw longer ((λ i. Some (Ok (request_of h method (slice_append bytes more n (n + size) (omega arith) room i) (n + size)))) ∙ found)
    by_room (inr (f, short)) = absurd (let none = rw f at e in cc)

-- decided stays decided
pub first_append : (bytes more : List ℕ) (item : Result HttpRequest HttpFault) → first bytes ≡ Some item → first (bytes ++ more) ≡ Some item
unfolding first
first_append bytes more item e =
    let decided : settled bytes ≡ waits → ⊥ = λ w. let none = sym (ap (λ (f : Finding). item_of f bytes) w) ∙ e in cc in
    ap (λ (f : Finding). item_of f (bytes ++ more)) (settled_append bytes more decided) ∙ item_append (settled bytes) bytes more item (facts bytes) e

-- ---- an inbox that takes bytes in

-- nothing is settled of no bytes
settled_none : settled [] ≡ waits
unfolding settled scanned
settled_none = refl

pub scanned_none : begin ≡ scanned begin []
unfolding scanned
scanned_none = refl

pub empty_tied : (bytes : List ℕ) (parts : HeadParts) → bytes ≡ [] → IsTied bytes 0 (record { scan = begin; decision = decision.Waits }) parts
empty_tied bytes parts e =
    let P : List ℕ → Type 0 = λ b. IsTied b 0 (record { scan = begin; decision = decision.Waits }) parts in
    let none : P [] = record {
      within = omega arith;
      fits = omega arith;
      known = record {
        decided = ap (λ (f : Finding). decision_of f []) (sym settled_none);
        read = λ w. record { scan = scanned_none; at = refl; below = omega arith };
        found = subst (AreKept parts []) (sym settled_none) tt;
      };
    } in subst P (sym e) none

-- the head is not whole yet
abbrev pub is_waiting : Decision → Bool
is_waiting decision.Waits = true
is_waiting (decision.Refused n why) = false
is_waiting (decision.Accepted n t) = false
is_waiting (decision.Chunked n c) = false

not_waiting : (d : Decision) (f : Finding) (bytes : List ℕ) → is_waiting d ≡ false → d ≡ decision_of f bytes → f ≡ waits → ⊥
not_waiting d f bytes known e w =
    let same : d ≡ decision.Waits = e ∙ ap (λ (g : Finding). decision_of g bytes) w in
    let yes : is_waiting d ≡ true = ap is_waiting same in cc

-- what a decision becomes by more bytes
abbrev more_of : Decision → List ℕ → Decision
more_of decision.Waits more = decision.Waits
more_of (decision.Refused n why) more = decision.Refused n why
more_of (decision.Accepted n t) more = decision.Accepted n t
more_of (decision.Chunked n c) more = decision.Chunked n (chunked c more)

decision_more : (f : Finding) (front more : List ℕ) → Facts front f → decision_of f (front ++ more) ≡ more_of (decision_of f front) more
decision_more waits front more known = refl
decision_more (refused n method why) front more known = refl
decision_more (accepted n h method (Sized size)) front more known = refl
decision_more (accepted n h method Chunked) front more known =
    ap (λ (c : Chunks). decision.Chunked n c) (chunks_append n front more known.3)

-- once the head is whole, what it settles stays
settled_more : (p : Progress) (parts : HeadParts) (front more : List ℕ) → IsKnown p parts front → is_waiting p.decision ≡ false
    → settled (front ++ more) ≡ settled front
settled_more p parts front more known going =
    settled_append front more (not_waiting p.decision (settled front) front going known.decided)

-- once the head is whole, more bytes only read the body on
known_more : (p : Progress) (parts : HeadParts) (front more : List ℕ) → IsKnown p parts front → is_waiting p.decision ≡ false
    → more_of p.decision more ≡ decision_of (settled (front ++ more)) (front ++ more)
known_more p parts front more known going =
    ap (λ (d : Decision). more_of d more) known.decided ∙ sym (decision_more (settled front) front more (facts front))
    ∙ ap (λ (f : Finding). decision_of f (front ++ more)) (sym (settled_more p parts front more known going))

-- the parts of the head stay too
found_more : (p : Progress) (parts : HeadParts) (front more : List ℕ) → IsKnown p parts front → is_waiting p.decision ≡ false
    → AreKept parts (front ++ more) (settled (front ++ more))
found_more p parts front more known going =
    subst (AreKept parts (front ++ more)) (sym (settled_more p parts front more known going))
    (kept_more (settled front) parts front more known.found)

known_by : (p q : Progress) (parts : HeadParts) (n : ℕ) (kept : List ℕ) → IsKnown p parts (take n kept) → is_waiting p.decision ≡ false
    → q.decision ≡ more_of p.decision (drop n kept) → is_waiting q.decision ≡ false → IsKnown q parts kept
known_by p q parts n kept known going same still =
    let P : List ℕ → Type 0 = λ b. more_of p.decision (drop n kept) ≡ decision_of (settled b) b in
    let Q : List ℕ → Type 0 = λ b. AreKept parts b (settled b) in
    record {
      decided = same ∙ subst P (take-append-drop n kept) (known_more p parts (take n kept) (drop n kept) known going);
      read = λ w. absurd (let yes : is_waiting q.decision ≡ true = ap is_waiting w in cc);
      found = subst Q (take-append-drop n kept) (found_more p parts (take n kept) (drop n kept) known going);
    }

pub known_same : (p : Progress) (parts : HeadParts) (n : ℕ) (kept : List ℕ) → IsKnown p parts (take n kept) → is_waiting p.decision ≡ false
    → p.decision ≡ more_of p.decision (drop n kept) → IsKnown p parts kept
known_same p parts n kept known going same = known_by p p parts n kept known going same going

pub refused_known : (p : Progress) (parts : HeadParts) (n k : ℕ) (why : Refusal) (kept : List ℕ) → IsKnown p parts (take n kept)
    → p.decision ≡ decision.Refused k why → IsKnown p parts kept
refused_known p parts n k why kept known is =
    known_same p parts n kept known (ap is_waiting is) (is ∙ sym (ap (λ (d : Decision). more_of d (drop n kept)) is))

pub accepted_known : (p : Progress) (parts : HeadParts) (n k t : ℕ) (kept : List ℕ) → IsKnown p parts (take n kept)
    → p.decision ≡ decision.Accepted k t → IsKnown p parts kept
accepted_known p parts n k t kept known is =
    known_same p parts n kept known (ap is_waiting is) (is ∙ sym (ap (λ (d : Decision). more_of d (drop n kept)) is))

pub chunks_known : (p : Progress) (parts : HeadParts) (n k : ℕ) (c t : Chunks) (kept : List ℕ) → IsKnown p parts (take n kept)
    → p.decision ≡ decision.Chunked k c → t ≡ chunked c (take (length kept - n) (drop n kept))
    → IsKnown (record { scan = p.scan; decision = decision.Chunked k t }) parts kept
chunks_known p parts n k c t kept known is read =
    known_by p (record { scan = p.scan; decision = decision.Chunked k t }) parts n kept known (ap is_waiting is)
    (ap (λ (d : Chunks). decision.Chunked k d) (read ∙ ap (chunked c) (rest_of n kept)) ∙ sym (ap (λ (d : Decision). more_of d (drop n kept)) is)) refl

-- what a body's progress keeps
chunks_bounded_by : (f : Finding) (bytes : List ℕ) (k : ℕ) (c : Chunks) → decision.Chunked k c ≡ decision_of f bytes → (c.sum ≤ c.at) × (c.at ≤ length bytes)
chunks_bounded_by waits bytes k c e = absurd cc
chunks_bounded_by (refused n method why) bytes k c e = absurd cc
chunks_bounded_by (accepted n h method (Sized size)) bytes k c e = absurd cc
chunks_bounded_by (accepted n h method Chunked) bytes k c e =
    let read : chunked no_chunks (drop n bytes) ≡ c = cc in
    let P : Chunks → Type 0 = λ d. (d.sum ≤ d.at) × (d.at ≤ length bytes) in
    subst P read (data_bounded no_chunks (drop n bytes) (omega arith), omega (arith, chunks_within (drop n bytes), length-drop n bytes))

pub chunks_bounded : (p : Progress) (parts : HeadParts) (bytes : List ℕ) (k : ℕ) (c : Chunks) → IsKnown p parts bytes
    → p.decision ≡ decision.Chunked k c → (c.sum ≤ c.at) × (c.at ≤ length bytes)
chunks_bounded p parts bytes k c known is = chunks_bounded_by (settled bytes) bytes k c (sym is ∙ known.decided)

-- a head that is not whole was read to the last byte
pub waits_read : (p : Progress) (n : ℕ) (kept : List ℕ) → IsRead p (take n kept)
    → (p.scan.at ≤ length kept) × (p.scan.at ≤ 16384) × (p.scan ≡ scanned begin (take p.scan.at kept))
waits_read p n kept read = (
  omega (arith, read.at, length-take n kept),
  omega (arith, read.at, read.below),
  read.scan ∙ ap (scanned begin) (sym (ap (λ (k : ℕ). take k kept) read.at ∙ same_front n kept)),
)

-- ---- requests and their lengths

-- a head that was read has a byte at least
head_positive : (bytes : List ℕ) (n : ℕ) (h : Says) → head_of (take n bytes) ≡ Some h → 0 < n
head_positive bytes zero h e = absurd (let none = sym no_head ∙ e in cc)
head_positive bytes (suc n) h e = omega arith

item_positive : (f : Finding) (bytes : List ℕ) (r : HttpRequest) → Facts bytes f → item_of f bytes ≡ Some (Ok r) → 0 < r.length
item_positive waits bytes r known e = absurd cc
item_positive (refused n method why) bytes r known e = absurd cc
item_positive (accepted n h method Chunked) bytes r known e =
    by_ending (ending_of (chunks_behind n bytes).spot) (chunks_behind n bytes).at e
  where
    by_ending : (o : Ending) (at : ℕ) → chunked_item n h method o at bytes ≡ Some (Ok r) → 0 < r.length
    by_ending ending.Open at found = absurd cc
    by_ending ending.Closed at found =
        let same : request_of h method (joined no_chunks (slice_range bytes n (n + at))) (n + at) ≡ r = cc in
        let longer : n + at ≡ r.length = ap (λ (q : HttpRequest). q.length) same in
        omega (arith, longer, head_positive bytes n h known.1)
    by_ending (ending.Refused why) at found = absurd cc
item_positive (accepted n h method (Sized size)) bytes r known e = by_room (leb_tells (n + size) (length bytes))
  where
    by_room : ((nat_le (n + size) (length bytes) ≡ true) × (n + size ≤ length bytes))
        ⊎ ((nat_le (n + size) (length bytes) ≡ false) × (length bytes < n + size))
        → 0 < r.length
    by_room (inl (t, room)) =
        let found = rw t at e in
        let same : request_of h method (slice_range bytes n (n + size)) (n + size) ≡ r = cc in
        let longer : n + size ≡ r.length = ap (λ (q : HttpRequest). q.length) same in
        omega (arith, longer, head_positive bytes n h known.1)
    by_room (inr (f, short)) = absurd (let none = rw f at e in cc)

-- a request has a byte at least
pub first_positive : (bytes : List ℕ) (r : HttpRequest) → first bytes ≡ Some (Ok r) → 0 < r.length
unfolding first
first_positive bytes r e = item_positive (settled bytes) bytes r (facts bytes) e

-- the first item of a text stays the first, whatever follows
pub first_stays : (bytes more : List ℕ) → IsSome (first bytes) → first (bytes ++ more) ≡ first bytes
first_stays bytes more some = by_answer (first bytes) refl
  where
    by_answer : (o : Option (Result HttpRequest HttpFault)) → first bytes ≡ o → first (bytes ++ more) ≡ first bytes
    by_answer None e = absurd (let found = rw e at some in cc)
    by_answer (Some item) e = first_append bytes more item e ∙ sym e
