-- Heads that the grammar prints, and fronts of texts.
use Rattle.std.proofs.Common.{◌≡◌, ℕ, ◌+◌, ◌-◌, ◌<◌, ◌≤◌, ◌⊎◌, inl, inr, Bool, true, false, List, ◌++◌, length, take, drop, refl, sym, ap, ◌∙◌, arith, Some, None, Err, append-nil, take-append-drop}
use Rattle.std.proofs.Math.Seq.{take-append_seam}
use Rattle.std.specs.Prelude.{nat_le}
use Rattle.std.proofs.lemmas.Bool.{lt-leb}
use Rattle.std.proofs.lemmas.List.{drop-take, take-take, take_all, length-take}
use Rattle.std.proofs.lemmas.Bool.Decides.{leb_tells}
use Rattle.httparse.specs.Grammar.{RequestHead, IsRequestHead, print_request}
use Rattle.kapi_http.specs.Cut.{Finding, waits, refused, accepted, chunked_item, chunks_behind, first, item_of, reach, reach_of, settled, settled_of, settled_within}
use Rattle.kapi_http.specs.Chunks.{chunked, ending_of, no_chunks}
use Rattle.kapi_http.specs.declared.chunks.Chunks.{Chunks}
use Rattle.kapi_http.specs.declared.chunks.Ending.{Ending}
use Rattle.kapi_http.specs.declared.chunks.Ending.TheVariants as ending
use Rattle.kapi_http.specs.declared.rules.Framing.TheVariants.{Sized, Chunked}
use Rattle.kapi_http.proofs.Chunking.{chunks_front, chunks_open}
use Rattle.kapi_http.specs.declared.message.HttpFault.{HttpFault}
use Rattle.kapi_http.specs.Head.{says, head_of}
use Rattle.kapi_http.specs.Scan.{begin, is_ended, scanned}
use Rattle.kapi_http.specs.declared.scan.Scan.{Scan}
use Rattle.kapi_http.proofs.Decided.{settled_append, take_longer}
use Rattle.kapi_http.proofs.HeadScans.{head_scan, mk}
use Rattle.kapi_http.proofs.Heads.{head_of_whole}
use Rattle.kapi_http.proofs.Scanning.{scanned_all, scanned_append, scanned_ended, scanned_take}
use Rattle.kapi_http.proofs.Settling.{Facts, facts, scan_within, settled_ended, settled_long, settled_short}
use Rattle.kapi_http.specs.declared.scan.HeadState.TheVariants.{Ended}

-- a head that is printed by the grammar within the limits is read, whatever follows it
pub settled_print : (h : RequestHead) (more : List ℕ) → IsRequestHead h → length (print_request h) ≤ 16384 → length h.fields ≤ 64
    → settled (print_request h ++ more) ≡ settled_of (print_request h) (Some (says h))
settled_print h more is short few =
    let text : List ℕ = print_request h in
    let bytes : List ℕ = text ++ more in
    let end : Scan = mk Ended (length text) (length h.fields + 1) in
    let longer = take_longer 16384 text more in
    let whole : take 16384 text ≡ text = take_all 16384 text short in
    let scan : end ≡ scanned begin (take 16384 bytes) =
    sym (ap (scanned begin) (longer.1 ∙ ap (λ (t : List ℕ). t ++ longer.0) whole) ∙ head_scan h longer.0 is) in
    let lines : nat_le 66 (length h.fields + 1) ≡ false = lt-leb 66 (length h.fields + 1) (omega arith) in
    let read : head_of text ≡ Some (says h) = head_of_whole text h (is, sym (append-nil text)) in
    settled_ended end bytes scan refl
    ∙ ap (settled_within (length h.fields + 1)) (take-append_seam text more)
    ∙ rw lines (ap (settled_of text) read)

-- ---- the shortest front that shows a fault

-- a front up to where the scan came is scanned alike
front_scan : (bytes : List ℕ) → scanned begin (take 16384 bytes) ≡ scanned begin (take 16384 (take (scanned begin (take 16384 bytes)).at bytes))
front_scan bytes =
    let s : Scan = scanned begin (take 16384 bytes) in
    let front = scanned_take begin (take 16384 bytes) in
    let at : front.0 ≡ s.at = omega (arith, front.2) in
    let limit : s.at ≤ 16384 = omega (arith, front.1, at, length-take 16384 bytes) in
    let short : length (take s.at bytes) ≤ 16384 = omega (arith, length-take s.at bytes) in
    sym (ap (scanned begin) (take_all 16384 (take s.at bytes) short ∙ sym (take-take s.at 16384 bytes limit) ∙ ap (λ (n : ℕ). take n (take 16384 bytes)) (sym at)) ∙ front.3)

settled_front : (bytes : List ℕ) → (settled bytes ≡ waits → ⊥) → settled (take (scanned begin (take 16384 bytes)).at bytes) ≡ settled bytes
settled_front bytes decided = by_end (is_ended (scanned begin (take 16384 bytes)).place) refl
  where
    by_end : (e : Bool) → is_ended (scanned begin (take 16384 bytes)).place ≡ e
        → settled (take (scanned begin (take 16384 bytes)).at bytes) ≡ settled bytes
    by_end true e =
        let s : Scan = scanned begin (take 16384 bytes) in
        settled_ended s (take s.at bytes) (front_scan bytes) e
        ∙ ap (settled_within s.lines) (take-take s.at s.at bytes (omega arith)) ∙ sym (settled_ended s bytes refl e)
    by_end false e = by_length (leb_tells 16384 (length bytes))
      where
        by_length : ((nat_le 16384 (length bytes) ≡ true) × (16384 ≤ length bytes)) ⊎ ((nat_le 16384 (length bytes) ≡ false) × (length bytes < 16384))
            → settled (take (scanned begin (take 16384 bytes)).at bytes) ≡ settled bytes
        by_length (inl (t, long)) =
            let s : Scan = scanned begin (take 16384 bytes) in
            let all = scanned_all begin (take 16384 bytes) e in
            let enough : 16384 ≤ length (take s.at bytes) = omega (arith, all, length-take 16384 bytes, length-take s.at bytes) in
            settled_long s (take s.at bytes) (front_scan bytes) e enough ∙ sym (settled_long s bytes refl e long)
        by_length (inr (f, short)) = absurd (decided (settled_short (scanned begin (take 16384 bytes)) bytes refl e short))

-- every longer front settles the same
settled_from : (bytes : List ℕ) (k : ℕ) → (settled bytes ≡ waits → ⊥) → (scanned begin (take 16384 bytes)).at ≤ k → settled (take k bytes) ≡ settled bytes
settled_from bytes k decided far =
    let at : ℕ = (scanned begin (take 16384 bytes)).at in
    let same = settled_front bytes decided in
    ap settled (sym (take-append-drop at (take k bytes)) ∙ ap (λ (t : List ℕ). t ++ drop at (take k bytes)) (take-take at k bytes far))
    ∙ settled_append (take at bytes) (drop at (take k bytes)) (λ w. decided (sym same ∙ w)) ∙ same

-- the chunks of a front
chunks_of_front : (n j : ℕ) (bytes : List ℕ) → chunks_behind n (take (n + j) bytes) ≡ chunked no_chunks (take j (drop n bytes))
chunks_of_front n j bytes = ap (chunked no_chunks) (drop-take n j bytes)

fault_by : (f : Finding) (bytes : List ℕ) (x : HttpFault) → Facts bytes f → settled bytes ≡ f → item_of f bytes ≡ Some (Err x)
    → item_of (settled (take (reach_of f bytes) bytes)) (take (reach_of f bytes) bytes) ≡ Some (Err x)
fault_by waits bytes x known is e = absurd cc
fault_by (refused n method why) bytes x known is e =
    let decided : settled bytes ≡ waits → ⊥ = λ w. let no = sym is ∙ w in cc in
    ap (λ (g : Finding). item_of g (take (scanned begin (take 16384 bytes)).at bytes)) (settled_front bytes decided ∙ is) ∙ e
fault_by (accepted n h method (Sized size)) bytes x known is e = by_room (leb_tells (n + size) (length bytes))
  where
    by_room : ((nat_le (n + size) (length bytes) ≡ true) × (n + size ≤ length bytes)) ⊎ ((nat_le (n + size) (length bytes) ≡ false) × (length bytes < n + size))
        → item_of (settled (take (scanned begin (take 16384 bytes)).at bytes)) (take (scanned begin (take 16384 bytes)).at bytes) ≡ Some (Err x)
    by_room (inl (t, room)) = absurd (let found = rw t at e in cc)
    by_room (inr (f, short)) = absurd (let none = rw f at e in cc)
fault_by (accepted n h method Chunked) bytes x known is e =
    let c : Chunks = chunks_behind n bytes in
    let front : List ℕ = take (n + (chunks_behind n bytes).at) bytes in
    let decided : settled bytes ≡ waits → ⊥ = λ w. let no = sym is ∙ w in cc in
    let same : chunks_behind n front ≡ chunks_behind n bytes =
    chunks_of_front n (chunks_behind n bytes).at bytes ∙ chunks_front (drop n bytes) in
    ap (λ (g : Finding). item_of g front) (settled_from bytes (n + (chunks_behind n bytes).at) decided (omega (arith, known.4)) ∙ is)
    ∙ ap (λ (d : Chunks). chunked_item n h method (ending_of d.spot) d.at front) same
    ∙ refused_alike (ending_of (chunks_behind n bytes).spot) e
  where
    refused_alike : (o : Ending) → chunked_item n h method o (chunks_behind n bytes).at bytes ≡ Some (Err x)
        → chunked_item n h method o (chunks_behind n bytes).at (take (n + (chunks_behind n bytes).at) bytes) ≡ Some (Err x)
    refused_alike ending.Open e = absurd cc
    refused_alike ending.Closed e = absurd cc
    refused_alike (ending.Refused why) e = e

-- a fault is shown by the bytes up to where the reading came
pub fault_shown : (bytes : List ℕ) (f : HttpFault) → first bytes ≡ Some (Err f) → first (take (reach bytes) bytes) ≡ Some (Err f)
unfolding first
fault_shown bytes f e = fault_by (settled bytes) bytes f (facts bytes) refl e

-- nothing is known before the head is whole
head_waits : (bytes : List ℕ) (k : ℕ) → k < (scanned begin (take 16384 bytes)).at → first (take k bytes) ≡ None
unfolding first
head_waits bytes k below = by_end (is_ended (scanned begin (take k bytes)).place) refl
  where
    by_end : (e : Bool) → is_ended (scanned begin (take k bytes)).place ≡ e → item_of (settled (take k bytes)) (take k bytes) ≡ None
    by_end true is =
        let s : Scan = scanned begin (take 16384 bytes) in
        let looked : List ℕ = take 16384 bytes in
        let limit : k ≤ 16384 = omega (arith, scan_within looked, length-take 16384 bytes) in
        let same : s ≡ scanned begin (take k bytes) =
        ap (scanned begin) (sym (take-append-drop k looked)) ∙ scanned_append begin (take k looked) (drop k looked)
        ∙ ap (λ (t : List ℕ). scanned (scanned begin t) (drop k looked)) (take-take k 16384 bytes limit)
        ∙ scanned_ended (scanned begin (take k bytes)) (drop k looked) is in
        absurd (omega (arith, ap (λ (t : Scan). t.at) same, scan_within (take k bytes), length-take k bytes))
    by_end false is =
        let text : List ℕ = take k bytes in
        let short : length text < 16384 =
        omega (arith, scan_within (take 16384 bytes), length-take 16384 bytes, length-take k bytes) in
        let fits : length text ≤ 16384 = omega arith in
        let looked : scanned begin text ≡ scanned begin (take 16384 text) = ap (scanned begin) (sym (take_all 16384 text fits)) in
        ap (λ (x : Finding). item_of x text) (settled_short (scanned begin text) text looked is short)

waits_by : (f : Finding) (bytes : List ℕ) (k : ℕ) → Facts bytes f → settled bytes ≡ f → k < reach_of f bytes → item_of (settled (take k bytes)) (take k bytes) ≡ None
unfolding first
waits_by waits bytes k known is below = head_waits bytes k below
waits_by (refused n method why) bytes k known is below = head_waits bytes k below
waits_by (accepted n h method (Sized size)) bytes k known is below = head_waits bytes k below
waits_by (accepted n h method Chunked) bytes k known is below = by_head (leb_tells n k)
  where
    by_head : ((nat_le n k ≡ true) × (n ≤ k)) ⊎ ((nat_le n k ≡ false) × (k < n)) → item_of (settled (take k bytes)) (take k bytes) ≡ None
    by_head (inr (f, short)) = head_waits bytes k (omega (arith, known.4))
    by_head (inl (t, far)) =
        let decided : settled bytes ≡ waits → ⊥ = λ w. let no = sym is ∙ w in cc in
        let sum : k ≡ n + (k - n) = omega arith in
        let read : chunks_behind n (take k bytes) ≡ chunked no_chunks (take (k - n) (drop n bytes)) =
        ap (λ (j : ℕ). chunks_behind n (take j bytes)) sum ∙ chunks_of_front n (k - n) bytes in
        let still : ending_of (chunks_behind n (take k bytes)).spot ≡ ending.Open =
        ap (λ (d : Chunks). ending_of d.spot) read ∙ chunks_open (drop n bytes) (k - n) (omega arith) in
        ap (λ (g : Finding). item_of g (take k bytes)) (settled_from bytes k decided (omega (arith, known.4)) ∙ is)
        ∙ ap (λ (o : Ending). chunked_item n h method o (chunks_behind n (take k bytes)).at (take k bytes)) still

-- a fault is shown by no shorter front
pub fault_waits : (bytes : List ℕ) (k : ℕ) → k < reach bytes → first (take k bytes) ≡ None
unfolding first
fault_waits bytes k below = waits_by (settled bytes) bytes k (facts bytes) refl below
