-- Cutting a text into its items: fronts, and pieces.
use Rattle.std.proofs.Common.{◌≡◌, ℕ, ◌+◌, ◌≤◌, Bool, true, false, List, [], ◌∷◌, ◌++◌, length, drop, refl, sym, ap, ◌∙◌, arith, Option, Some, None, Result, Ok, Err, append_assoc, append-nil, length-append, length-drop, zero, suc, flat_map}
use Rattle.std.specs.Prelude.{is_some}
use Rattle.std.proofs.lemmas.List.{drop-append-le, drop-drop}
use Rattle.kapi_http.specs.Cut.{Cut, Begins, and_then, cut, cut_at, cut_by, first, no_more, settled, taken, total_length, with_request}
use Rattle.kapi_http.specs.Scan.{scanned}
use Rattle.kapi_http.specs.declared.message.HttpFault.{HttpFault}
use Rattle.kapi_http.specs.declared.message.HttpRequest.{HttpRequest}
use Rattle.kapi_http.proofs.Decided.{first_append, first_positive}
use Rattle.kapi_http.proofs.Items.{first_fits}

-- nothing begins every cut
begins_none : (b : Cut) → Begins no_more b
begins_none b = record { others = b.requests; requests = refl; fault = λ some. absurd cc }

begins_request : (r : HttpRequest) (a b : Cut) → Begins a b → Begins (with_request r a) (with_request r b)
begins_request r a b e =
    record { others = e.others; requests = ap (λ (rs : List HttpRequest). r ∷ rs) e.requests; fault = e.fault }

-- with less fuel and fewer bytes, a beginning is cut
begins_by : (n m : ℕ) (bytes more : List ℕ) → n ≤ m → Begins (cut_by n bytes) (cut_by m (bytes ++ more))
unfolding cut_by
begins_by zero m bytes more fits = begins_none _
begins_by (suc n) zero bytes more fits = absurd (omega arith)
begins_by (suc n) (suc m) bytes more fits = by_first (first bytes) refl (λ rest. begins_by n m rest more (omega arith))
  where
    by_first : (o : Option (Result HttpRequest HttpFault)) → first bytes ≡ o
        → ((rest : List ℕ) → Begins (cut_by n rest) (cut_by m (rest ++ more)))
        → Begins (cut_at (cut_by n) bytes (first bytes)) (cut_at (cut_by m) (bytes ++ more) (first (bytes ++ more)))
    by_first None e rest = rw e (begins_none _)
    by_first (Some (Err f)) e rest =
        rw (e, first_append bytes more (Err f) e) (record { others = []; requests = refl; fault = λ some. (refl, refl) })
    by_first (Some (Ok r)) e rest =
        let cut_alike = drop-append-le r.length bytes more (first_fits bytes r e) in
        rw (e, first_append bytes more (Ok r) e, cut_alike) (begins_request r (cut_by n (drop r.length bytes)) (cut_by m (drop r.length bytes ++ more)) (rest (drop r.length bytes)))

-- what is cut from a front is a beginning of what is cut from the whole
pub cut_begins : (bytes more : List ℕ) → Begins (cut bytes) (cut (bytes ++ more))
unfolding cut
cut_begins bytes more = begins_by (length bytes) (length (bytes ++ more)) bytes more (omega (arith, length-append bytes more))

-- ---- the fuel is enough

first_none : first [] ≡ None
unfolding first settled scanned
first_none = refl

cut_none : (m : ℕ) (bytes : List ℕ) → length bytes ≤ 0 → cut_by m bytes ≡ no_more
unfolding cut_by
cut_none zero bytes none = refl
cut_none (suc m) [] none = rw first_none refl
cut_none (suc m) (b ∷ bytes) none = absurd (omega arith)

fuel : (n m : ℕ) (bytes : List ℕ) → length bytes ≤ n → length bytes ≤ m → cut_by n bytes ≡ cut_by m bytes
unfolding cut_by
fuel zero m bytes less more = sym (cut_none m bytes less)
fuel (suc n) zero bytes less more = cut_none (suc n) bytes more
fuel (suc n) (suc m) bytes less more = by_first (first bytes) refl (λ rest. fuel n m rest)
  where
    by_first : (o : Option (Result HttpRequest HttpFault)) → first bytes ≡ o
        → ((rest : List ℕ) → length rest ≤ n → length rest ≤ m → cut_by n rest ≡ cut_by m rest)
        → cut_at (cut_by n) bytes (first bytes) ≡ cut_at (cut_by m) bytes (first bytes)
    by_first None e again = rw e refl
    by_first (Some (Err f)) e again = rw e refl
    by_first (Some (Ok r)) e again =
        let some = first_positive bytes r e in
        let within = first_fits bytes r e in
        rw e (ap (with_request r) (again (drop r.length bytes) (omega (arith, length-drop r.length bytes)) (omega (arith, length-drop r.length bytes))))

-- a text is cut to its first item and what the bytes behind it are cut to
pub cut_first : (bytes : List ℕ) → cut bytes ≡ cut_at cut bytes (first bytes)
unfolding cut cut_by
cut_first bytes = fuel (length bytes) (suc (length bytes)) bytes (omega arith) (omega arith) ∙ by_first (first bytes) refl
  where
    by_first : (o : Option (Result HttpRequest HttpFault)) → first bytes ≡ o
        → cut_at (cut_by (length bytes)) bytes (first bytes) ≡ cut_at (λ rest. cut_by (length rest) rest) bytes (first bytes)
    by_first None e = rw e refl
    by_first (Some (Err f)) e = rw e refl
    by_first (Some (Ok r)) e =
        rw e (ap (with_request r) (fuel (length bytes) (length (drop r.length bytes)) (drop r.length bytes) (omega (arith, length-drop r.length bytes)) (omega arith)))

-- the bytes behind a request's are cut by themselves
nothing_left : (bytes : List ℕ) → drop (length bytes) bytes ≡ []
nothing_left [] = refl
nothing_left (b ∷ bytes) = nothing_left bytes

pub cut_apart : (bytes more : List ℕ) (r : HttpRequest) → first bytes ≡ Some (Ok r) → r.length ≡ length bytes
    → cut (bytes ++ more) ≡ with_request r (cut more)
cut_apart bytes more r e whole =
    cut_first (bytes ++ more) ∙ ap (cut_at cut (bytes ++ more)) (first_append bytes more (Ok r) e)
    ∙ ap (λ (t : List ℕ). with_request r (cut t))
    (drop-append-le r.length bytes more (first_fits bytes r e)
    ∙ ap (λ (t : List ℕ). t ++ more) (ap (λ (n : ℕ). drop n bytes) whole ∙ nothing_left bytes))

-- ---- pieces

after_request : (r : HttpRequest) (a b : Cut) → with_request r (and_then a b) ≡ and_then (with_request r a) b
after_request r a b = by_fault (is_some a.fault) refl
  where
    by_fault : (t : Bool) → is_some a.fault ≡ t → with_request r (and_then a b) ≡ and_then (with_request r a) b
    by_fault true t = rw t refl
    by_fault false t = rw t refl

-- a text is cut in two steps: a front of it, and what the front left with the rest
cut_split : (n : ℕ) (a b : List ℕ) → length a ≤ n
    → cut (a ++ b) ≡ and_then (cut_by n a) (cut (drop (total_length (cut_by n a).requests) a ++ b))
unfolding cut_by
cut_split zero a b fits = refl
cut_split (suc n) a b fits = by_first (first a) refl (λ rest. cut_split n rest b)
  where
    by_first : (o : Option (Result HttpRequest HttpFault)) → first a ≡ o
        → ((rest : List ℕ) → length rest ≤ n → cut (rest ++ b) ≡ and_then (cut_by n rest) (cut (drop (total_length (cut_by n rest).requests) rest ++ b)))
        → cut (a ++ b) ≡ and_then (cut_at (cut_by n) a (first a)) (cut (drop (total_length (cut_at (cut_by n) a (first a)).requests) a ++ b))
    by_first None e again = rw e refl
    by_first (Some (Err f)) e again = rw e (cut_first (a ++ b) ∙ ap (cut_at cut (a ++ b)) (first_append a b (Err f) e))
    by_first (Some (Ok r)) e again =
        let some = first_positive a r e in
        let within = first_fits a r e in
        let rest : List ℕ = drop r.length a in
        let others : Cut = cut_by n rest in
        let behind : cut (a ++ b) ≡ with_request r (cut (rest ++ b)) =
        cut_first (a ++ b) ∙ ap (cut_at cut (a ++ b)) (first_append a b (Ok r) e)
        ∙ ap (λ (t : List ℕ). with_request r (cut t)) (drop-append-le r.length a b within) in
        let left : drop (total_length others.requests) rest ≡ drop (r.length + total_length others.requests) a =
        drop-drop (total_length others.requests) r.length a in
        rw e (behind ∙ ap (with_request r) (again rest (omega (arith, length-drop r.length a)))
        ∙ after_request r others (cut (drop (total_length others.requests) rest ++ b))
        ∙ ap (λ (t : List ℕ). and_then (with_request r others) (cut (t ++ b))) left)

-- what is left behind all items begins with none
left_none : (n : ℕ) (a : List ℕ) → length a ≤ n → is_some (cut_by n a).fault ≡ false
    → first (drop (total_length (cut_by n a).requests) a) ≡ None
unfolding cut_by
left_none zero [] fits none = first_none
left_none zero (b ∷ a) fits none = absurd (omega arith)
left_none (suc n) a fits none = by_first (first a) refl (λ rest. left_none n rest)
  where
    by_first : (o : Option (Result HttpRequest HttpFault)) → first a ≡ o
        → ((rest : List ℕ) → length rest ≤ n → is_some (cut_by n rest).fault ≡ false → first (drop (total_length (cut_by n rest).requests) rest) ≡ None)
        → first (drop (total_length (cut_at (cut_by n) a (first a)).requests) a) ≡ None
    by_first None e again = rw e e
    by_first (Some (Err f)) e again = absurd (let some = rw e at none in cc)
    by_first (Some (Ok r)) e again =
        let some = first_positive a r e in
        let within = first_fits a r e in
        let rest : List ℕ = drop r.length a in
        let others : Cut = cut_by n rest in
        let still : is_some others.fault ≡ false = rw e at none in
        let left : drop (total_length others.requests) rest ≡ drop (r.length + total_length others.requests) a =
        drop-drop (total_length others.requests) r.length a in
        rw e (ap first (sym left) ∙ again rest (omega (arith, length-drop r.length a)) still)

-- a text in two pieces is cut as the first piece, and then as what that left with the second
cut_joined : (a b : List ℕ) → cut (a ++ b) ≡ and_then (cut a) (cut (drop (total_length (cut a).requests) a ++ b))
unfolding cut
cut_joined a b = cut_split (length a) a b (omega arith)

cut_left : (a : List ℕ) → is_some (cut a).fault ≡ false → first (drop (total_length (cut a).requests) a) ≡ None
unfolding cut
cut_left a none = left_none (length a) a (omega arith) none

-- nothing comes behind a fault
fault_last : (a b c : Cut) → is_some a.fault ≡ true → and_then a b ≡ and_then a c
fault_last a b c some = rw some refl

taken_by : (pieces : List (List ℕ)) (kept : List ℕ) → first kept ≡ None
    → taken kept pieces ≡ cut (kept ++ flat_map (λ piece. piece) pieces)
unfolding taken
taken_by [] kept none = sym (ap cut (append-nil kept) ∙ cut_first kept ∙ ap (cut_at cut kept) none)
taken_by (piece ∷ pieces) kept none =
    by_fault (is_some (cut (kept ++ piece)).fault) refl (taken_by pieces (drop (total_length (cut (kept ++ piece)).requests) (kept ++ piece)))
    ∙ sym (cut_joined (kept ++ piece) (flat_map (λ piece. piece) pieces))
    ∙ ap cut (append_assoc kept piece (flat_map (λ piece. piece) pieces))
  where
    by_fault : (t : Bool) → is_some (cut (kept ++ piece)).fault ≡ t
        → (first (drop (total_length (cut (kept ++ piece)).requests) (kept ++ piece)) ≡ None
        → taken (drop (total_length (cut (kept ++ piece)).requests) (kept ++ piece)) pieces
        ≡ cut (drop (total_length (cut (kept ++ piece)).requests) (kept ++ piece) ++ flat_map (λ piece. piece) pieces))
        → and_then (cut (kept ++ piece)) (taken (drop (total_length (cut (kept ++ piece)).requests) (kept ++ piece)) pieces)
        ≡ and_then (cut (kept ++ piece)) (cut (drop (total_length (cut (kept ++ piece)).requests) (kept ++ piece) ++ flat_map (λ piece. piece) pieces))
    by_fault true e again = fault_last (cut (kept ++ piece)) _ _ e
    by_fault false e again = ap (and_then (cut (kept ++ piece))) (again (cut_left (kept ++ piece) e))

pub pieces_cut : (pieces : List (List ℕ)) → taken [] pieces ≡ cut (flat_map (λ piece. piece) pieces)
pieces_cut pieces = taken_by pieces [] first_none
