-- Where a head ends, told by the grammar.
use Rattle.std.proofs.Common.{◌≡◌, ◌≢◌, ℕ, ◌+◌, ◌<◌, ◌≤◌, ◌⊎◌, inl, inr, Bool, true, false, List, [], ◌∷◌, ◌++◌, length, take, drop, refl, sym, ap, subst, ◌∙◌, arith, Option, Some, None, Result, Ok, Err, append_assoc, append-nil, take-append-drop}
use Rattle.std.specs.Prelude.{nat_le, nat_lt, if◌then◌else◌, not, ◌&&◌, ◌==◌, codes}
use Rattle.std.specs.Char.{is_ascii_digit}
use Rattle.std.specs.List.{list_all}
use Rattle.std.specs.Str.{str_eq_ignore_ascii_case}
use Rattle.std.specs.Str.Parse.{digits_value}
use Rattle.std.proofs.Math.Seq.{take-append_seam}
use Rattle.std.proofs.lemmas.Bool.Decides.{leb_tells}
use Rattle.std.proofs.lemmas.List.{take_all, length-take}
use Rattle.httparse.specs.Grammar.{HasNoRequest, NeverHasRequest, ReadsRequest, RequestHead, print_request}
use Rattle.kapi_http.specs.Cut.{waits, refused, accepted, settled, settled_by, settled_of}
use Rattle.kapi_http.specs.Fields.{values}
use Rattle.kapi_http.specs.Head.{Says, head_of, says}
use Rattle.kapi_http.specs.Limits.{body_limit}
use Rattle.kapi_http.specs.Requests.{HasHead, IsTooLarge}
use Rattle.kapi_http.specs.Rules.{checked, content_length, framing, framing_by, if_served, method_named, within_limit}
use Rattle.kapi_http.specs.Scan.{begin, is_ended, scanned}
use Rattle.kapi_http.specs.declared.message.Method.{Method}
use Rattle.kapi_http.specs.declared.message.Refusal.{Refusal}
use Rattle.kapi_http.specs.declared.message.Refusal.TheVariants as refusal
use Rattle.kapi_http.specs.declared.rules.Framing.{Framing}
use Rattle.kapi_http.specs.declared.rules.Framing.TheVariants.{Sized, Chunked}
use Rattle.kapi_http.specs.declared.scan.HeadState.TheVariants.{Ended}
use Rattle.kapi_http.specs.declared.scan.Scan.{Scan}
use Rattle.kapi_http.proofs.Decided.{settled_append}
use Rattle.kapi_http.proofs.HeadScans.{head_scan, mk}
use Rattle.kapi_http.proofs.Heads.{head_of_sound}
use Rattle.kapi_http.proofs.Printed.{settled_print}
use Rattle.kapi_http.proofs.Scanning.{scanned_append, scanned_ended}
use Rattle.kapi_http.proofs.Settling.{Facts, HasRoom, facts, same_front, scan_within, settled_ended, settled_long, settled_short}

-- ---- the refusals of the rules

-- a refusal of a head that was read
abbrev by_rule : Refusal → Bool
by_rule refusal.HeadTooLarge = false
by_rule refusal.NoHead = false
by_rule refusal.Version = true
by_rule refusal.Host = true
by_rule refusal.Expectation = true
by_rule refusal.Method = true
by_rule refusal.Length = true
by_rule refusal.TransferEncoding = true
by_rule refusal.Chunk = true
by_rule refusal.BodyTooLarge = true

-- each refusal of this result is one of the rules
abbrev Rules : {A : Type 0} → Result A Refusal → Type 0
Rules {A} r = (why : Refusal) → r ≡ Err why → by_rule why ≡ true

test_rules : {A : Type 0} (b : Bool) (w : Refusal) (r : Result A Refusal) → by_rule w ≡ true → Rules r → Rules (if b then Err w else r)
test_rules true w r is more why e = let same : w ≡ why = cc in ap by_rule (sym same) ∙ is
test_rules false w r is more why e = more why e

ok_rules : {A : Type 0} (b : Bool) (w : Refusal) (x : A) → by_rule w ≡ true → Rules (if b then Ok x else Err w)
ok_rules true w x is why e = absurd cc
ok_rules false w x is why e = let same : w ≡ why = cc in ap by_rule (sym same) ∙ is

err_rules : {A : Type 0} (w : Refusal) → by_rule w ≡ true → Rules {A = A} (Err w)
err_rules w is why e = let same : w ≡ why = cc in ap by_rule (sym same) ∙ is

content_rules : (value : List ℕ) → Rules (content_length value)
unfolding content_length
content_rules value = by_digits (nat_lt 0 (length value) && list_all is_ascii_digit value)
  where
    by_digits : (b : Bool) → Rules (if b then within_limit (digits_value 10 value) else Err refusal.Length)
    by_digits true = ok_rules (nat_le (digits_value 10 value) body_limit) refusal.BodyTooLarge (Sized (digits_value 10 value)) refl
    by_digits false = err_rules refusal.Length refl

framing_rules : (codings sizes : List (List ℕ)) → Rules (framing_by codings sizes)
unfolding framing_by
framing_rules [] [] = λ why e. absurd cc
framing_rules [] (size ∷ []) = content_rules size
framing_rules [] (size ∷ other ∷ more) = err_rules refusal.Length refl
framing_rules (value ∷ []) [] = ok_rules (str_eq_ignore_ascii_case value (codes "chunked")) refusal.TransferEncoding Chunked refl
framing_rules (value ∷ other ∷ more) [] = err_rules refusal.TransferEncoding refl
framing_rules (value ∷ []) (size ∷ more) = err_rules refusal.Length refl
framing_rules (value ∷ other ∷ codings) (size ∷ more) = err_rules refusal.Length refl

served_rules : (o : Option Method) (r : Result Framing Refusal) → Rules r → Rules (if_served o r)
served_rules None r more why e = err_rules refusal.Method refl why e
served_rules (Some m) (Ok k) more why e = absurd cc
served_rules (Some m) (Err w) more why e = let same : w ≡ why = cc in more why (ap Err same)

-- a head that is refused by the rules was read
checked_rules : (h : Says) → Rules (checked h)
unfolding checked framing
checked_rules h =
    test_rules (h.minor == 0) refusal.Version _ refl
    (test_rules (not (length (values (codes "host") h.fields) == 1)) refusal.Host _ refl
    (test_rules (not (length (values (codes "expect") h.fields) == 0)) refusal.Expectation _ refl
    (served_rules (method_named h.method) (framing h.fields)
    (framing_rules (values (codes "transfer-encoding") h.fields) (values (codes "content-length") h.fields)))))

settled_rules : (text : List ℕ) (h : Says) (n : ℕ) (method : List ℕ) (why : Refusal) → settled_by text h (checked h) ≡ refused n method why → by_rule why ≡ true
settled_rules text h n method why = by_result (checked h) refl
  where
    by_result : (r : Result (Method × Framing) Refusal) → checked h ≡ r → settled_by text h r ≡ refused n method why → by_rule why ≡ true
    by_result (Ok m) c e = absurd cc
    by_result (Err w) c e = let same : w ≡ why = cc in checked_rules h why (c ∙ ap Err same)

-- ---- what is settled, in cases

-- the scan up to the limit
abbrev pub looked : List ℕ → Scan
looked bytes = scanned begin (take 16384 bytes)

-- a front was taken for a head
record Front (bytes : List ℕ) : Type 0 where
  ended : is_ended (looked bytes).place ≡ true
  few : (looked bytes).lines < 66
  settles : settled bytes ≡ settled_of (take (looked bytes).at bytes) (head_of (take (looked bytes).at bytes))

-- the end of the head is not there yet
pub record Going (bytes : List ℕ) : Type 0 where
  pub going : is_ended (looked bytes).place ≡ false
  pub short : length bytes < 16384
  pub settles : settled bytes ≡ waits

abbrev Cases : List ℕ → Type 0
Cases bytes = Front bytes ⊎ ((settled bytes ≡ refused 0 [] refusal.HeadTooLarge) ⊎ Going bytes)

cases : (bytes : List ℕ) → Cases bytes
cases bytes = by_end (is_ended (looked bytes).place) refl
  where
    by_end : (e : Bool) → is_ended (looked bytes).place ≡ e → Cases bytes
    by_end true e = by_lines (leb_tells 66 (looked bytes).lines)
      where
        by_lines : ((nat_le 66 (looked bytes).lines ≡ true) × (66 ≤ (looked bytes).lines)) ⊎ ((nat_le 66 (looked bytes).lines ≡ false) × ((looked bytes).lines < 66))
            → Cases bytes
        by_lines (inl (t, many)) = inr (inl (settled_ended (looked bytes) bytes refl e ∙ rw t refl))
        by_lines (inr (f, few)) = inl (record { ended = e; few = few; settles = settled_ended (looked bytes) bytes refl e ∙ rw f refl })
    by_end false e = by_length (leb_tells 16384 (length bytes))
      where
        by_length : ((nat_le 16384 (length bytes) ≡ true) × (16384 ≤ length bytes)) ⊎ ((nat_le 16384 (length bytes) ≡ false) × (length bytes < 16384))
            → Cases bytes
        by_length (inl (t, long)) = inr (inl (settled_long (looked bytes) bytes refl e long))
        by_length (inr (f, short)) =
            inr (inr (record { going = e; short = short; settles = settled_short (looked bytes) bytes refl e short }))

at_most : (bytes : List ℕ) → (looked bytes).at ≤ 16384
at_most bytes = omega (arith, scan_within (take 16384 bytes), length-take 16384 bytes)

-- ---- what is read is a head of the grammar

has_head : (bytes : List ℕ) (n : ℕ) (head : RequestHead) → ReadsRequest (take n bytes) head [] → HasRoom (take n bytes) → n ≤ length bytes → n ≤ 16384 → HasHead bytes n head
has_head bytes n head reads room within short =
    let front : take n bytes ≡ print_request head = reads.1 ∙ append-nil (print_request head) in
    record {
      reads = (reads.0, sym (take-append-drop n bytes) ∙ ap (λ (t : List ℕ). t ++ drop n bytes) front);
      size = omega (arith, ap length front, length-take n bytes);
      short = short;
      few = room head reads;
    }

pub accepted_head : (bytes : List ℕ) (n : ℕ) (h : Says) (method : Method) (framing : Framing) → settled bytes ≡ accepted n h method framing
    → (head : RequestHead) × HasHead bytes n head × (h ≡ says head) × (checked h ≡ Ok (method, framing))
accepted_head bytes n h method framing e =
    let known : Facts bytes (accepted n h method framing) = subst (Facts bytes) e (facts bytes) in
    let read = head_of_sound (take n bytes) h known.1 in
    let short : n ≤ 16384 = omega (arith, known.4, at_most bytes) in
    (read.0, has_head bytes n read.0 read.1 known.0 known.3 short, sym read.2, known.2)

pub refused_head : (bytes : List ℕ) (n : ℕ) (method : List ℕ) (why : Refusal) → settled bytes ≡ refused n method why
    → why ≢ refusal.NoHead → why ≢ refusal.HeadTooLarge
    → (head : RequestHead) × HasHead bytes n head × (method ≡ head.method) × (checked (says head) ≡ Err why)
refused_head bytes n method why e some small = by_cases (cases bytes)
  where
    Goal : Type 0
    Goal = (head : RequestHead) × HasHead bytes n head × (method ≡ head.method) × (checked (says head) ≡ Err why)

    known : Facts bytes (refused n method why)
    known = subst (Facts bytes) e (facts bytes)

    front : List ℕ
    front = take (looked bytes).at bytes

    by_result : (h : Says) → head_of front ≡ Some h → (r : Result (Method × Framing) Refusal) → checked h ≡ r → settled_by front h r ≡ refused n method why → Goal
    by_result h is (Ok m) c same = absurd cc
    by_result h is (Err w) c same =
        let size : length front ≡ n = cc in
        let word : h.method ≡ method = cc in
        let reason : w ≡ why = cc in
        let whole : take n bytes ≡ front = ap (λ (k : ℕ). take k bytes) (sym size) ∙ same_front (looked bytes).at bytes in
        let read = head_of_sound (take n bytes) h (ap head_of whole ∙ is) in
        let short : n ≤ 16384 = omega (arith, size, length-take (looked bytes).at bytes, at_most bytes) in (
          read.0,
          has_head bytes n read.0 read.1 known.0 known.1 short,
          sym word ∙ ap (λ (s : Says). s.method) (sym read.2),
          ap checked read.2 ∙ c ∙ ap Err reason,
        )

    by_read : (o : Option Says) → head_of front ≡ o → settled_of front o ≡ refused n method why → Goal
    by_read None is same = absurd (let reason : refusal.NoHead ≡ why = cc in some (sym reason))
    by_read (Some h) is same = by_result h is (checked h) refl same

    by_cases : Cases bytes → Goal
    by_cases (inl f) = by_read (head_of front) refl (sym f.settles ∙ e)
    by_cases (inr (inl large)) =
        absurd (let same = sym large ∙ e in let reason : refusal.HeadTooLarge ≡ why = cc in small (sym reason))
    by_cases (inr (inr g)) = absurd (let same = sym g.settles ∙ e in cc)

-- ---- what is no head of the grammar

-- a head within the limits is settled by the rules
by_rules : (bytes more rest : List ℕ) (head : RequestHead) → ReadsRequest (bytes ++ more) head rest → length (print_request head) ≤ 16384 → length head.fields ≤ 64
    → (settled bytes ≡ waits → ⊥) → settled bytes ≡ settled_by (print_request head) (says head) (checked (says head))
by_rules bytes more rest head reads short few decided =
    sym (settled_append bytes more decided) ∙ ap settled reads.1 ∙ settled_print head rest reads.0 short few

not_by_rules : (bytes more rest : List ℕ) (head : RequestHead) (n : ℕ) (method : List ℕ) (why : Refusal) → settled bytes ≡ refused n method why → by_rule why ≡ false
    → ReadsRequest (bytes ++ more) head rest → length (print_request head) ≤ 16384 → length head.fields ≤ 64 → ⊥
not_by_rules bytes more rest head n method why e other reads short few =
    let decided : settled bytes ≡ waits → ⊥ = λ w. let no = sym e ∙ w in cc in
    let is : by_rule why ≡ true =
    settled_rules (print_request head) (says head) n method why (sym (by_rules bytes more rest head reads short few decided) ∙ e) in
    cc

-- where the scan ended, a head of the grammar ends
ended_at : (bytes more rest : List ℕ) (head : RequestHead) → is_ended (looked bytes).place ≡ true → ReadsRequest (bytes ++ more) head rest
    → looked bytes ≡ mk Ended (length (print_request head)) (length head.fields + 1)
ended_at bytes more rest head e reads =
    let behind : List ℕ = drop 16384 bytes ++ more in
    let whole : take 16384 bytes ++ behind ≡ bytes ++ more =
    sym (append_assoc (take 16384 bytes) (drop 16384 bytes) more) ∙ ap (λ (t : List ℕ). t ++ more) (take-append-drop 16384 bytes) in
    sym (scanned_ended (looked bytes) behind e) ∙ sym (scanned_append begin (take 16384 bytes) behind)
    ∙ ap (scanned begin) (whole ∙ reads.1) ∙ head_scan head rest reads.0

-- where no head was read, the bytes never begin with one, whatever follows
pub never_head : (bytes : List ℕ) (n : ℕ) (method : List ℕ) → settled bytes ≡ refused n method refusal.NoHead → NeverHasRequest bytes
never_head bytes n method e more head rest reads = by_cases (cases bytes)
  where
    by_cases : Cases bytes → ⊥
    by_cases (inl f) =
        let same = ended_at bytes more rest head f.ended reads in
        let short : length (print_request head) ≤ 16384 = omega (arith, ap (λ (s : Scan). s.at) same, at_most bytes) in
        let few : length head.fields ≤ 64 = omega (arith, ap (λ (s : Scan). s.lines) same, f.few) in
        not_by_rules bytes more rest head n method refusal.NoHead e refl reads short few
    by_cases (inr (inl large)) = let same = sym large ∙ e in absurd cc
    by_cases (inr (inr g)) = let same = sym g.settles ∙ e in absurd cc

-- if the head is too large, the bytes begin with none within the limits, whatever follows
pub too_large : (bytes : List ℕ) (n : ℕ) (method : List ℕ) → settled bytes ≡ refused n method refusal.HeadTooLarge
    → (more rest : List ℕ) (head : RequestHead) → ReadsRequest (bytes ++ more) head rest → IsTooLarge head
too_large bytes n method e more rest head reads =
    by_limits (leb_tells (length (print_request head)) 16384) (leb_tells (length head.fields) 64)
  where
    by_limits : ((nat_le (length (print_request head)) 16384 ≡ true) × (length (print_request head) ≤ 16384))
        ⊎ ((nat_le (length (print_request head)) 16384 ≡ false) × (16384 < length (print_request head)))
        → ((nat_le (length head.fields) 64 ≡ true) × (length head.fields ≤ 64)) ⊎ ((nat_le (length head.fields) 64 ≡ false) × (64 < length head.fields))
        → IsTooLarge head
    by_limits (inr (f, long)) fields = inl long
    by_limits (inl (t, short)) (inr (f, many)) = inr many
    by_limits (inl (t, short)) (inl (u, few)) = absurd (not_by_rules bytes more rest head n method refusal.HeadTooLarge e refl reads short few)

settled_is : (text : List ℕ) (o : Option Says) → settled_of text o ≡ waits → ⊥
settled_is text None e = cc
settled_is text (Some h) e = by_result (checked h) e
  where
    by_result : (r : Result (Method × Framing) Refusal) → settled_by text h r ≡ waits → ⊥
    by_result (Ok m) e = cc
    by_result (Err w) e = cc

pub still : (bytes : List ℕ) → settled bytes ≡ waits → Going bytes
still bytes e = by_cases (cases bytes)
  where
    by_cases : Cases bytes → Going bytes
    by_cases (inl f) = absurd (settled_is (take (looked bytes).at bytes) (head_of (take (looked bytes).at bytes)) (sym f.settles ∙ e))
    by_cases (inr (inl large)) = absurd (let same = sym large ∙ e in cc)
    by_cases (inr (inr g)) = g

-- while nothing is settled, the bytes begin with no head
pub waiting : (bytes : List ℕ) → settled bytes ≡ waits → (length bytes < 16384) × HasNoRequest bytes
waiting bytes e = (g.short, none)
  where
    g : Going bytes
    g = still bytes e

    none : HasNoRequest bytes
    none head rest reads =
        let fits : length bytes ≤ 16384 = omega (arith, g.short) in
        let end : looked bytes ≡ mk Ended (length (print_request head)) (length head.fields + 1) =
        ap (scanned begin) (take_all 16384 bytes fits ∙ reads.1) ∙ head_scan head rest reads.0 in
        let ended : is_ended (looked bytes).place ≡ true = ap (λ (s : Scan). is_ended s.place) end in
        let open_still = g.going in
        cc

-- ---- a head of the grammar is settled as it reads, whatever follows

pub whole_head : (bytes : List ℕ) (n : ℕ) (head : RequestHead) → HasHead bytes n head → settled bytes ≡ settled_of (take n bytes) (Some (says head))
whole_head bytes n head has =
    let text : List ℕ = print_request head in
    let front : text ≡ take n bytes =
    sym (take-append_seam text (drop n bytes)) ∙ ap (take (length text)) (sym has.reads.1) ∙ ap (λ (k : ℕ). take k bytes) (sym has.size) in
    let short : length text ≤ 16384 = omega (arith, has.size, has.short) in
    ap settled has.reads.1 ∙ settled_print head (drop n bytes) has.reads.0 short has.few
    ∙ ap (λ (t : List ℕ). settled_of t (Some (says head))) front
