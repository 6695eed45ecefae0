-- A head as a function of its bytes agrees with the grammar, both ways.
use Rattle.std.proofs.Common.{◌≡◌, ℕ, ◌+◌, ◌-◌, ◌<◌, ◌≤◌, suc, zero, Bool, true, false, ◌&&◌, List, [], ◌∷◌, ◌++◌, length, drop, refl, sym, ap, subst, ◌∙◌, arith, append_assoc, append-nil, length-append, Option, Some, None, flat_map, IsUtf8, All, map, take, IfSome, IsNone, IsSome, option_map}
use Rattle.std.specs.Prelude.{slice_index}
use Rattle.std.specs.Bool.{Decides}
use Rattle.std.specs.List.{list_all}
use Rattle.std.specs.Str.{bytes_eq, is_utf8}
use Rattle.std.proofs.lemmas.Bool.{leb-true, le-leb}
use Rattle.std.proofs.lemmas.Bool.Decides.{Decides-and, Decides-like, Decides-ltb, Decides-by_and, nat_tests}
use Rattle.std.proofs.lemmas.List.Elements.{All-head, All-tail, All-cons, All-nil, All-weaker}
use Rattle.std.proofs.lemmas.Slice.Eq.{bytes_eq-Decides}
use Rattle.std.proofs.lemmas.Str.{IsUtf8-from_is_utf8, is_utf8-from_IsUtf8, IsUtf8-from_ascii}
use Rattle.std.proofs.lemmas.Str.Ascii.{IsAscii-from_all}
use Rattle.httparse.specs.Grammar.{is_token_byte, is_uri_byte, is_value_byte, is_token, AllPass, IsToken, LineEnd, crlf, lf, print_end, print_blank, print_version, Field, print_field, IsField, print_section, RequestHead, print_request, IsRequestHead, ReadsRequest}
use Rattle.httparse.specs.Pieces.{Stops, is_newline}
use Rattle.httparse.proofs.GrammarLemmas.{print_request-append}
use Rattle.httparse.proofs.PieceLemmas.{Stops_token, Stops_value, Stops-FieldLine, space_ends_token, colon_ends_token, print_field-append}
use Rattle.kapi_http.specs.Head.{Says, says, front, back, end_at, after_end, ends_in, field_at, after_field, with_field, section_at, from_version, from_target, from_method, parts, is_field, is_head, if_printed, head_of, said}
use Rattle.kapi_http.specs.Tied.{HasTexts}
use Rattle.httparse.specs.Spans.{header_bytes, name_and_value, span_bytes}
use Rattle.httparse.specs.declared.spans.HeaderSpan.{HeaderSpan}
use Rattle.httparse.specs.declared.spans.RequestSpans.{RequestSpans}

-- ---- runs of bytes

front_run : (test : ℕ → Bool) (xs r : List ℕ) → AllPass test xs → Stops test r → front test (xs ++ r) ≡ xs
front_run test [] [] all stop = absurd stop
front_run test [] (b ∷ r) all stop = rw stop refl
front_run test (x ∷ xs) r all stop =
    let here : test x ≡ true = All-head (λ v. test v ≡ true) x xs all in
    rw (here, front_run test xs r (All-tail (λ v. test v ≡ true) x xs all) stop) refl

back_run : (test : ℕ → Bool) (xs r : List ℕ) → AllPass test xs → Stops test r → back test (xs ++ r) ≡ r
back_run test [] [] all stop = absurd stop
back_run test [] (b ∷ r) all stop = rw stop refl
back_run test (x ∷ xs) r all stop =
    let here : test x ≡ true = All-head (λ v. test v ≡ true) x xs all in
    rw here (back_run test xs r (All-tail (λ v. test v ≡ true) x xs all) stop)

end_at_print : (end : LineEnd) (r : List ℕ) → end_at (print_end end ++ r) ≡ end
end_at_print crlf r = refl
end_at_print lf r = refl

after_end_print : (end : LineEnd) (r : List ℕ) → after_end (print_end end ++ r) ≡ r
after_end_print crlf r = refl
after_end_print lf r = refl

newline_first : (end : LineEnd) (r : List ℕ) → is_newline (slice_index (print_end end ++ r) 0) ≡ true
newline_first crlf r = refl
newline_first lf r = refl

ends_print : (ends : List LineEnd) → ends_in false (print_blank ends) ≡ ends
ends_print [] = refl
ends_print (crlf ∷ ends) = ap (λ (es : List LineEnd). crlf ∷ es) (ends_print ends)
ends_print (lf ∷ ends) = ap (λ (es : List LineEnd). lf ∷ es) (ends_print ends)

blank_passes : (ends : List LineEnd) → AllPass is_newline (print_blank ends)
blank_passes [] = All-nil (λ v. is_newline v ≡ true)
blank_passes (crlf ∷ ends) =
    All-cons (λ v. is_newline v ≡ true) 13 (10 ∷ print_blank ends) refl (All-cons (λ v. is_newline v ≡ true) 10 (print_blank ends) refl (blank_passes ends))
blank_passes (lf ∷ ends) = All-cons (λ v. is_newline v ≡ true) 10 (print_blank ends) refl (blank_passes ends)

stops_first : (test : ℕ → Bool) (text : List ℕ) → Stops test text → test (slice_index text 0) ≡ false
stops_first test [] stop = absurd stop
stops_first test (b ∷ text) stop = stop

-- ---- field lines

field_print : (f : Field) (r : List ℕ) → IsField f → (field_at (print_field f ++ r) ≡ f) × (after_field (print_field f ++ r) ≡ r)
field_print f r is =
    let line : List ℕ = print_field f ++ r in
    let raw : List ℕ = f.raw ++ (print_end f.end ++ r) in
    let w : line ≡ f.name ++ 58 ∷ raw = print_field-append f r in
    let name : front is_token_byte line ≡ f.name =
    ap (front is_token_byte) w ∙ front_run is_token_byte f.name (58 ∷ raw) is.name.1 colon_ends_token in
    let behind : back is_token_byte line ≡ 58 ∷ raw =
    ap (back is_token_byte) w ∙ back_run is_token_byte f.name (58 ∷ raw) is.name.1 colon_ends_token in
    let value : front is_value_byte (drop 1 (back is_token_byte line)) ≡ f.raw =
    ap (λ (t : List ℕ). front is_value_byte (drop 1 t)) behind
    ∙ front_run is_value_byte f.raw (print_end f.end ++ r) is.raw (Stops_value f.end r) in
    let last : back is_value_byte (drop 1 (back is_token_byte line)) ≡ print_end f.end ++ r =
    ap (λ (t : List ℕ). back is_value_byte (drop 1 t)) behind
    ∙ back_run is_value_byte f.raw (print_end f.end ++ r) is.raw (Stops_value f.end r) in
    let end : end_at (back is_value_byte (drop 1 (back is_token_byte line))) ≡ f.end = ap end_at last ∙ end_at_print f.end r in
    (λ i. record { name = name i; raw = value i; end = end i }, ap after_end last ∙ after_end_print f.end r)

section_step : (n : ℕ) (f : Field) (t : List ℕ) → IsField f
    → section_at (suc n) (print_field f ++ t) ≡ with_field f (section_at n t)
unfolding section_at
section_step n f t is =
    let first : is_newline (slice_index (print_field f ++ t) 0) ≡ false =
    stops_first is_newline (print_field f ++ t) (Stops-FieldLine f (print_field f ++ t) t (is, refl)) in
    let read = field_print f t is in
    rw first (λ i. with_field (read.0 i) (section_at n (read.1 i)))

section_ends : (n : ℕ) (last : LineEnd) (r : List ℕ) → section_at n (print_end last ++ r) ≡ ([], last)
unfolding section_at
section_ends zero last r = λ i. ([], end_at_print last r i)
section_ends (suc n) last r = rw (newline_first last r) (λ i. ([], end_at_print last r i))

section_print : (n : ℕ) (fs : List Field) (last : LineEnd) (r : List ℕ) → length fs ≤ n → All IsField fs
    → section_at n (print_section fs last ++ r) ≡ (fs, last)
section_print n [] last r fits all = section_ends n last r
section_print zero (f ∷ fs) last r fits all = absurd (omega arith)
section_print (suc n) (f ∷ fs) last r fits all =
    let again : print_section (f ∷ fs) last ++ r ≡ print_field f ++ (print_section fs last ++ r) =
    regroup (print_field f) (flat_map print_field fs) (print_end last) r in
    ap (section_at (suc n)) again ∙ section_step n f (print_section fs last ++ r) (All-head IsField f fs all)
    ∙ ap (with_field f) (section_print n fs last r (omega arith) (All-tail IsField f fs all))
  where
    regroup : (a b c d : List ℕ) → ((a ++ b) ++ c) ++ d ≡ a ++ ((b ++ c) ++ d)
    regroup a b c d = simp append_assoc

fields_length : (fs : List Field) → length fs ≤ length (flat_map print_field fs)
fields_length [] = omega arith
fields_length (f ∷ fs) =
    omega (arith, fields_length fs, length-append (print_field f) (flat_map print_field fs), length-append (f.name ++ 58 ∷ f.raw) (print_end f.end), length-append f.name (58 ∷ f.raw))

section_fits : (fs : List Field) (last : LineEnd) (r : List ℕ) → length fs ≤ length (print_section fs last ++ r)
section_fits fs last r =
    omega (arith, fields_length fs, length-append (print_section fs last) r, length-append (flat_map print_field fs) (print_end last))

-- ---- the parts of a head that is printed

minor_print : (minor : ℕ) → (48 + minor) - 48 ≡ minor
minor_print minor = omega arith

version_print : (h : RequestHead) (r : List ℕ) → IsRequestHead h
    → from_version h.blank h.method h.target (print_version h.minor ++ (print_end h.line_end ++ (print_section h.fields h.last ++ r))) ≡ h
version_print h r is =
    let section : List ℕ = print_section h.fields h.last ++ r in
    let text : List ℕ = print_version h.minor ++ (print_end h.line_end ++ section) in
    let fits : length h.fields ≤ length text =
    omega (arith, section_fits h.fields h.last r, length-append (print_version h.minor) (print_end h.line_end ++ section), length-append (print_end h.line_end) section) in
    let read : section_at (length text) (after_end (print_end h.line_end ++ section)) ≡ (h.fields, h.last) =
    ap (section_at (length text)) (after_end_print h.line_end section) ∙ section_print (length text) h.fields h.last r fits is.fields in
    λ i. record {
      blank = h.blank;
      method = h.method;
      target = h.target;
      minor = minor_print h.minor i;
      line_end = end_at_print h.line_end section i;
      fields = (read i).0;
      last = (read i).1;
    }

pub parts_print : (h : RequestHead) (r : List ℕ) → IsRequestHead h → parts (print_request h ++ r) ≡ h
unfolding parts
parts_print h r is =
    let version : List ℕ = print_version h.minor ++ (print_end h.line_end ++ (print_section h.fields h.last ++ r)) in
    let target : List ℕ = h.target ++ 32 ∷ version in
    let method : List ℕ = h.method ++ 32 ∷ target in
    let w : print_request h ++ r ≡ print_blank h.blank ++ method = print_request-append h r in
    let stops = Stops_token h.method (32 ∷ target) is.method.0 is.method.1 in
    let blank : ends_in false (front is_newline (print_request h ++ r)) ≡ h.blank =
    ap (λ (t : List ℕ). ends_in false (front is_newline t)) w
    ∙ ap (ends_in false) (front_run is_newline (print_blank h.blank) method (blank_passes h.blank) stops) ∙ ends_print h.blank in
    let behind : back is_newline (print_request h ++ r) ≡ method =
    ap (back is_newline) w ∙ back_run is_newline (print_blank h.blank) method (blank_passes h.blank) stops in
    let method_is : front is_token_byte method ≡ h.method =
    front_run is_token_byte h.method (32 ∷ target) is.method.1 space_ends_token in
    let after_method : drop 1 (back is_token_byte method) ≡ target =
    ap (drop 1) (back_run is_token_byte h.method (32 ∷ target) is.method.1 space_ends_token) in
    let target_is : front is_uri_byte target ≡ h.target = front_run is_uri_byte h.target (32 ∷ version) is.target.1 refl in
    let after_target : drop 1 (back is_uri_byte target) ≡ version =
    ap (drop 1) (back_run is_uri_byte h.target (32 ∷ version) is.target.1 refl) in
    let first : from_method (ends_in false (front is_newline (print_request h ++ r))) (back is_newline (print_request h ++ r))
    ≡ from_method h.blank method = λ i. from_method (blank i) (behind i) in
    let second : from_method h.blank method ≡ from_target h.blank h.method target =
    λ i. from_target h.blank (method_is i) (after_method i) in
    let third : from_target h.blank h.method target ≡ from_version h.blank h.method h.target version =
    λ i. from_version h.blank h.method (target_is i) (after_target i) in
    first ∙ second ∙ third ∙ version_print h r is

-- ---- the test of a head

all_decides : (test : ℕ → Bool) (bytes : List ℕ) → Decides (list_all test bytes) (AllPass test bytes)
all_decides test bytes =
    Decides-by_and test (λ v. test v ≡ true) (list_all test) (λ v. (λ e. e, λ e. e)) refl (λ _ _. refl) bytes

token_decides : (bytes : List ℕ) → Decides (is_token bytes) (IsToken bytes)
token_decides bytes = Decides-and _ _ (Decides-ltb 0 (length bytes)) (all_decides is_token_byte bytes)

field_decides : (f : Field) → Decides (is_field f) (IsField f)
field_decides f =
    Decides-like (is_field f) (λ (p : IsToken f.name × AllPass is_value_byte f.raw). record { name = p.0; raw = p.1 })
    (λ is. (is.name, is.raw)) (Decides-and _ _ (token_decides f.name) (all_decides is_value_byte f.raw))

head_decides : (h : RequestHead) → Decides (is_head h) (IsRequestHead h)
unfolding is_head
head_decides h =
    let target = Decides-and _ _ (Decides-ltb 0 (length h.target)) (all_decides is_uri_byte h.target) in
    let text : Decides (is_utf8 h.target) (IsUtf8 h.target) = (IsUtf8-from_is_utf8 h.target, is_utf8-from_IsUtf8 h.target) in
    let fields = Decides-by_and is_field IsField (list_all is_field) field_decides refl (λ _ _. refl) h.fields in
    let minor : Decides _ (h.minor ≤ 1) = (leb-true h.minor 1, le-leb h.minor 1) in
    let rest = Decides-and _ _ text (Decides-and _ _ minor fields) in
    Decides-like (is_head h) (λ p. record { method = p.0; target = p.1.0; target_text = p.1.1.0; minor = p.1.1.1.0; fields = p.1.1.1.1 })
    (λ is. (is.method, (is.target, (is.target_text, (is.minor, is.fields)))))
    (Decides-and _ _ (token_decides h.method) (Decides-and _ _ target rest))

-- ---- what the bytes of a head say

-- what is read is a head of the grammar that is all of the bytes
pub head_of_sound : (bytes : List ℕ) (s : Says) → head_of bytes ≡ Some s
    → (h : RequestHead) × ReadsRequest bytes h [] × (says h ≡ s)
unfolding head_of
head_of_sound bytes s e = by_test (is_head (parts bytes) && bytes_eq bytes (print_request (parts bytes))) refl
  where
    by_test : (b : Bool) → (is_head (parts bytes) && bytes_eq bytes (print_request (parts bytes))) ≡ b
        → (h : RequestHead) × ReadsRequest bytes h [] × (says h ≡ s)
    by_test true t =
        let both = (Decides-and _ _ (head_decides (parts bytes)) (bytes_eq-Decides bytes (print_request (parts bytes)))).0 t in
        let found = rw t at e in
        (parts bytes, (both.0, both.1 ∙ sym (append-nil (print_request (parts bytes)))), cc)
    by_test false t = absurd (let none = rw t at e in cc)

-- a head of the grammar that is all of the bytes is read
pub head_of_whole : (bytes : List ℕ) (h : RequestHead) → ReadsRequest bytes h [] → head_of bytes ≡ Some (says h)
unfolding head_of
head_of_whole bytes h reads =
    let same : parts bytes ≡ h = ap parts reads.1 ∙ parts_print h [] reads.0 in
    let valid : is_head h ≡ true = (head_decides h).1 reads.0 in
    let printed : bytes_eq bytes (print_request h) ≡ true =
    (bytes_eq-Decides bytes (print_request h)).1 (reads.1 ∙ append-nil (print_request h)) in
    ap (if_printed bytes) same ∙ rw (valid, printed) refl

-- if the bytes are no head, nothing is read
pub head_of_none : (bytes : List ℕ) → ((h : RequestHead) → ¬ (ReadsRequest bytes h [])) → head_of bytes ≡ None
head_of_none bytes none = by_answer (head_of bytes) refl
  where
    by_answer : (o : Option Says) → head_of bytes ≡ o → head_of bytes ≡ None
    by_answer None e = e
    by_answer (Some s) e = let found = head_of_sound bytes s e in absurd (none found.0 found.1)

-- ---- texts in a head

token_is_ascii : (b : ℕ) → is_token_byte b ≡ true → b < 128
unfolding is_token_byte
token_is_ascii b token = grind (arith, nat_tests)

-- a token is ASCII, and so UTF-8
pub token_text : (bytes : List ℕ) → AllPass is_token_byte bytes → IsUtf8 bytes
token_text bytes all =
    IsUtf8-from_ascii bytes (IsAscii-from_all bytes
    (All-weaker (λ b. is_token_byte b ≡ true) (λ b. b < 128) token_is_ascii bytes all))

-- the names of fields are UTF-8
fields_text : (bytes : List ℕ) (fs : List Field) (spans : List HeaderSpan) → All IsField fs
    → map (header_bytes bytes) spans ≡ map name_and_value fs → All (λ h. IsUtf8 (span_bytes bytes h.name)) spans
fields_text bytes fs [] all e = All-nil (λ (h : HeaderSpan). IsUtf8 (span_bytes bytes h.name))
fields_text bytes [] (s ∷ spans) all e = absurd cc
fields_text bytes (f ∷ fs) (s ∷ spans) all e =
    let is : IsField f = All-head IsField f fs all in
    let here : header_bytes bytes s ≡ name_and_value f = cc in
    let same : span_bytes bytes s.name ≡ f.name = ap (λ (p : List ℕ × List ℕ). p.0) here in
    let rest : map (header_bytes bytes) spans ≡ map name_and_value fs = cc in
    All-cons (λ (h : HeaderSpan). IsUtf8 (span_bytes bytes h.name)) s spans
    (let P : List ℕ → Type 0 = IsUtf8 in subst P (sym same) (token_text f.name is.name.1))
    (fields_text bytes fs spans (All-tail IsField f fs all) rest)

-- the texts of a head are UTF-8
pub head_texts : (bytes : List ℕ) (line : RequestSpans) (spans : List HeaderSpan) (h : RequestHead) → IsRequestHead h
    → said bytes line spans ≡ says h → HasTexts bytes line spans
head_texts bytes line spans h is e =
    let P : List ℕ → Type 0 = IsUtf8 in record {
      method = subst P (sym (ap (λ (s : Says). s.method) e)) (token_text h.method is.method.1);
      target = subst P (sym (ap (λ (s : Says). s.target) e)) is.target_text;
      names = fields_text bytes h.fields spans is.fields (ap (λ (s : Says). s.fields) e);
    }

-- the answer of a parser: the head that it found, or certainty that there is none
pub read_exact : (bytes : List ℕ) (o : Option RequestSpans) (spans : List HeaderSpan)
    → IfSome o (λ r. (h : RequestHead) × ReadsRequest bytes h [] × (said bytes r (take r.headers spans) ≡ says h))
    → (IsNone o → (h : RequestHead) → ¬ (ReadsRequest bytes h []))
    → option_map (λ r. said bytes r (take r.headers spans)) o ≡ head_of bytes
read_exact bytes None spans some none = sym (head_of_none bytes (none refl))
read_exact bytes (Some r) spans some none = ap Some some.2 ∙ sym (head_of_whole bytes some.0 some.1)

pub read_texts : (bytes : List ℕ) (o : Option RequestSpans) (spans : List HeaderSpan)
    → IfSome o (λ r. (h : RequestHead) × ReadsRequest bytes h [] × (said bytes r (take r.headers spans) ≡ says h))
    → IfSome o (λ r. HasTexts bytes r (take r.headers spans))
read_texts bytes None spans some = tt
read_texts bytes (Some r) spans some = head_texts bytes r (take r.headers spans) some.0 some.1.0 some.2

-- what is read is a head of the grammar
pub head_of_read : (bytes : List ℕ) → IsSome (head_of bytes)
    → (h : RequestHead) × ReadsRequest bytes h [] × (head_of bytes ≡ Some (says h))
head_of_read bytes some = by_answer (head_of bytes) refl
  where
    by_answer : (o : Option Says) → head_of bytes ≡ o → (h : RequestHead) × ReadsRequest bytes h [] × (head_of bytes ≡ Some (says h))
    by_answer None e = absurd (let found = rw e at some in cc)
    by_answer (Some s) e = let read = head_of_sound bytes s e in (read.0, read.1, e ∙ ap Some (sym read.2))
