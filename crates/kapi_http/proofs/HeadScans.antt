-- Scans of heads that the grammar prints.
use Rattle.std.proofs.Common.{◌≡◌, ◌≢◌, ℕ, ◌+◌, Bool, true, false, List, [], ◌∷◌, ◌++◌, length, take, refl, sym, ap, subst, ◌∙◌, arith, append_assoc, append-nil, length-append, flat_map, All}
use Rattle.std.specs.Prelude.{◌==◌, ⊤}
use Rattle.std.proofs.lemmas.Bool.{ne_eqb}
use Rattle.std.proofs.lemmas.Bool.Decides.{nat_tests}
use Rattle.std.proofs.lemmas.List.Elements.{All-head, All-tail}
use Rattle.httparse.specs.Grammar.{is_token_byte, is_uri_byte, is_value_byte, AllPass, LineEnd, crlf, lf, print_end, print_blank, print_version, Field, print_field, IsField, print_section, RequestHead, print_request, IsRequestHead}
use Rattle.httparse.specs.Pieces.{Stops, is_newline}
use Rattle.httparse.proofs.GrammarLemmas.{print_request-append, cons-append}
use Rattle.httparse.proofs.PieceLemmas.{Stops_token}
use Rattle.kapi_http.specs.Scan.{begin, is_ended, lines_ended, next_place, scanned}
use Rattle.kapi_http.proofs.Scanning.{scanned_ended, scanned_take}
use Rattle.kapi_http.specs.Tied.{HasLines}
use Rattle.kapi_http.specs.declared.scan.HeadState.{HeadState}
use Rattle.kapi_http.specs.declared.scan.HeadState.TheVariants.{Leading, Inside, LineStart, Ended}
use Rattle.kapi_http.specs.declared.scan.Scan.{Scan}

-- ---- lines

abbrev pub mk : HeadState → ℕ → ℕ → Scan
mk p n l = record { place = p; at = n; lines = l }

-- no byte is LF
abbrev NoLf : List ℕ → Type 0
NoLf [] = ⊤
NoLf (b ∷ bytes) = ((b == 10) ≡ false) × NoLf bytes

no_lf_append : (a b : List ℕ) → NoLf a → NoLf b → NoLf (a ++ b)
no_lf_append [] b x y = y
no_lf_append (c ∷ a) b x y = (x.0, no_lf_append a b x.1 y)

-- a class of bytes without LF
no_lf_in : (test : ℕ → Bool) → test 10 ≡ false → (bytes : List ℕ) → AllPass test bytes → NoLf bytes
no_lf_in test none [] all = tt
no_lf_in test none (b ∷ bytes) all =
    let here : test b ≡ true = All-head (λ v. test v ≡ true) b bytes all in
    let other : b ≢ 10 = λ e. let there : test 10 ≡ true = subst (λ (v : ℕ). test v ≡ true) e here in cc in
    (ne_eqb b 10 other, no_lf_in test none bytes (All-tail (λ v. test v ≡ true) b bytes all))

inside_run : (bytes r : List ℕ) (n l : ℕ) → NoLf bytes → scanned (mk Inside n l) (bytes ++ r) ≡ scanned (mk Inside (n + length bytes) l) r
unfolding scanned
inside_run [] r n l none = ap (λ (m : ℕ). scanned (mk Inside m l) r) (omega arith)
inside_run (b ∷ bytes) r n l none =
    rw none.0 (ap (λ (k : ℕ). scanned (mk Inside (n + 1) k) (bytes ++ r)) (omega arith)
    ∙ inside_run bytes r (n + 1) l none.1 ∙ ap (λ (m : ℕ). scanned (mk Inside m l) r) (omega arith))

same_scan : (p : HeadState) (n m l k : ℕ) (r : List ℕ) → n ≡ m → l ≡ k → scanned (mk p n l) r ≡ scanned (mk p m k) r
same_scan p n m l k r e f = λ i. scanned (mk p (e i) (f i)) r

end_inside : (end : LineEnd) (r : List ℕ) (n l : ℕ)
    → scanned (mk Inside n l) (print_end end ++ r) ≡ scanned (mk LineStart (n + length (print_end end)) (l + 1)) r
unfolding scanned
end_inside crlf r n l = same_scan LineStart (n + 1 + 1) (n + 2) (l + 0 + 1) (l + 1) r (omega arith) (omega arith)
end_inside lf r n l = refl

pub end_last : (end : LineEnd) (r : List ℕ) (n l : ℕ) → scanned (mk LineStart n l) (print_end end ++ r) ≡ mk Ended (n + length (print_end end)) l
unfolding scanned
end_last crlf r n l =
    same_scan Ended (n + 1 + 1) (n + 2) (l + 0 + 0) l r (omega arith) (omega arith) ∙ scanned_ended (mk Ended (n + 2) l) r refl
end_last lf r n l = same_scan Ended (n + 1) (n + 1) (l + 0) l r refl (omega arith) ∙ scanned_ended (mk Ended (n + 1) l) r refl

pub blank_scan : (ends : List LineEnd) (r : List ℕ) (n l : ℕ)
    → scanned (mk Leading n l) (print_blank ends ++ r) ≡ scanned (mk Leading (n + length (print_blank ends)) l) r
unfolding scanned
blank_scan [] r n l = same_scan Leading n (n + 0) l l r (omega arith) refl
blank_scan (crlf ∷ ends) r n l =
    same_scan Leading (n + 1 + 1) (n + 2) (l + 0 + 0) l (print_blank ends ++ r) (omega arith) (omega arith)
    ∙ blank_scan ends r (n + 2) l
    ∙ same_scan Leading (n + 2 + length (print_blank ends)) (n + (2 + length (print_blank ends))) l l r (omega arith) refl
    ∙ same_scan Leading (n + (2 + length (print_blank ends))) (n + length (print_blank (crlf ∷ ends))) l l r (omega arith) refl
blank_scan (lf ∷ ends) r n l =
    same_scan Leading (n + 1) (n + 1) (l + 0) l (print_blank ends ++ r) refl (omega arith)
    ∙ blank_scan ends r (n + 1) l
    ∙ same_scan Leading (n + 1 + length (print_blank ends)) (n + length (print_blank (lf ∷ ends))) l l r (omega arith) refl

-- a line that is not empty, from a place at the start of a line
line_scan : (p : HeadState) → is_ended p ≡ false → ((b : ℕ) → is_newline b ≡ false → next_place p b ≡ Inside)
    → ((b : ℕ) → lines_ended p b ≡ 0) → (text : List ℕ) (end : LineEnd) (r : List ℕ) (n l : ℕ)
    → Stops is_newline text → NoLf text
    → scanned (mk p n l) (text ++ (print_end end ++ r)) ≡ scanned (mk LineStart (n + length text + length (print_end end)) (l + 1)) r
unfolding scanned
line_scan p going enters quiet [] end r n l stop none = absurd stop
line_scan p going enters quiet (b ∷ text) end r n l stop none =
    rw (going, enters b stop, quiet b) (
    same_scan Inside (n + 1) (n + 1) (l + 0) l (text ++ (print_end end ++ r)) refl (omega arith)
    ∙ inside_run text (print_end end ++ r) (n + 1) l none.1
    ∙ end_inside end r (n + 1 + length text) l
    ∙ same_scan LineStart (n + 1 + length text + length (print_end end)) (n + length (b ∷ text) + length (print_end end)) (l + 1) (l + 1) r (omega arith) refl
    )

-- a byte other than CR and LF begins a line with content
enters_leading : (b : ℕ) → is_newline b ≡ false → next_place Leading b ≡ Inside
enters_leading b e = grind (arith, nat_tests)

enters_start : (b : ℕ) → is_newline b ≡ false → next_place LineStart b ≡ Inside
enters_start b e = grind (arith, nat_tests)

-- ---- heads

token_no_lf : is_token_byte 10 ≡ false
unfolding is_token_byte
token_no_lf = refl

field_scan : (f : Field) (r : List ℕ) (n l : ℕ) → IsField f
    → scanned (mk LineStart n l) (print_field f ++ r) ≡ scanned (mk LineStart (n + length (print_field f)) (l + 1)) r
field_scan f r n l is =
    let text : List ℕ = f.name ++ 58 ∷ f.raw in
    let none : NoLf text =
    no_lf_append f.name (58 ∷ f.raw) (no_lf_in is_token_byte token_no_lf f.name is.name.1) (refl, no_lf_in is_value_byte refl f.raw is.raw) in
    ap (scanned (mk LineStart n l)) (append_assoc text (print_end f.end) r)
    ∙ line_scan LineStart refl enters_start (λ b. refl) text f.end r n l (Stops_token f.name (58 ∷ f.raw) is.name.0 is.name.1) none
    ∙ same_scan LineStart (n + length text + length (print_end f.end)) (n + length (print_field f)) (l + 1) (l + 1) r
    (omega (arith, length-append text (print_end f.end))) refl

section_scan : (fs : List Field) (last : LineEnd) (r : List ℕ) (n l : ℕ) → All IsField fs
    → scanned (mk LineStart n l) (print_section fs last ++ r) ≡ mk Ended (n + length (print_section fs last)) (l + length fs)
section_scan [] last r n l all =
    end_last last r n l ∙ (λ i. mk Ended (n + length (print_end last)) (plain i))
  where
    plain : l ≡ l + 0
    plain = omega arith
section_scan (f ∷ fs) last r n l all =
    ap (scanned (mk LineStart n l)) (regroup (print_field f) (flat_map print_field fs) (print_end last) r)
    ∙ field_scan f (print_section fs last ++ r) n l (All-head IsField f fs all)
    ∙ section_scan fs last r (n + length (print_field f)) (l + 1) (All-tail IsField f fs all)
    ∙ (λ i. mk Ended (places i) (counts i))
  where
    regroup : (a b c d : List ℕ) → ((a ++ b) ++ c) ++ d ≡ a ++ ((b ++ c) ++ d)
    regroup a b c d = simp append_assoc

    places : n + length (print_field f) + length (print_section fs last) ≡ n + length (print_section (f ∷ fs) last)
    places =
        omega (arith, length-append (flat_map print_field fs) (print_end last), length-append (print_field f ++ flat_map print_field fs) (print_end last), length-append (print_field f) (flat_map print_field fs))

    counts : l + 1 + length fs ≡ l + length (f ∷ fs)
    counts = omega arith

-- the request line of a head
abbrev start_line : RequestHead → List ℕ
start_line h = h.method ++ 32 ∷ (h.target ++ 32 ∷ print_version h.minor)

-- a head that the grammar prints ends where it is printed to the end, and has a line for each field and one more
pub head_scan : (h : RequestHead) (r : List ℕ) → IsRequestHead h
    → scanned begin (print_request h ++ r) ≡ mk Ended (length (print_request h)) (length h.fields + 1)
head_scan h r is =
    let text : List ℕ = start_line h in
    let section : List ℕ = print_section h.fields h.last in
    let digit : ((48 + h.minor) == 10) ≡ false = ne_eqb (48 + h.minor) 10 (λ e. omega arith) in
    let version : NoLf (print_version h.minor) = (refl, (refl, (refl, (refl, (refl, (refl, (refl, (digit, tt)))))))) in
    let none : NoLf text =
    no_lf_append h.method _ (no_lf_in is_token_byte token_no_lf h.method is.method.1)
    (refl, no_lf_append h.target _ (no_lf_in is_uri_byte refl h.target is.target.1) (refl, version)) in
    ap (scanned begin) (print_request-append h r ∙ regroup (print_blank h.blank) h.method h.target (print_version h.minor) (print_end h.line_end) section r)
    ∙ blank_scan h.blank (text ++ (print_end h.line_end ++ (section ++ r))) 0 0
    ∙ line_scan Leading refl enters_leading (λ b. refl) text h.line_end (section ++ r) (0 + length (print_blank h.blank)) 0 (Stops_token h.method _ is.method.0 is.method.1) none
    ∙ section_scan h.fields h.last r (0 + length (print_blank h.blank) + length text + length (print_end h.line_end)) (0 + 1) is.fields
    ∙ (λ i. mk Ended (places i) (counts i))
  where
    regroup : (a b c d e f r : List ℕ) → a ++ (b ++ 32 ∷ (c ++ 32 ∷ (d ++ (e ++ (f ++ r))))) ≡ a ++ ((b ++ 32 ∷ (c ++ 32 ∷ d)) ++ (e ++ (f ++ r)))
    regroup a b c d e f r = simp (append_assoc, cons-append)

    whole : print_request h ≡ print_blank h.blank ++ (start_line h ++ (print_end h.line_end ++ print_section h.fields h.last))
    whole =
        sym (append-nil (print_request h)) ∙ print_request-append h []
        ∙ regroup (print_blank h.blank) h.method h.target (print_version h.minor) (print_end h.line_end) (print_section h.fields h.last) []
        ∙ ap (λ (t : List ℕ). print_blank h.blank ++ (start_line h ++ (print_end h.line_end ++ t))) (append-nil (print_section h.fields h.last))

    places : 0 + length (print_blank h.blank) + length (start_line h) + length (print_end h.line_end) + length (print_section h.fields h.last) ≡ length (print_request h)
    places =
        omega (arith, ap length whole, length-append (print_blank h.blank) (start_line h ++ (print_end h.line_end ++ print_section h.fields h.last)), length-append (start_line h) (print_end h.line_end ++ print_section h.fields h.last), length-append (print_end h.line_end) (print_section h.fields h.last))

    counts : 0 + 1 + length h.fields ≡ length h.fields + 1
    counts = omega arith

-- where a scan ended, the bytes that it read have a line for each field and one more
pub ended_lines : (bytes : List ℕ) → is_ended (scanned begin bytes).place ≡ true
    → HasLines (scanned begin bytes).lines (take (scanned begin bytes).at bytes)
ended_lines bytes e h reads =
    let front = scanned_take begin bytes in
    let same : front.0 ≡ (scanned begin bytes).at = omega (arith, front.2) in
    let again : scanned begin (take (scanned begin bytes).at bytes) ≡ scanned begin bytes =
    subst (λ (n : ℕ). scanned begin (take n bytes) ≡ scanned begin bytes) same front.3 in
    ap (λ (s : Scan). s.lines) (sym again ∙ ap (scanned begin) reads.1 ∙ head_scan h [] reads.0)
