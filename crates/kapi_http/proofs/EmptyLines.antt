-- A head ends at the first empty line behind a line that is not empty.
use Rattle.std.proofs.Common.{◌≡◌, ◌≢◌, ℕ, ◌+◌, ◌<◌, ◌≤◌, ◌⊎◌, inl, inr, Bool, true, false, List, [], ◌∷◌, ◌++◌, length, refl, sym, ap, subst, ◌∙◌, arith, append_assoc}
use Rattle.std.specs.Prelude.{◌==◌, if◌then◌else◌, ⊤}
use Rattle.std.proofs.lemmas.Bool.Decides.{eqb_tells}
use Rattle.std.proofs.lemmas.List.{take_all}
use Rattle.httparse.specs.Grammar.{LineEnd, crlf, lf, print_blank, print_end}
use Rattle.kapi_http.specs.Cut.{waits, settled}
use Rattle.kapi_http.specs.Requests.{HasEmptyLine}
use Rattle.kapi_http.specs.Scan.{begin, is_ended, lines_ended, next_place, scanned}
use Rattle.kapi_http.specs.declared.scan.HeadState.{HeadState}
use Rattle.kapi_http.specs.declared.scan.HeadState.TheVariants.{Leading, LeadingCr, Inside, LineStart, LineCr, Ended}
use Rattle.kapi_http.specs.declared.scan.Scan.{Scan}
use Rattle.kapi_http.proofs.HeadEnds.{Going, looked, still}
use Rattle.kapi_http.proofs.HeadScans.{blank_scan, end_last, mk}
use Rattle.kapi_http.proofs.Scanning.{scanned_append, scanned_ended}
use Rattle.kapi_http.proofs.Settling.{settled_short}

-- ---- a scan that ended came by an empty line

-- an empty line behind an LF
record Closes (bytes : List ℕ) : Type 0 where
  line : List ℕ
  last : LineEnd
  more : List ℕ
  whole : bytes ≡ line ++ 10 ∷ (print_end last ++ more)

-- an empty line in front
record Empty (bytes : List ℕ) : Type 0 where
  last : LineEnd
  more : List ℕ
  whole : bytes ≡ print_end last ++ more

-- what the bytes from a place on have, where the scan ends among them; a CR that was read is counted in
abbrev Found : HeadState → List ℕ → Type 0
Found Leading bytes = HasEmptyLine bytes
Found LeadingCr bytes = HasEmptyLine (13 ∷ bytes)
Found Inside bytes = Closes bytes
Found LineStart bytes = Empty bytes ⊎ Closes bytes
Found LineCr bytes = Empty (13 ∷ bytes) ⊎ Closes (13 ∷ bytes)
Found Ended bytes = ⊤

abbrev Ends : HeadState → ℕ → ℕ → List ℕ → Type 0
Ends p n l bytes = is_ended (scanned (mk p n l) bytes).place ≡ true

-- whether a byte is this one
abbrev IsSameOrOther : ℕ → ℕ → Type 0
IsSameOrOther a b = (((a == b) ≡ true) × (a ≡ b)) ⊎ (((a == b) ≡ false) × (a ≢ b))

longer : (b : ℕ) (bytes : List ℕ) → Closes bytes → Closes (b ∷ bytes)
longer b bytes c =
    record { line = b ∷ c.line; last = c.last; more = c.more; whole = ap (λ (t : List ℕ). b ∷ t) c.whole }

line_fed : (bytes : List ℕ) → Empty bytes ⊎ Closes bytes → Closes (10 ∷ bytes)
line_fed bytes (inl e) =
    record { line = []; last = e.last; more = e.more; whole = ap (λ (t : List ℕ). 10 ∷ t) e.whole }
line_fed bytes (inr c) = longer 10 bytes c

blank_more : (end : LineEnd) (bytes : List ℕ) → HasEmptyLine bytes → HasEmptyLine (print_end end ++ bytes)
blank_more end bytes h = record {
  blank = end ∷ h.blank;
  line = h.line;
  last = h.last;
  more = h.more;
  whole = ap (λ (t : List ℕ). print_end end ++ t) h.whole ∙ sym (append_assoc (print_end end) (print_blank h.blank) _);
  some = h.some;
}

begins : (b : ℕ) (bytes : List ℕ) → b ≢ 10 → b ≢ 13 → Closes bytes → HasEmptyLine (b ∷ bytes)
begins b bytes no_lf no_cr c = record {
  blank = [];
  line = b ∷ c.line;
  last = c.last;
  more = c.more;
  whole = ap (λ (t : List ℕ). b ∷ t) c.whole;
  some = other;
}
  where
    other : (end : LineEnd) (rest : List ℕ) → b ∷ (c.line ++ 10 ∷ []) ≡ print_end end ++ rest → ⊥
    other crlf rest e = let same : b ≡ 13 = cc in no_cr same
    other lf rest e = let same : b ≡ 10 = cc in no_lf same

begins_cr : (b : ℕ) (bytes : List ℕ) → b ≢ 10 → Closes bytes → HasEmptyLine (13 ∷ b ∷ bytes)
begins_cr b bytes no_lf c = record {
  blank = [];
  line = 13 ∷ b ∷ c.line;
  last = c.last;
  more = c.more;
  whole = ap (λ (t : List ℕ). 13 ∷ b ∷ t) c.whole;
  some = other;
}
  where
    other : (end : LineEnd) (rest : List ℕ) → 13 ∷ b ∷ (c.line ++ 10 ∷ []) ≡ print_end end ++ rest → ⊥
    other crlf rest e = let same : b ≡ 10 = cc in no_lf same
    other lf rest e = cc

ends_by : (bytes : List ℕ) (p : HeadState) (n l : ℕ) → Ends p n l bytes → Found p bytes
unfolding scanned
ends_by [] Leading n l e = absurd cc
ends_by [] LeadingCr n l e = absurd cc
ends_by [] Inside n l e = absurd cc
ends_by [] LineStart n l e = absurd cc
ends_by [] LineCr n l e = absurd cc
ends_by [] Ended n l e = tt
ends_by (b ∷ bytes) Leading n l e = by_byte (eqb_tells b 10) (eqb_tells b 13) (ends_by bytes)
  where
    by_byte : IsSameOrOther b 10 → IsSameOrOther b 13 → ((p : HeadState) (n l : ℕ) → Ends p n l bytes → Found p bytes) → HasEmptyLine (b ∷ bytes)
    by_byte (inl (t, same)) cr again =
        let rest = rw t at e in
        subst (λ (v : ℕ). HasEmptyLine (v ∷ bytes)) (sym same) (blank_more lf bytes (again Leading (n + 1) (l + 0) rest))
    by_byte (inr (f, other)) (inl (t, same)) again =
        let rest = rw (f, t) at e in
        subst (λ (v : ℕ). HasEmptyLine (v ∷ bytes)) (sym same) (again LeadingCr (n + 1) (l + 0) rest)
    by_byte (inr (f, other)) (inr (g, another)) again =
        let rest = rw (f, g) at e in begins b bytes other another (again Inside (n + 1) (l + 0) rest)
ends_by (b ∷ bytes) LeadingCr n l e = by_byte (eqb_tells b 10) (ends_by bytes)
  where
    by_byte : IsSameOrOther b 10 → ((p : HeadState) (n l : ℕ) → Ends p n l bytes → Found p bytes) → HasEmptyLine (13 ∷ b ∷ bytes)
    by_byte (inl (t, same)) again =
        let rest = rw t at e in
        subst (λ (v : ℕ). HasEmptyLine (13 ∷ v ∷ bytes)) (sym same) (blank_more crlf bytes (again Leading (n + 1) (l + 0) rest))
    by_byte (inr (f, other)) again =
        let rest = rw f at e in begins_cr b bytes other (again Inside (n + 1) (l + 0) rest)
ends_by (b ∷ bytes) Inside n l e = by_byte (eqb_tells b 10) (ends_by bytes)
  where
    by_byte : IsSameOrOther b 10 → ((p : HeadState) (n l : ℕ) → Ends p n l bytes → Found p bytes) → Closes (b ∷ bytes)
    by_byte (inl (t, same)) again =
        let rest = rw t at e in
        subst (λ (v : ℕ). Closes (v ∷ bytes)) (sym same) (line_fed bytes (again LineStart (n + 1) (l + 1) rest))
    by_byte (inr (f, other)) again =
        let rest = rw f at e in longer b bytes (again Inside (n + 1) (l + 0) rest)
ends_by (b ∷ bytes) LineStart n l e = by_byte (eqb_tells b 10) (eqb_tells b 13) (ends_by bytes)
  where
    by_byte : IsSameOrOther b 10 → IsSameOrOther b 13 → ((p : HeadState) (n l : ℕ) → Ends p n l bytes → Found p bytes) → Empty (b ∷ bytes) ⊎ Closes (b ∷ bytes)
    by_byte (inl (t, same)) cr again = inl (record { last = lf; more = bytes; whole = ap (λ (v : ℕ). v ∷ bytes) same })
    by_byte (inr (f, other)) (inl (t, same)) again =
        let rest = rw (f, t) at e in
        subst (λ (v : ℕ). Empty (v ∷ bytes) ⊎ Closes (v ∷ bytes)) (sym same) (again LineCr (n + 1) (l + 0) rest)
    by_byte (inr (f, other)) (inr (g, another)) again =
        let rest = rw (f, g) at e in inr (longer b bytes (again Inside (n + 1) (l + 0) rest))
ends_by (b ∷ bytes) LineCr n l e = by_byte (eqb_tells b 10) (ends_by bytes)
  where
    by_byte : IsSameOrOther b 10 → ((p : HeadState) (n l : ℕ) → Ends p n l bytes → Found p bytes) → Empty (13 ∷ b ∷ bytes) ⊎ Closes (13 ∷ b ∷ bytes)
    by_byte (inl (t, same)) again = inl (record { last = crlf; more = bytes; whole = ap (λ (v : ℕ). 13 ∷ v ∷ bytes) same })
    by_byte (inr (f, other)) again =
        let rest = rw f at e in inr (longer 13 (b ∷ bytes) (longer b bytes (again Inside (n + 1) (l + 0) rest)))
ends_by (b ∷ bytes) Ended n l e = tt

-- ---- a scan ends at an empty line

-- the request line has not begun
abbrev is_leading : HeadState → Bool
is_leading Leading = true
is_leading LeadingCr = true
is_leading Inside = false
is_leading LineStart = false
is_leading LineCr = false
is_leading Ended = false

begun_next : (p : HeadState) (b : ℕ) → is_leading p ≡ false → is_leading (next_place p b) ≡ false
begun_next Leading b e = absurd cc
begun_next LeadingCr b e = absurd cc
begun_next Inside b e = by_byte (b == 10)
  where
    by_byte : (t : Bool) → is_leading (if t then LineStart else Inside) ≡ false
    by_byte true = refl
    by_byte false = refl
begun_next LineStart b e = by_byte (b == 10) (b == 13)
  where
    by_byte : (t u : Bool) → is_leading (if t then Ended else if u then LineCr else Inside) ≡ false
    by_byte true u = refl
    by_byte false true = refl
    by_byte false false = refl
begun_next LineCr b e = by_byte (b == 10)
  where
    by_byte : (t : Bool) → is_leading (if t then Ended else Inside) ≡ false
    by_byte true = refl
    by_byte false = refl
begun_next Ended b e = refl

begun_stays : (bytes : List ℕ) (p : HeadState) (n l : ℕ) → is_leading p ≡ false → is_leading (scanned (mk p n l) bytes).place ≡ false
unfolding scanned
begun_stays [] p n l e = e
begun_stays (b ∷ bytes) p n l e =
    by_end (is_ended p) refl (begun_stays bytes (next_place p b) (n + 1) (l + lines_ended p b) (begun_next p b e))
  where
    by_end : (t : Bool) → is_ended p ≡ t → is_leading (scanned (mk (next_place p b) (n + 1) (l + lines_ended p b)) bytes).place ≡ false
        → is_leading (scanned (mk p n l) (b ∷ bytes)).place ≡ false
    by_end true t more = rw t e
    by_end false t more = rw t more

-- bytes that do not begin with an empty line
abbrev Starts : List ℕ → Type 0
Starts line = (end : LineEnd) (rest : List ℕ) → ¬ (line ++ 10 ∷ [] ≡ print_end end ++ rest)

line_begins : (line : List ℕ) (n l : ℕ) → Starts line → is_leading (scanned (mk Leading n l) line).place ≡ false
unfolding scanned
line_begins [] n l some = absurd (some lf [] refl)
line_begins (b ∷ []) n l some = by_byte (eqb_tells b 10) (eqb_tells b 13)
  where
    by_byte : IsSameOrOther b 10 → IsSameOrOther b 13 → is_leading (scanned (mk Leading n l) (b ∷ [])).place ≡ false
    by_byte (inl (t, same)) cr = absurd (some lf (10 ∷ []) (ap (λ (v : ℕ). v ∷ 10 ∷ []) same))
    by_byte (inr (f, other)) (inl (t, same)) = absurd (some crlf [] (ap (λ (v : ℕ). v ∷ 10 ∷ []) same))
    by_byte (inr (f, other)) (inr (g, another)) = rw (f, g) refl
line_begins (b ∷ c ∷ line) n l some = by_byte (eqb_tells b 10) (eqb_tells b 13) (eqb_tells c 10)
  where
    by_byte : IsSameOrOther b 10 → IsSameOrOther b 13 → IsSameOrOther c 10 → is_leading (scanned (mk Leading n l) (b ∷ c ∷ line)).place ≡ false
    by_byte (inl (t, same)) cr next = absurd (some lf (c ∷ (line ++ 10 ∷ [])) (ap (λ (v : ℕ). v ∷ c ∷ (line ++ 10 ∷ [])) same))
    by_byte (inr (f, other)) (inl (t, same)) (inl (u, feed)) =
        absurd (some crlf (line ++ 10 ∷ []) (λ i. same i ∷ feed i ∷ (line ++ 10 ∷ [])))
    by_byte (inr (f, other)) (inl (t, same)) (inr (g, no_feed)) =
        rw (f, t, g) (begun_stays line Inside (n + 1 + 1) (l + 0 + 0) refl)
    by_byte (inr (f, other)) (inr (g, another)) next =
        rw (f, g) (begun_stays (c ∷ line) Inside (n + 1) (l + 0) refl)

closing : (p : HeadState) (n l : ℕ) (last : LineEnd) (more : List ℕ) → is_leading p ≡ false → Ends p n l (10 ∷ (print_end last ++ more))
unfolding scanned
closing Leading n l last more e = absurd cc
closing LeadingCr n l last more e = absurd cc
closing Inside n l last more e = ap (λ (s : Scan). is_ended s.place) (end_last last more (n + 1) (l + 1))
closing LineStart n l last more e =
    ap (λ (s : Scan). is_ended s.place) (scanned_ended (mk Ended (n + 1) (l + 0)) (print_end last ++ more) refl)
closing LineCr n l last more e =
    ap (λ (s : Scan). is_ended s.place) (scanned_ended (mk Ended (n + 1) (l + 0)) (print_end last ++ more) refl)
closing Ended n l last more e = refl

empty_ends : (bytes : List ℕ) → HasEmptyLine bytes → is_ended (scanned begin bytes).place ≡ true
empty_ends bytes h =
    ap (λ (s : Scan). is_ended s.place)
    (ap (scanned begin) h.whole ∙ blank_scan h.blank (h.line ++ tail) 0 0 ∙ scanned_append (mk Leading (0 + length (print_blank h.blank)) 0) h.line tail)
    ∙ closing s.place s.at s.lines h.last h.more (line_begins h.line (0 + length (print_blank h.blank)) 0 h.some)
  where
    tail : List ℕ
    tail = 10 ∷ (print_end h.last ++ h.more)

    s : Scan
    s = scanned (mk Leading (0 + length (print_blank h.blank)) 0) h.line

-- ---- what waits

-- bytes that settle nothing have no empty line behind another line
pub waits_open : (bytes : List ℕ) → settled bytes ≡ waits → ¬ (HasEmptyLine bytes)
waits_open bytes e h =
    let g : Going bytes = still bytes e in
    let fits : length bytes ≤ 16384 = omega (arith, g.short) in
    let ended : is_ended (looked bytes).place ≡ true =
    ap (λ (t : List ℕ). is_ended (scanned begin t).place) (take_all 16384 bytes fits) ∙ empty_ends bytes h in
    let open_still = g.going in
    cc

-- and bytes below the limit that have none settle nothing
pub open_waits : (bytes : List ℕ) → length bytes < 16384 → ¬ (HasEmptyLine bytes) → settled bytes ≡ waits
open_waits bytes short none = by_end (is_ended (looked bytes).place) refl
  where
    fits : length bytes ≤ 16384
    fits = omega (arith, short)

    by_end : (t : Bool) → is_ended (looked bytes).place ≡ t → settled bytes ≡ waits
    by_end true t =
        absurd (none (ends_by bytes Leading 0 0
        (ap (λ (u : List ℕ). is_ended (scanned begin u).place) (sym (take_all 16384 bytes fits)) ∙ t)))
    by_end false t = settled_short (looked bytes) bytes refl t short
