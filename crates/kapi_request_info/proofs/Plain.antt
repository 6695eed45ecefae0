-- Paths of ASCII without a `%`: their segments are their parts between slashes, which need no decoding.
use Rattle.std.proofs.Common.{◌≡◌, ℕ, suc, ◌+◌, ◌<◌, ◌==◌, if◌then◌else◌, Bool, true, false, not, ◌&&◌, List, [], ◌∷◌, ◌++◌, length, map, take, drop, Some, None, Result, Ok, Err, refl, sym, ap, subst, ◌∙◌, ⊎_elim, arith, add-one, append_assoc}
use Rattle.std.specs.Prelude.{nat_le}
use Rattle.std.specs.List.{list_all, list_any, slice_split, position_from, onto_first}
use Rattle.std.specs.Str.{IsAscii, is_utf8}
use Rattle.std.proofs.lemmas.Bool.{cases_Bool, and_parts, and_from, and_right, or_parts, eqb-true, eqb-false, leb-true}
use Rattle.std.proofs.lemmas.Bool.Decides.{nat_tests}
use Rattle.std.proofs.lemmas.List.{append-nil}
use Rattle.std.proofs.lemmas.List.Elements.{All-weaker}
use Rattle.std.proofs.lemmas.List.Folds.{list_all-append}
use Rattle.std.proofs.lemmas.List.Splits.{slice_split-cons_yes, slice_split-cons_no, length-slice_split}
use Rattle.std.proofs.lemmas.List.Sums.{AllPass-from_list_all}
use Rattle.std.proofs.lemmas.Str.{is_utf8-from_IsUtf8, IsUtf8-from_ascii}
use Rattle.std.proofs.lemmas.Str.Ascii.{IsAscii-from_all}
use Rattle.std.proofs.Math.Dec.{eqb-suc-zero}
use Rattle.percent_encoding.specs.Percent.{percent_decode}
use Rattle.percent_encoding.proofs.PercentLemmas.{percent_decode-nil, percent_decode_not_percent}
use Rattle.kapi_request_info.specs.Faults.{TargetFault, bad_path, bad_escape}
use Rattle.kapi_request_info.specs.Path.{names_something, has_whole_escapes, has_slash, segments, texts, without_last_empty}

-- a byte that stands for itself
abbrev pub is_plain_byte : ℕ → Bool
is_plain_byte b = nat_le b 127 && not (b == 37)

abbrev pub is_plain : List ℕ → Bool
is_plain xs = list_all is_plain_byte xs

no_percent : (b : ℕ) → is_plain_byte b ≡ true → (b == 37) ≡ false
no_percent b h = grind (arith, nat_tests)

ascii_byte : (b : ℕ) → is_plain_byte b ≡ true → b < 128
ascii_byte b h = let below = leb-true b 127 (and_parts (nat_le b 127) (not (b == 37)) h).0 in omega (arith, below)

plain_byte : (b : ℕ) → b < 128 → (b == 37) ≡ false → is_plain_byte b ≡ true
plain_byte b small other = grind (arith, nat_tests)

-- ---- a plain text

pub plain_from_looks : (xs : List ℕ) → IsAscii xs → list_any (λ b. b == 37) xs ≡ false → is_plain xs ≡ true
plain_from_looks [] ascii none = refl
plain_from_looks (b ∷ xs) ascii none =
    let parts = or_parts (b == 37) (list_any (λ b. b == 37) xs) none in
    and_from (is_plain_byte b) (is_plain xs) (plain_byte b (ascii 0) parts.0) (plain_from_looks xs (λ i. ascii (suc i)) parts.1)

pub plain_is_ascii : (xs : List ℕ) → is_plain xs ≡ true → IsAscii xs
plain_is_ascii xs h =
    IsAscii-from_all xs (All-weaker (λ b. is_plain_byte b ≡ true) (λ b. b < 128) ascii_byte xs (AllPass-from_list_all is_plain_byte xs h))

utf8_plain : (xs : List ℕ) → is_plain xs ≡ true → is_utf8 xs ≡ true
utf8_plain xs h = is_utf8-from_IsUtf8 xs (IsUtf8-from_ascii xs (plain_is_ascii xs h))

decoded_plain : (xs : List ℕ) → is_plain xs ≡ true → percent_decode xs ≡ xs
decoded_plain [] h = percent_decode-nil
decoded_plain (b ∷ xs) h =
    let parts = and_parts (is_plain_byte b) (is_plain xs) h in
    percent_decode_not_percent b xs (eqb-false b 37 (no_percent b parts.0)) ∙ ap (λ r. b ∷ r) (decoded_plain xs parts.1)

whole_byte : (b : ℕ) (rest : List ℕ) → (b == 37) ≡ false → has_whole_escapes (b ∷ rest) ≡ has_whole_escapes rest
unfolding has_whole_escapes
whole_byte b rest other = rw other

whole_plain : (xs : List ℕ) → is_plain xs ≡ true → has_whole_escapes xs ≡ true
unfolding has_whole_escapes
whole_plain [] h = refl
whole_plain (b ∷ xs) h =
    let parts = and_parts (is_plain_byte b) (is_plain xs) h in
    whole_byte b xs (no_percent b parts.0) ∙ whole_plain xs parts.1

plain_rest : (xs : List ℕ) → is_plain xs ≡ true → is_plain (drop 1 xs) ≡ true
plain_rest [] h = refl
plain_rest (b ∷ xs) h = (and_parts (is_plain_byte b) (is_plain xs) h).1

-- the two sides of a slash in a plain text are plain
pub plain_sides : (front after : List ℕ) (text : List ℕ) → front ++ 47 ∷ after ≡ text → is_plain text ≡ true
    → (is_plain front ≡ true) × (is_plain after ≡ true)
plain_sides front after text joined h =
    let both = and_parts (is_plain front) (is_plain (47 ∷ after)) (sym (list_all-append is_plain_byte front (47 ∷ after)) ∙ ap is_plain joined ∙ h) in
    (both.0, (and_parts (is_plain_byte 47) (is_plain after) both.1).1)

-- ---- its parts

onto_plain : (b : ℕ) (parts : List (List ℕ)) → is_plain_byte b ≡ true → list_all is_plain parts ≡ true → list_all is_plain (onto_first b parts) ≡ true
onto_plain b [] h k = rw h refl
onto_plain b (part ∷ parts) h k = rw h k

plain_parts : (xs : List ℕ) → is_plain xs ≡ true → list_all is_plain (slice_split (λ b. b == 47) xs) ≡ true
plain_parts [] h = refl
plain_parts (b ∷ xs) h =
    let both = and_parts (is_plain_byte b) (is_plain xs) h in
    ⊎_elim
    (λ e. ap (list_all is_plain) (slice_split-cons_yes (λ b. b == 47) b xs e) ∙ plain_parts xs both.1)
    (λ e. ap (list_all is_plain) (slice_split-cons_no (λ b. b == 47) b xs e) ∙ onto_plain b (slice_split (λ b. b == 47) xs) both.0 (plain_parts xs both.1))
    (cases_Bool (b == 47))

decoded_parts : (parts : List (List ℕ)) → list_all is_plain parts ≡ true → map percent_decode parts ≡ parts
decoded_parts [] h = refl
decoded_parts (part ∷ parts) h =
    let both = and_parts (is_plain part) (list_all is_plain parts) h in rw (decoded_plain part both.0, decoded_parts parts both.1) refl

utf8_parts : (parts : List (List ℕ)) → list_all is_plain parts ≡ true → list_all is_utf8 parts ≡ true
utf8_parts [] h = refl
utf8_parts (part ∷ parts) h =
    let both = and_parts (is_plain part) (list_all is_plain parts) h in
    and_from (is_utf8 part) (list_all is_utf8 parts) (utf8_plain part both.0) (utf8_parts parts both.1)

one_or_none : (b : Bool) (part : List ℕ) → (is_plain part && true) ≡ true → list_all is_plain (if b then [] else part ∷ []) ≡ true
one_or_none true part h = refl
one_or_none false part h = h

kept_plain : (parts : List (List ℕ)) → list_all is_plain parts ≡ true → list_all is_plain (without_last_empty parts) ≡ true
unfolding without_last_empty
kept_plain [] h = refl
kept_plain (part ∷ []) h = one_or_none (length part == 0) part h
kept_plain (part ∷ next ∷ parts) h =
    let both = and_parts (is_plain part) (list_all is_plain (next ∷ parts)) h in
    and_from (is_plain part) (list_all is_plain (without_last_empty (next ∷ parts))) both.0 (kept_plain (next ∷ parts) both.1)

-- ---- the segments from some that were found and the rest of the path on

abbrev pub named : List (List ℕ) → Result (List (List ℕ)) TargetFault
named names = if list_all names_something names then Ok names else Err bad_path

abbrev pub plain_from : List (List ℕ) → List ℕ → Result (List (List ℕ)) TargetFault
plain_from found rest = named (found ++ without_last_empty (slice_split (λ b. b == 47) rest))

checked_plain : (names : List (List ℕ)) (whole : Bool) → whole ≡ true → list_all is_utf8 names ≡ true
    → ◌≡◌ {A = Result (List (List ℕ)) TargetFault} (named names) (if list_all names_something names then (if whole then texts names else Err bad_escape) else Err bad_path)
unfolding texts
checked_plain names whole h k = rw (h, k) refl

pub plain_start : (path : List ℕ) → is_plain path ≡ true → plain_from [] (drop 1 path) ≡ segments path
unfolding segments
plain_start path h =
    let parts = slice_split (λ b. b == 47) (drop 1 path) in
    let plain = plain_parts (drop 1 path) (plain_rest path h) in
    rw (decoded_parts parts plain)
    (checked_plain (without_last_empty parts) (has_whole_escapes path) (whole_plain path h) (utf8_parts (without_last_empty parts) (kept_plain parts plain)))

last_behind : (part : List ℕ) (parts : List (List ℕ)) → 0 < length parts → without_last_empty (part ∷ parts) ≡ part ∷ without_last_empty parts
unfolding without_last_empty
last_behind part [] some = absurd (omega (arith, some))
last_behind part (next ∷ parts) some = refl

-- the part before the next slash is a segment
pub plain_step : (found : List (List ℕ)) (rest part after : List ℕ) → slice_split (λ b. b == 47) rest ≡ part ∷ slice_split (λ b. b == 47) after
    → plain_from (found ++ part ∷ []) after ≡ plain_from found rest
plain_step found rest part after split =
    let parts = slice_split (λ b. b == 47) after in
    let some : 0 < length parts = let count = length-slice_split (λ (b : ℕ). b == 47) after in omega (arith, count) in
    let same : without_last_empty (slice_split (λ b. b == 47) rest) ≡ part ∷ without_last_empty parts = ap without_last_empty split ∙ last_behind part parts some in
    ap named (append_assoc found (part ∷ []) (without_last_empty parts) ∙ ap (λ r. found ++ r) (sym same))

unnamed : (found : List (List ℕ)) (part : List ℕ) (parts : List (List ℕ)) → names_something part ≡ false
    → list_all names_something (found ++ part ∷ parts) ≡ false
unnamed [] part parts h = rw h refl
unnamed (first ∷ found) part parts h = and_right (names_something first) (list_all names_something (found ++ part ∷ parts)) (unnamed found part parts h)

-- a part that names nothing is a fault
pub plain_fault : (found : List (List ℕ)) (rest part after : List ℕ) → slice_split (λ b. b == 47) rest ≡ part ∷ slice_split (λ b. b == 47) after
    → names_something part ≡ false → plain_from found rest ≡ Err bad_path
plain_fault found rest part after split h =
    let parts = slice_split (λ b. b == 47) after in
    let some : 0 < length parts = let count = length-slice_split (λ (b : ℕ). b == 47) after in omega (arith, count) in
    let same : without_last_empty (slice_split (λ b. b == 47) rest) ≡ part ∷ without_last_empty parts = ap without_last_empty split ∙ last_behind part parts some in
    ap (λ r. named (found ++ r)) same ∙ rw (unnamed found part (without_last_empty parts) h) refl

pub plain_end : (found : List (List ℕ)) (rest : List ℕ) → length rest ≡ 0 → list_all names_something found ≡ true
    → plain_from found rest ≡ Ok found
unfolding without_last_empty
plain_end found [] none h = ap named (append-nil found) ∙ rw h refl
plain_end found (b ∷ rest) none h = absurd (omega arith)

last_kept : (b : ℕ) (rest : List ℕ) → without_last_empty ((b ∷ rest) ∷ []) ≡ (b ∷ rest) ∷ []
unfolding without_last_empty
last_kept b rest = rw (eqb-suc-zero (length rest)) refl

-- ---- the next slash

cut_first : (xs : List ℕ) (k i : ℕ) → position_from (λ b. b == 47) k xs ≡ Some i
    → (j : ℕ) × (i ≡ k + j) × (take j xs ++ 47 ∷ drop (suc j) xs ≡ xs) × (has_slash (take j xs) ≡ false)
cut_first [] k i e = absurd cc
cut_first (x ∷ xs) k i e = by_test (x == 47) refl (cut_first xs (k + 1) i)
  where
    by_test : (b : Bool) → (x == 47) ≡ b
        → (position_from (λ b. b == 47) (k + 1) xs ≡ Some i
        → (j : ℕ) × (i ≡ k + 1 + j) × (take j xs ++ 47 ∷ drop (suc j) xs ≡ xs) × (has_slash (take j xs) ≡ false))
        → (j : ℕ) × (i ≡ k + j) × (take j (x ∷ xs) ++ 47 ∷ drop (suc j) (x ∷ xs) ≡ x ∷ xs) × (has_slash (take j (x ∷ xs)) ≡ false)
    by_test true t more =
        let found = rw t at e in
        let same : k ≡ i = cc in (0, omega arith, ap (λ b. b ∷ xs) (sym (eqb-true x 47 t)), refl)
    by_test false t more =
        let after = rw t at e in
        let rest = more after in
        (suc rest.0, omega (arith, rest.1), ap (λ r. x ∷ r) rest.2, rw t rest.3)

pub slash_joins : (xs : List ℕ) (i : ℕ) → position_from (λ b. b == 47) 0 xs ≡ Some i → take i xs ++ 47 ∷ drop (i + 1) xs ≡ xs
slash_joins xs i e =
    let found = cut_first xs 0 i e in
    let same : found.0 ≡ i = omega (arith, found.1) in
    let P : ℕ → Type 0 = λ j. take j xs ++ 47 ∷ drop (j + 1) xs ≡ xs in
    subst P same (rw (add-one) found.2)

pub none_before : (xs : List ℕ) (i : ℕ) → position_from (λ b. b == 47) 0 xs ≡ Some i → has_slash (take i xs) ≡ false
none_before xs i e =
    let found = cut_first xs 0 i e in
    let same : found.0 ≡ i = omega (arith, found.1) in
    let P : ℕ → Type 0 = λ j. has_slash (take j xs) ≡ false in subst P same found.3

none_found : (xs : List ℕ) (k : ℕ) → position_from (λ b. b == 47) k xs ≡ None → has_slash xs ≡ false
none_found [] k e = refl
none_found (x ∷ xs) k e = by_test (x == 47) refl (none_found xs (k + 1))
  where
    by_test : (b : Bool) → (x == 47) ≡ b → (position_from (λ b. b == 47) (k + 1) xs ≡ None → has_slash xs ≡ false) → has_slash (x ∷ xs) ≡ false
    by_test true t more = absurd (let found = rw t at e in cc)
    by_test false t more = let none = rw t at e in rw (t, more none) refl

pub no_slash_at_all : (xs : List ℕ) → position_from (λ b. b == 47) 0 xs ≡ None → has_slash xs ≡ false
no_slash_at_all xs e = none_found xs 0 e

named_more : (found : List (List ℕ)) (part : List ℕ) → list_all names_something found ≡ true → names_something part ≡ true
    → list_all names_something (found ++ part ∷ []) ≡ true
named_more found part h k = list_all-append names_something found (part ∷ []) ∙ rw (h, k) refl

-- what is behind the last slash is a segment, if it is not empty
pub plain_last : (found : List (List ℕ)) (rest : List ℕ) → (length rest == 0) ≡ false → slice_split (λ b. b == 47) rest ≡ rest ∷ []
    → list_all names_something found ≡ true
    → plain_from found rest ≡ (if names_something rest then Ok (found ++ rest ∷ []) else Err bad_path)
unfolding without_last_empty
plain_last found [] some alone h = cc
plain_last found (b ∷ rest) some alone h =
    ap (λ parts. named (found ++ without_last_empty parts)) alone ∙ ap (λ parts. named (found ++ parts)) (last_kept b rest) ∙ by_name (names_something (b ∷ rest)) refl
  where
    by_name : (n : Bool) → names_something (b ∷ rest) ≡ n
        → named (found ++ (b ∷ rest) ∷ []) ≡ (if names_something (b ∷ rest) then Ok (found ++ (b ∷ rest) ∷ []) else Err bad_path)
    by_name true n = rw (named_more found (b ∷ rest) h n, n) refl
    by_name false n = rw (unnamed found (b ∷ rest) [] n, n) refl

named_part : (part found : List ℕ) → ◌≡◌ {A = Result (List ℕ) TargetFault} (if names_something part then Ok part else Err bad_path) (Ok found)
    → (names_something part ≡ true) × (found ≡ part)
named_part part found = by_name (names_something part) refl
  where
    by_name : (n : Bool) → names_something part ≡ n → ◌≡◌ {A = Result (List ℕ) TargetFault} (if n then Ok part else Err bad_path) (Ok found)
        → (names_something part ≡ true) × (found ≡ part)
    by_name true n given = (n, cc)
    by_name false n given = absurd cc

-- with one segment more the rest is behind its slash, and what holds before holds again
pub plain_pushed : (path : List ℕ) (found more : List (List ℕ)) (rest part after segment : List ℕ)
    → (plain_from found rest ≡ segments path) × (is_plain rest ≡ true) × (list_all names_something found ≡ true)
    → slice_split (λ b. b == 47) rest ≡ part ∷ slice_split (λ b. b == 47) after → part ++ 47 ∷ after ≡ rest
    → ◌≡◌ {A = Result (List ℕ) TargetFault} (if names_something part then Ok part else Err bad_path) (Ok segment)
    → more ≡ found ++ segment ∷ []
    → (plain_from more after ≡ segments path) × (is_plain after ≡ true) × (list_all names_something more ≡ true)
plain_pushed path found more rest part after segment before split joined given is =
    let named = named_part part segment given in
    let same : more ≡ found ++ part ∷ [] = is ∙ ap (λ s. found ++ s ∷ []) named.1 in
    rw same (plain_step found rest part after split ∙ before.0, (plain_sides part after rest joined before.1).1, named_more found part before.2 named.0)
