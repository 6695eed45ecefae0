-- What is written is read: paths from their segments, and absolute targets.
use Rattle.std.proofs.Common.{◌≡◌, ℕ, ◌+◌, ◌<◌, ◌==◌, ◌/◌, ◌%◌, Bool, true, false, not, ◌&&◌, ◌||◌, List, [], ◌∷◌, ◌++◌, length, take, drop, get_or, map, codes, Some, Ok, All, refl, ap, ◌∙◌, ⊎_elim, arith, append_assoc, take_all}
use Rattle.std.specs.Char.{is_ascii_hexdigit}
use Rattle.std.specs.Fmt.{digit_glyph}
use Rattle.std.specs.List.{list_all, slice_split, position_or_len, before_first, after_first}
use Rattle.std.proofs.lemmas.Bool.{cases_Bool, and_parts}
use Rattle.std.proofs.lemmas.Bool.Decides.{nat_tests}
use Rattle.std.proofs.lemmas.List.{append-nil, drop_all}
use Rattle.std.proofs.lemmas.List.Elements.{All-nil, All-cons, All-head, All-tail, All-append, All-weaker}
use Rattle.std.proofs.lemmas.List.Folds.{list_all-append}
use Rattle.std.proofs.lemmas.List.Splits.{slice_split_none, slice_split_at}
use Rattle.std.proofs.lemmas.List.Sums.{list_all-from_AllPass, AllPass-from_list_all}
use Rattle.std.proofs.Math.Seq.{take-append_seam, drop-append_seam, drop-append-add}
use Rattle.std.proofs.Math.Dec.{eqb-suc-zero}
use Rattle.form_urlencoded.specs.Form.{split, raw_pairs}
use Rattle.percent_encoding.specs.declared.ascii_set.AsciiSet.{AsciiSet}
use Rattle.percent_encoding.specs.AsciiSet.{should_percent_encode}
use Rattle.percent_encoding.specs.Percent.{percent_encode_byte, percent_encode, percent_decode}
use Rattle.percent_encoding.proofs.PercentLemmas.{IsByte, IsEscapeByte, EscapesPercent, percent_encode-nil, percent_encode_escaped, percent_encode_kept, All-percent_encode, percent_decode-percent_encode}
use Rattle.kapi_http.specs.declared.message.Method.{Method}
use Rattle.kapi_request_info.specs.Target.{is_target_byte, path_on, path_or_root, path_and_query, behind_authority, split_target}
use Rattle.kapi_request_info.specs.Path.{names_something, has_whole_escapes, pieces, segments, texts, without_last_empty}
use Rattle.kapi_request_info.specs.Query.{query_pairs}
use Rattle.kapi_request_info.specs.Resource.{attributes_by}
use Rattle.kapi_request_info.specs.Attributes.{info}
use Rattle.kapi_request_info.specs.Written.{stands_for_itself, IsSegmentSet, AreSegments, written, is_authority}

-- ---- the bytes that are written

-- a byte of a segment, as it is written
abbrev is_written : ℕ → Bool
is_written b = is_target_byte b && (not (b == 47) && not (b == 63))

abbrev IsWritten : ℕ → Type 0
IsWritten b = is_written b ≡ true

written_from_kept : (b : ℕ) → stands_for_itself b ≡ true → IsWritten b
written_from_kept b h = grind (arith, nat_tests)

written_from_escape : (b : ℕ) → IsEscapeByte b → IsWritten b
written_from_escape b h = grind (arith, nat_tests)

encoded_written : (set : AsciiSet) (s : List ℕ) → IsSegmentSet set → All IsWritten (percent_encode set s)
encoded_written set s is_set = All-percent_encode IsWritten set s (λ b kept. written_from_kept b (is_set b kept)) written_from_escape

-- a byte of a path, as it is written
abbrev is_of_path : ℕ → Bool
is_of_path b = is_target_byte b && not (b == 63)

abbrev IsOfPath : ℕ → Type 0
IsOfPath b = is_of_path b ≡ true

path_from_written : (b : ℕ) → IsWritten b → IsOfPath b
path_from_written b h = grind (arith, nat_tests)

written_path : (set : AsciiSet) (names : List (List ℕ)) → IsSegmentSet set → All IsOfPath (written set names)
written_path set [] is_set = All-nil IsOfPath
written_path set (s ∷ names) is_set =
    All-append IsOfPath (47 ∷ percent_encode set s) (written set names)
    (All-cons IsOfPath 47 (percent_encode set s) refl (All-weaker IsWritten IsOfPath path_from_written (percent_encode set s) (encoded_written set s is_set)))
    (written_path set names is_set)

-- ---- the segments that are read

no_slash_from_written : (b : ℕ) → IsWritten b → (b == 47) ≡ false
no_slash_from_written b h = grind (arith, nat_tests)

slashless : (set : AsciiSet) (s : List ℕ) → IsSegmentSet set → All (λ b. (b == 47) ≡ false) (percent_encode set s)
slashless set s is_set = All-weaker IsWritten (λ b. (b == 47) ≡ false) no_slash_from_written (percent_encode set s) (encoded_written set s is_set)

split_written : (set : AsciiSet) (s : List ℕ) (names : List (List ℕ)) → IsSegmentSet set
    → slice_split (λ b. b == 47) (percent_encode set s ++ written set names) ≡ map (percent_encode set) (s ∷ names)
split_written set s [] is_set =
    ap (slice_split (λ b. b == 47)) (append-nil (percent_encode set s)) ∙ slice_split_none (λ b. b == 47) (percent_encode set s) (slashless set s is_set)
split_written set s (t ∷ names) is_set =
    slice_split_at (λ b. b == 47) (percent_encode set s) 47 (percent_encode set t ++ written set names) (slashless set s is_set) refl
    ∙ ap (λ r. percent_encode set s ∷ r) (split_written set t names is_set)

percent_escaped : (set : AsciiSet) (b : ℕ) → IsSegmentSet set → EscapesPercent set b
percent_escaped set b is_set percent =
    ⊎_elim (λ e. e) (λ kept. let stands = is_set b kept in grind (arith, nat_tests)) (cases_Bool (should_percent_encode set b))

decoded_written : (set : AsciiSet) (names : List (List ℕ)) → IsSegmentSet set → All (λ s. All IsByte s) names
    → map percent_decode (map (percent_encode set) names) ≡ names
decoded_written set [] is_set small = refl
decoded_written set (s ∷ names) is_set small =
    let first = percent_decode-percent_encode set s (All-head (λ s. All IsByte s) s names small) (λ k d _. percent_escaped set (get_or s k d) is_set) in
    rw first (ap (λ r. s ∷ r) (decoded_written set names is_set (All-tail (λ s. All IsByte s) s names small)))

not_empty : (a b : Bool) → (not a && b) ≡ true → a ≡ false
not_empty true b h = cc
not_empty false b h = refl

kept_segments : (names : List (List ℕ)) → list_all names_something names ≡ true → without_last_empty names ≡ names
unfolding without_last_empty
kept_segments [] h = refl
kept_segments (s ∷ []) h =
    rw (not_empty (length s == 0) _ (and_parts (names_something s) true h).0)
kept_segments (s ∷ t ∷ names) h = ap (λ r. s ∷ r) (kept_segments (t ∷ names) (and_parts (names_something s) (list_all names_something (t ∷ names)) h).1)

-- ---- the escapes that are looked at

hex_glyph : (d : ℕ) → d < 16 → is_ascii_hexdigit (digit_glyph true d) ≡ true
hex_glyph d small = grind (arith, nat_tests)

no_percent : (d : ℕ) → d < 16 → (digit_glyph true d == 37) ≡ false
no_percent d small = grind (arith, nat_tests)

whole_escape : (b : ℕ) (rest : List ℕ) → has_whole_escapes (percent_encode_byte b ++ rest) ≡ has_whole_escapes rest
unfolding has_whole_escapes percent_encode_byte
whole_escape b rest =
    let high : b / 16 % 16 < 16 = omega arith in
    let low : b % 16 < 16 = omega arith in
    rw (hex_glyph (b / 16 % 16) high, hex_glyph (b % 16) low, no_percent (b / 16 % 16) high, no_percent (b % 16) low)

whole_byte : (b : ℕ) (rest : List ℕ) → (b == 37) ≡ false → has_whole_escapes (b ∷ rest) ≡ has_whole_escapes rest
unfolding has_whole_escapes
whole_byte b rest other = rw other

plain_from_kept : (b : ℕ) → stands_for_itself b ≡ true → (b == 37) ≡ false
plain_from_kept b h = grind (arith, nat_tests)

whole_encoded : (set : AsciiSet) (s rest : List ℕ) → IsSegmentSet set → has_whole_escapes (percent_encode set s ++ rest) ≡ has_whole_escapes rest
whole_encoded set [] rest is_set = rw percent_encode-nil
whole_encoded set (b ∷ s) rest is_set =
    let after = whole_encoded set s rest is_set in
    ⊎_elim
    (λ e. rw (percent_encode_escaped set b s e, append_assoc) (whole_escape b (percent_encode set s ++ rest) ∙ after))
    (λ e. rw (percent_encode_kept set b s e) (whole_byte b (percent_encode set s ++ rest) (plain_from_kept b (is_set b e)) ∙ after))
    (cases_Bool (should_percent_encode set b))

whole_written : (set : AsciiSet) (names : List (List ℕ)) → IsSegmentSet set → has_whole_escapes (written set names) ≡ true
unfolding has_whole_escapes
whole_written set [] is_set = refl
whole_written set (s ∷ names) is_set = whole_encoded set s (written set names) is_set ∙ whole_written set names is_set

-- ---- the whole

pieces_written : (set : AsciiSet) (s : List ℕ) (names : List (List ℕ)) → IsSegmentSet set → All (λ s. All IsByte s) (s ∷ names)
    → pieces (written set (s ∷ names)) ≡ s ∷ names
pieces_written set s names is_set small = ap (map percent_decode) (split_written set s names is_set) ∙ decoded_written set (s ∷ names) is_set small

segments_written : (set : AsciiSet) (s : List ℕ) (names : List (List ℕ)) → IsSegmentSet set → AreSegments (s ∷ names)
    → segments (written set (s ∷ names)) ≡ Ok (s ∷ names)
unfolding segments texts
segments_written set s names is_set are =
    rw (pieces_written set s names is_set are.2, kept_segments (s ∷ names) are.0, are.0, whole_written set (s ∷ names) is_set, are.1)

-- if what comes first passes no test, the first that passes is what follows
first_after : (p : ℕ → Bool) (xs : List ℕ) (y : ℕ) (ys : List ℕ) → All (λ x. p x ≡ false) xs → p y ≡ true → position_or_len p (xs ++ y ∷ ys) ≡ length xs
first_after p [] y ys none found = rw found
first_after p (x ∷ xs) y ys none found =
    let P : ℕ → Type 0 = λ x. p x ≡ false in
    rw (All-head P x xs none, first_after p xs y ys (All-tail P x xs none) found) (omega arith)

none_first : (p : ℕ → Bool) (xs : List ℕ) → All (λ x. p x ≡ false) xs → position_or_len p xs ≡ length xs
none_first p [] none = refl
none_first p (x ∷ xs) none =
    let P : ℕ → Type 0 = λ x. p x ≡ false in
    rw (All-head P x xs none, none_first p xs (All-tail P x xs none)) (omega arith)

no_query_from_path : (b : ℕ) → IsOfPath b → (b == 63) ≡ false
no_query_from_path b h = grind (arith, nat_tests)

target_from_path : (b : ℕ) → IsOfPath b → is_target_byte b ≡ true
target_from_path b h = (and_parts (is_target_byte b) (not (b == 63)) h).0

target_written : (set : AsciiSet) (names : List (List ℕ)) → IsSegmentSet set → list_all is_target_byte (written set names) ≡ true
target_written set names is_set =
    list_all-from_AllPass is_target_byte (written set names)
    (All-weaker IsOfPath (λ b. is_target_byte b ≡ true) target_from_path (written set names) (written_path set names is_set))

queryless : (set : AsciiSet) (names : List (List ℕ)) → IsSegmentSet set → All (λ b. (b == 63) ≡ false) (written set names)
queryless set names is_set = All-weaker IsOfPath (λ b. (b == 63) ≡ false) no_query_from_path (written set names) (written_path set names is_set)

root_kept : (b : ℕ) (s : List ℕ) → path_or_root (b ∷ s) ≡ b ∷ s
root_kept b s = rw (eqb-suc-zero (length s))

-- the two parts of a text from its path on, if they are known
parts_known : (text path query : List ℕ) (b : ℕ) → before_first (λ b. b == 63) text ≡ b ∷ path → after_first (λ b. b == 63) text ≡ query
    → path_and_query (Some text) ≡ Ok (b ∷ path, query)
parts_known text path query b before after = rw (before, after, root_kept b path)

split_path : (set : AsciiSet) (s : List ℕ) (names : List (List ℕ)) → IsSegmentSet set
    → split_target (written set (s ∷ names)) ≡ Ok (written set (s ∷ names), [])
unfolding split_target path_on
split_path set s names is_set =
    let text = written set (s ∷ names) in
    let none = none_first (λ b. b == 63) text (queryless set (s ∷ names) is_set) in
    rw (target_written set (s ∷ names) is_set)
    (parts_known text (percent_encode set s ++ written set names) [] 47
    (ap (λ n. take n text) none ∙ take_all (length text) text (omega arith))
    (ap (λ n. drop (n + 1) text) none ∙ drop_all (length text + 1) text (omega arith)))

target_both : (path query : List ℕ) → list_all is_target_byte path ≡ true → list_all is_target_byte query ≡ true → list_all is_target_byte (path ++ 63 ∷ query) ≡ true
target_both path query p q = rw (list_all-append is_target_byte path (63 ∷ query), p, q)

split_both : (set : AsciiSet) (s : List ℕ) (names : List (List ℕ)) (query : List ℕ) → IsSegmentSet set → list_all is_target_byte query ≡ true
    → split_target (written set (s ∷ names) ++ 63 ∷ query) ≡ Ok (written set (s ∷ names), query)
unfolding split_target path_on
split_both set s names query is_set clean =
    let path = written set (s ∷ names) in
    let text = path ++ 63 ∷ query in
    let first = first_after (λ b. b == 63) path 63 query (queryless set (s ∷ names) is_set) refl in
    rw (target_both path query (target_written set (s ∷ names) is_set) clean)
    (parts_known text (percent_encode set s ++ written set names) query 47
    (ap (λ n. take n text) first ∙ take-append_seam path (63 ∷ query))
    (ap (λ n. drop (n + 1) text) first ∙ drop-append-add path (63 ∷ query) 1))

pub info_path : (method : Method) (set : AsciiSet) (names : List (List ℕ)) → IsSegmentSet set → AreSegments names → 0 < length names
    → info method (written set names) ≡ attributes_by method (written set names) names []
unfolding info raw_pairs split
info_path method set [] is_set are some = absurd (omega arith)
info_path method set (s ∷ names) is_set are some = rw (split_path set s names is_set, segments_written set s names is_set are)

pub info_both : (method : Method) (set : AsciiSet) (names : List (List ℕ)) (query : List ℕ) → IsSegmentSet set → AreSegments names → 0 < length names
    → list_all is_target_byte query ≡ true
    → info method (written set names ++ 63 ∷ query) ≡ attributes_by method (written set names) names (query_pairs query)
unfolding info
info_both method set [] query is_set are some clean = absurd (omega arith)
info_both method set (s ∷ names) query is_set are some clean =
    rw (split_both set s names query is_set clean, segments_written set s names is_set are)

-- ---- absolute targets

no_end : (b : ℕ) → (is_target_byte b && not (b == 47 || b == 63)) ≡ true → (b == 47 || b == 63) ≡ false
no_end b h = grind (arith, nat_tests)

target_from_authority : (b : ℕ) → (is_target_byte b && not (b == 47 || b == 63)) ≡ true → is_target_byte b ≡ true
target_from_authority b h = (and_parts (is_target_byte b) (not (b == 47 || b == 63)) h).0

authority_bytes : (authority : List ℕ) → is_authority authority ≡ true → All (λ b. (is_target_byte b && not (b == 47 || b == 63)) ≡ true) authority
authority_bytes authority h = AllPass-from_list_all (λ b. is_target_byte b && not (b == 47 || b == 63)) authority h

no_end_in : (authority : List ℕ) → is_authority authority ≡ true → All (λ b. (b == 47 || b == 63) ≡ false) authority
no_end_in authority h =
    All-weaker (λ b. (is_target_byte b && not (b == 47 || b == 63)) ≡ true) (λ b. (b == 47 || b == 63) ≡ false) no_end authority (authority_bytes authority h)

behind_known : (authority : List ℕ) (b : ℕ) (rest : List ℕ) → is_authority authority ≡ true → (b == 47 || b == 63) ≡ true
    → behind_authority (authority ++ b ∷ rest) ≡ b ∷ rest
behind_known authority b rest h ends =
    ap (λ n. drop n (authority ++ b ∷ rest)) (first_after (λ b. b == 47 || b == 63) authority b rest (no_end_in authority h) ends)
    ∙ drop-append_seam authority (b ∷ rest)

behind_alone : (authority : List ℕ) → is_authority authority ≡ true → behind_authority authority ≡ []
behind_alone authority h =
    ap (λ n. drop n authority) (none_first (λ b. b == 47 || b == 63) authority (no_end_in authority h)) ∙ drop_all (length authority) authority (omega arith)

clean_authority : (authority : List ℕ) → is_authority authority ≡ true → list_all is_target_byte authority ≡ true
clean_authority authority h =
    list_all-from_AllPass is_target_byte authority
    (All-weaker (λ b. (is_target_byte b && not (b == 47 || b == 63)) ≡ true) (λ b. is_target_byte b ≡ true) target_from_authority authority (authority_bytes authority h))

target_known : (authority rest : List ℕ) → is_authority authority ≡ true
    → list_all is_target_byte (codes "http://" ++ (authority ++ rest)) ≡ list_all is_target_byte rest
target_known authority rest h = rw (list_all-append is_target_byte authority rest, clean_authority authority h)

path_on_known : (authority : List ℕ) (b : ℕ) (rest : List ℕ) → is_authority authority ≡ true → (b == 47 || b == 63) ≡ true
    → path_on (codes "http://" ++ (authority ++ b ∷ rest)) ≡ Some (b ∷ rest)
unfolding path_on
path_on_known authority b rest h ends = ap Some (behind_known authority b rest h ends)

path_on_alone : (authority : List ℕ) → is_authority authority ≡ true → path_on (codes "http://" ++ authority) ≡ Some []
unfolding path_on
path_on_alone authority h = ap Some (behind_alone authority h)

path_on_path : (rest : List ℕ) → path_on (47 ∷ rest) ≡ Some (47 ∷ rest)
unfolding path_on
path_on_path rest = refl

split_absolute : (authority rest : List ℕ) → is_authority authority ≡ true
    → split_target (codes "http://" ++ (authority ++ 47 ∷ rest)) ≡ split_target (47 ∷ rest)
unfolding split_target
split_absolute authority rest h = rw (target_known authority (47 ∷ rest) h, path_on_known authority 47 rest h refl, path_on_path rest)

split_pathless : (authority query : List ℕ) → is_authority authority ≡ true
    → split_target (codes "http://" ++ (authority ++ 63 ∷ query)) ≡ split_target (codes "/?" ++ query)
unfolding split_target
split_pathless authority query h =
    rw (target_known authority (63 ∷ query) h, path_on_known authority 63 query h refl, path_on_path (63 ∷ query))

split_alone : (authority : List ℕ) → is_authority authority ≡ true → split_target (codes "http://" ++ authority) ≡ split_target (codes "/")
unfolding split_target
split_alone authority h = rw (clean_authority authority h, path_on_alone authority h, path_on_path [])

pub info_absolute : (method : Method) (authority rest : List ℕ) → is_authority authority ≡ true
    → info method (codes "http://" ++ (authority ++ 47 ∷ rest)) ≡ info method (47 ∷ rest)
unfolding info
info_absolute method authority rest h = rw (split_absolute authority rest h)

pub info_pathless : (method : Method) (authority query : List ℕ) → is_authority authority ≡ true
    → info method (codes "http://" ++ (authority ++ 63 ∷ query)) ≡ info method (codes "/?" ++ query)
unfolding info
info_pathless method authority query h = rw (split_pathless authority query h)

pub info_alone : (method : Method) (authority : List ℕ) → is_authority authority ≡ true
    → info method (codes "http://" ++ authority) ≡ info method (codes "/")
unfolding info
info_alone method authority h = rw (split_alone authority h)
