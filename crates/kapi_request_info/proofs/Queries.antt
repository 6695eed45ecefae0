-- What targets part into: a target without a query, and the bytes of the path.
use Rattle.std.proofs.Common.{◌≡◌, ℕ, zero, suc, ◌+◌, ◌<◌, ◌==◌, if◌then◌else◌, Bool, ◌||◌, true, false, List, [], ◌∷◌, length, take, drop, codes, Option, Some, None, Result, Ok, Err, refl, sym, ap, ◌∙◌, arith, take_all}
use Rattle.std.specs.Prelude.{nat_eq}
use Rattle.std.specs.List.{list_all, list_any, starts_with, position_or_len, before_first, after_first}
use Rattle.std.specs.Str.{IsAscii}
use Rattle.std.proofs.lemmas.Bool.{and_parts, and_from, or_parts}
use Rattle.std.proofs.lemmas.Bool.Decides.{nat_tests}
use Rattle.std.proofs.lemmas.List.{drop_all}
use Rattle.std.proofs.lemmas.List.Elements.{All-weaker}
use Rattle.std.proofs.lemmas.List.Sums.{AllPass-from_list_all}
use Rattle.std.proofs.lemmas.Str.Ascii.{IsAscii-from_all}
use Rattle.kapi_request_info.specs.Faults.{TargetFault, bad_path}
use Rattle.kapi_request_info.specs.Target.{is_target_byte, behind_authority, path_on, path_or_root, path_and_query, split_target}

none_passes : (p : ℕ → Bool) (xs : List ℕ) → list_any p xs ≡ false → position_or_len p xs ≡ length xs
none_passes p [] none = refl
none_passes p (x ∷ xs) none =
    let parts = or_parts (p x) (list_any p xs) none in rw (parts.0, none_passes p xs parts.1) (omega arith)

-- all of it is before the query
pub before_no_query : (text : List ℕ) → list_any (λ b. b == 63) text ≡ false → before_first (λ b. b == 63) text ≡ text
before_no_query text none =
    ap (λ n. take n text) (none_passes (λ b. b == 63) text none) ∙ take_all (length text) text (omega arith)

pub after_no_query : (text : List ℕ) → list_any (λ b. b == 63) text ≡ false → after_first (λ b. b == 63) text ≡ []
after_no_query text none =
    ap (λ n. drop (n + 1) text) (none_passes (λ b. b == 63) text none) ∙ drop_all (length text + 1) text (omega arith)

-- ---- the path of a target is ASCII

clean_drop : (n : ℕ) (xs : List ℕ) → list_all is_target_byte xs ≡ true → list_all is_target_byte (drop n xs) ≡ true
clean_drop zero xs h = h
clean_drop (suc n) [] h = refl
clean_drop (suc n) (x ∷ xs) h = clean_drop n xs (and_parts (is_target_byte x) (list_all is_target_byte xs) h).1

clean_take : (n : ℕ) (xs : List ℕ) → list_all is_target_byte xs ≡ true → list_all is_target_byte (take n xs) ≡ true
clean_take zero xs h = refl
clean_take (suc n) [] h = refl
clean_take (suc n) (x ∷ xs) h =
    let parts = and_parts (is_target_byte x) (list_all is_target_byte xs) h in
    and_from (is_target_byte x) (list_all is_target_byte (take n xs)) parts.0 (clean_take n xs parts.1)

ascii_byte : (b : ℕ) → is_target_byte b ≡ true → b < 128
ascii_byte b h = grind (arith, nat_tests)

ascii_clean : (xs : List ℕ) → list_all is_target_byte xs ≡ true → IsAscii xs
ascii_clean xs h =
    IsAscii-from_all xs (All-weaker (λ b. is_target_byte b ≡ true) (λ b. b < 128) ascii_byte xs (AllPass-from_list_all is_target_byte xs h))

rooted : (b : Bool) (path : List ℕ) → list_all is_target_byte path ≡ true → list_all is_target_byte (if b then codes "/" else path) ≡ true
rooted true path h = refl
rooted false path h = h

-- the text is clean, if there is one
abbrev IsClean : Option (List ℕ) → Type 0
IsClean (Some text) = list_all is_target_byte text ≡ true
IsClean None = Unit {0}

path_on_clean : (target : List ℕ) → list_all is_target_byte target ≡ true → IsClean (path_on target)
unfolding path_on
path_on_clean target h = by_form (starts_with nat_eq target (codes "/")) (starts_with nat_eq target (codes "http://"))
  where
    by_form : (a b : Bool) → IsClean (if a then Some target else if b then Some (behind_authority (drop (length (codes "http://")) target)) else None)
    by_form true b = h
    by_form false true =
        let rest = drop (length (codes "http://")) target in
        clean_drop (position_or_len (λ b. b == 47 || b == 63) rest) rest (clean_drop (length (codes "http://")) target h)
    by_form false false = tt

parts_clean : (on : Option (List ℕ)) (path query : List ℕ) → IsClean on → path_and_query on ≡ Ok (path, query) → list_all is_target_byte path ≡ true
parts_clean (Some text) path query h given =
    let before = before_first (λ b. b == 63) text in
    let both : ◌≡◌ {A = List ℕ × List ℕ} (path_or_root before, after_first (λ b. b == 63) text) (path, query) = cc in
    ap (λ p. list_all is_target_byte p.0) (sym both)
    ∙ rooted (length before == 0) before (clean_take (position_or_len (λ b. b == 63) text) text h)
parts_clean None path query h given = absurd cc

pub path_is_ascii : (target path query : List ℕ) → split_target target ≡ Ok (path, query) → IsAscii path
unfolding split_target
path_is_ascii target path query given = by_bytes (list_all is_target_byte target) refl given
  where
    by_bytes : (b : Bool) → list_all is_target_byte target ≡ b
        → ◌≡◌ {A = Result (List ℕ × List ℕ) TargetFault} (if b then path_and_query (path_on target) else Err bad_path) (Ok (path, query)) → IsAscii path
    by_bytes true clean given = ascii_clean path (parts_clean (path_on target) path query (path_on_clean target clean) given)
    by_bytes false clean given = absurd cc
