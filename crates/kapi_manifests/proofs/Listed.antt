-- The items of a list, and what a piece is read as.
use Rattle.std.proofs.Common.{◌≡◌, ◌∙◌, ℕ, List, [], ◌∷◌, Bool, true, false, true≢false, ◌&&◌, ◌==◌, if◌then◌else◌, Option, Some, None, is_some, map, option_and_then, option_map, slice_index, refl, ap, sym}
use Rattle.std.specs.Str.{IsUtf8, is_utf8}
use Rattle.std.proofs.lemmas.Str.{IsUtf8-from_is_utf8, is_utf8-from_IsUtf8}
use Rattle.serde_json.specs.Data.{Data, Items}
use Rattle.serde_json.specs.Find.{as_array}
use Rattle.serde_json.specs.Read.{read}
use Rattle.serde_json.specs.View.{items_of}
use Rattle.kapi_manifests.specs.Files.{document, fault, listed, opened_by, read_or_fault, read_piece}
use Rattle.kapi_manifests.specs.Kinds.{item_kind, kind_of, version_of}
use Rattle.kapi_manifests.specs.Sorting.{item_of}

pub listed_items : (ds : List Data) → listed (items_of ds) ≡ ds
listed_items [] = refl
listed_items (d ∷ ds) = ap (λ xs. d ∷ xs) (listed_items ds)

twice : (f : Data → Data) (xs : Option Items) → option_map (map f) (option_map listed xs) ≡ option_map (λ ds. map f (listed ds)) xs
twice f None = refl
twice f (Some ds) = refl

-- the items of a document that has some, each of its kind
pub opened_items : (d : Data) (found : Option Data) (items : Option (List Data)) → is_some found ≡ true → items ≡ option_map listed (option_and_then as_array found)
    → option_map (map (item_of (item_kind (kind_of d)) (version_of d))) items ≡ opened_by d found
opened_items d None items some is = absurd (true≢false (sym some))
opened_items d (Some value) items some is = ap (option_map (map (item_of (item_kind (kind_of d)) (version_of d)))) is ∙ twice (item_of (item_kind (kind_of d)) (version_of d)) (as_array value)

-- a text that begins with a brace and reads as an object
pub piece_read : (text : List ℕ) (d : Data) → slice_index text 0 ≡ 123 → IsUtf8 text → read text ≡ Some d → document d ≡ read_piece text
unfolding read_piece
piece_read text d brace utf8 reads = sym (rw (brace, is_utf8-from_IsUtf8 text utf8, reads) refl)

-- a text that reads as nothing
pub piece_not_read : (text : List ℕ) → (IsUtf8 text → read text ≡ None) → fault ≡ read_piece text
unfolding read_piece
piece_not_read text h =
    let P : Bool → Type 0 = λ b. (is_utf8 text ≡ b) → fault ≡ (if (slice_index text 0 == 123) && b then read_or_fault (read text) else fault) in
    let Q : Bool → Type 0 = λ b. fault ≡ (if b && true then read_or_fault (read text) else fault) in
    let yes : is_utf8 text ≡ true → fault ≡ (if (slice_index text 0 == 123) && true then read_or_fault (read text) else fault) =
    λ is. rw (h (IsUtf8-from_is_utf8 text is)) (elim (slice_index text 0 == 123) as (λ b. fault ≡ (if b && true then fault else fault)) [ true ↦ refl | false ↦ refl ]) in
    let no : is_utf8 text ≡ false → fault ≡ (if (slice_index text 0 == 123) && false then read_or_fault (read text) else fault) =
    λ is. elim (slice_index text 0 == 123) as (λ b. fault ≡ (if b && false then read_or_fault (read text) else fault)) [ true ↦ refl | false ↦ refl ] in
    let cases : P (is_utf8 text) = elim (is_utf8 text) as P [ true ↦ yes | false ↦ no ] in
    cases refl
