-- The entries of a wanted rule, each once, and the rules that meet one.
use Rattle.std.proofs.Common.{◌≡◌, ℕ, ◌==◌, Bool, true, false, ◌||◌, List, [], ◌∷◌, ◌++◌, length, map, refl, ap, sym, ◌∙◌}
use Rattle.std.proofs.Math.Dec.{eqb-suc-zero}
use Rattle.std.proofs.lemmas.List.Folds.{list_any-append}
use Rattle.std.specs.BTreeSet.{BTreeSet}
use Rattle.std.specs.List.{list_any}
use Rattle.std.specs.Str.{bytes_eq}
use denote.Ref.{Bor}
use Rattle.kapi_text.proofs.Booleans.{turned}
use Rattle.kapi_rules.specs.Atoms.{names_of}
use Rattle.kapi_rules.specs.declared.atom.Atom.{Atom}
use Rattle.kapi_rules.specs.declared.atom.Names.TheVariants as names
use Rattle.kapi_missing.proofs.Repeats.{some_once}
use Rattle.kapi_missing.specs.Private.Left.{item, items_in}
use Rattle.kapi_missing.specs.Private.Once.{HasWords, is_in, once_each, with_word}
use Rattle.kapi_missing.specs.Private.Stoppers.{names_item, word_in}
use Rattle.kapi_missing.specs.declared.rows.List.{List as Of}
use Rattle.kapi_missing.specs.declared.rows.List.TheVariants as of
use Rattle.kapi_missing.specs.declared.rows.ListEntry.{ListEntry}

map_push : (list : Of) (words : List (List ℕ)) (word : List ℕ) → map (word_in list) (words ++ word ∷ []) ≡ map (word_in list) words ++ word_in list word ∷ []
map_push list [] word = refl
map_push list (w ∷ words) word = ap (λ r. word_in list w ∷ r) (map_push list words word)

pub items_push : (parts : List ListEntry) (p : ListEntry) → items_in (parts ++ p ∷ []) ≡ items_in parts ++ item p ∷ []
items_push [] p = refl
items_push (q ∷ parts) p = ap (λ r. item q ∷ r) (items_push parts p)

last_first : (a b : Bool) → (b || a) ≡ (a || (b || false))
last_first true true = refl
last_first true false = refl
last_first false true = refl
last_first false false = refl

pub pushed : (list : Of) (parts more : List ListEntry) (p : ListEntry) (old new : BTreeSet (Bor (List ℕ))) (words : List (List ℕ)) (word : List ℕ) → is_in old word ≡ false
    → more ≡ parts ++ p ∷ [] → item p ≡ word_in list word → ((w : List ℕ) → is_in new w ≡ (bytes_eq word w || is_in old w))
    → items_in parts ≡ map (word_in list) words → HasWords old words → (items_in more ≡ map (word_in list) (with_word words word)) × HasWords new (with_word words word)
pushed list parts more p old new words word absent is one grown were has = (
  rw fresh (ap items_in is ∙ items_push parts p ∙ rw (were, one) (sym (map_push list words word))),
  λ w. rw fresh (grown w ∙ rw (has w, turned word w) (last_first (list_any (bytes_eq w) words) (bytes_eq w word) ∙ sym (list_any-append (bytes_eq w) words (word ∷ [])))),
)
  where
    fresh : list_any (bytes_eq word) words ≡ false
    fresh = sym (has word) ∙ absent

pub stays : (list : Of) (parts : List ListEntry) (old : BTreeSet (Bor (List ℕ))) (words : List (List ℕ)) (word : List ℕ) → is_in old word ≡ true
    → items_in parts ≡ map (word_in list) words → HasWords old words → (items_in parts ≡ map (word_in list) (with_word words word)) × HasWords old (with_word words word)
stays list parts old words word there were has = rw (sym (has word) ∙ there) (were, has)

-- listed names are not all names
pub listed_names : (entries : List (List ℕ)) → (length entries == 0) ≡ false → map (word_in of.Names) (once_each entries) ≡ map names_item (names_of (once_each entries))
listed_names [] some = absurd (let never : true ≡ false = some in cc)
listed_names (x ∷ xs) some = rw (some_once (λ (a : Atom). true) x xs) (sym (through (once_each (x ∷ xs))))
  where
    through : (ns : List (List ℕ)) → map names_item (map names.One ns) ≡ map (word_in of.Names) ns
    through [] = refl
    through (n ∷ ns) = ap (λ r. word_in of.Names n ∷ r) (through ns)

pub no_names : (entries : List (List ℕ)) → (length entries == 0) ≡ true → names_item names.All ∷ [] ≡ map names_item (names_of (once_each entries))
unfolding once_each
no_names [] none = refl
no_names (x ∷ xs) none = absurd (let some = sym (eqb-suc-zero (length xs)) ∙ none in cc)
