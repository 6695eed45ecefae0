-- Objects that are taken one after the other.
use Rattle.std.proofs.Common.{◌≡◌, ◌==◌, ◌∙◌, ◌+◌, ◌<◌, ◌++◌, ℕ, List, [], ◌∷◌, append-nil, append_assoc, get_or, length, map, slice_index, take, true, false, refl, ap, sym, arith}
use Rattle.std.proofs.lemmas.Bool.Decides.{nat_tests}
use Rattle.std.specs.List.{flat_map}
use Rattle.std.proofs.lemmas.Grind.{flat_map-append}
use Rattle.std.proofs.lemmas.List.{map-append, take_more}
use Rattle.serde_json.specs.Data.{Data}
use Rattle.kapi_manifests.specs.Files.{Takes, begins_yaml, data_of, fault, is_yaml, read_piece, readings, readings_of, unmarked, faults_among, sum_of}
use Rattle.kapi_manifests.specs.Pieces.{piece_in, pieces, spans_of}
use Rattle.kapi_manifests.specs.Sorting.{faults_if, namespace_if, object_if, sort_of}
use Rattle.kapi_manifests.specs.declared.cut.Span.{Span}
use Rattle.kapi_manifests.specs.declared.sorted.Options.{Options}
use Rattle.kapi_manifests.specs.declared.sorted.Sorted.{Sorted}

pub sum_append : {X : Type 0} (f : X → ℕ) (xs ys : List X) → sum_of f (xs ++ ys) ≡ sum_of f xs + sum_of f ys
sum_append f [] ys = omega arith
sum_append f (x ∷ xs) ys = let h : sum_of f (xs ++ ys) ≡ sum_of f xs + sum_of f ys = sum_append f xs ys in omega (arith, h)

-- nothing is taken
pub takes_none : (o : Options) (a : Sorted) → Takes o a a [] 0
takes_none o a = record {
  namespaces = sym (append-nil (map data_of a.namespaces.items));
  objects = sym (append-nil (map data_of a.objects.items));
  faults = omega arith;
}

joined : {X Y : Type 0} (f : X → List Y) (old mid new : List Y) (xs ys : List X) → mid ≡ old ++ flat_map f xs → new ≡ mid ++ flat_map f ys → new ≡ old ++ flat_map f (xs ++ ys)
joined f old mid new xs ys first second =
    second ∙ ap (λ l. l ++ flat_map f ys) first ∙ append_assoc old (flat_map f xs) (flat_map f ys) ∙ ap (λ l. old ++ l) (sym (flat_map-append f xs ys))

-- some objects, and then others
pub takes_more : (o : Options) (a b c : Sorted) (ds es : List Data) (n m : ℕ) → Takes o a b ds n → Takes o b c es m → Takes o a c (ds ++ es) (n + m)
takes_more o a b c ds es n m first second =
    let more : faults_among o.kinds.now o.scope o.namespace.now (ds ++ es) ≡ faults_among o.kinds.now o.scope o.namespace.now ds + faults_among o.kinds.now o.scope o.namespace.now es =
    sum_append (λ d. faults_if (sort_of o.kinds.now o.scope o.namespace.now d)) ds es in
    record {
      namespaces = joined (λ d. namespace_if (sort_of o.kinds.now o.scope o.namespace.now d) d) _ _ _ ds es first.namespaces second.namespaces;
      objects = joined (λ d. object_if (sort_of o.kinds.now o.scope o.namespace.now d) o.namespace.now d) _ _ _ ds es first.objects second.objects;
      faults = omega (arith, more, first.faults, second.faults);
    }

-- what one element more of a list stands for
pub takes_next : {X Y : Type 0} (r : X → Y) (f : Y → List Data) (g : Y → ℕ) (o : Options) (a b c : Sorted) (xs : List X) (i : ℕ) (x : X) → i < length xs
    → Takes o a b (flat_map f (map r (take i xs))) (sum_of g (map r (take i xs))) → Takes o b c (f (r (get_or xs i x))) (g (r (get_or xs i x)))
    → Takes o a c (flat_map f (map r (take (i + 1) xs))) (sum_of g (map r (take (i + 1) xs)))
takes_next {X} {Y} r f g o a b c xs i x below first second =
    let done : List Y = map r (take i xs) in
    let y : Y = r (get_or xs i x) in
    let all : map r (take (i + 1) xs) ≡ done ++ y ∷ [] = ap (map r) (take_more xs i x below) ∙ map-append r (take i xs) (get_or xs i x ∷ []) in
    let objects : flat_map f (done ++ y ∷ []) ≡ flat_map f done ++ f y = flat_map-append f done (y ∷ []) ∙ ap (λ l. flat_map f done ++ l) (append-nil (f y)) in
    let sum : sum_of g (done ++ y ∷ []) ≡ sum_of g done + g y = let h : sum_of g (done ++ y ∷ []) ≡ sum_of g done + sum_of g (y ∷ []) = sum_append g done (y ∷ []) in omega (arith, h) in
    rw (all, objects, sum) (takes_more o a b c (flat_map f done) (f y) (sum_of g done) (g y) first second)

pub map_twice : {X Y Z : Type 0} (f : Y → Z) (g : X → Y) (xs : List X) → map (λ x. f (g x)) xs ≡ map f (map g xs)
map_twice f g [] = refl
map_twice f g (x ∷ xs) = ap (λ l. f (g x) ∷ l) (map_twice f g xs)

-- the pieces of a file that does not begin like YAML, read
pub file_read : (text : List ℕ) → is_yaml (pieces text) ≡ false → map (λ s. read_piece (piece_in text s)) (spans_of text) ≡ readings_of (pieces text)
file_read text json = map_twice read_piece (piece_in text) (spans_of text) ∙ sym (rw json refl)

-- a piece that begins like YAML is no JSON text of an object
not_json : (text : List ℕ) → begins_yaml (slice_index text 0) ≡ true → read_piece text ≡ fault
unfolding read_piece
not_json text yaml = let other : (slice_index text 0 == 123) ≡ false = grind (arith, nat_tests) in rw other refl

first_read : (text : List ℕ) (ss : List Span) → is_yaml (map (piece_in text) ss) ≡ true → map (λ s. read_piece (piece_in text s)) (take 1 ss) ≡ fault ∷ []
first_read text [] yaml = cc
first_read text (s ∷ ss) yaml = ap (λ r. r ∷ []) (not_json (piece_in text s) yaml)

-- the first piece of a file that begins like YAML, read
pub yaml_read : (text : List ℕ) → is_yaml (pieces text) ≡ true → map (λ s. read_piece (piece_in text s)) (take 1 (spans_of text)) ≡ readings_of (pieces text)
yaml_read text yaml = first_read text (spans_of text) yaml ∙ sym (rw yaml refl)

-- the pieces that are read of a text without its byte order mark
pub all_read : (text bare : List ℕ) (ss all : List Span) → ss ≡ all → bare ≡ unmarked text → map (λ s. read_piece (piece_in bare s)) all ≡ readings_of (pieces bare)
    → map (λ s. read_piece (piece_in bare s)) ss ≡ readings text
unfolding readings
all_read text bare ss all same is read = rw same read ∙ ap (λ t. readings_of (pieces t)) is
