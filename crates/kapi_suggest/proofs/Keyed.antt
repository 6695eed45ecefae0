-- Atoms under their keys.
use Rattle.std.proofs.Common.{◌≡◌, ◌⊎◌, inl, inr, ℕ, Bool, true, false, cond, ◌&&◌, ◌||◌, List, [], ◌∷◌, ◌++◌, Option, Some, None, nat_eq, refl, sym, ap, ◌∙◌}
use Rattle.std.proofs.lemmas.Bool.{and_parts, or_cases, or_left, or_right}
use Rattle.std.proofs.lemmas.List.Folds.{list_any-append}
use Rattle.std.proofs.lemmas.Map.Text.{is_eq-slice_cmp}
use Rattle.std.specs.BTreeMap.{is_at}
use Rattle.std.specs.Cmp.Lexicographic.{nat_list_cmp_total, slice_cmp}
use Rattle.std.specs.List.{ends_with, list_any, starts_with}
use Rattle.std.specs.Map.{lookup, remove_entry}
use Rattle.std.specs.Option.{unwrap_or}
use Rattle.std.specs.Ordering.{nat_cmp}
use Rattle.std.specs.Str.{bytes_eq}
use Rattle.kapi_text.proofs.Booleans.{and_false, or_false}
use Rattle.kapi_rules.proofs.Covers.{itself, same}
use Rattle.kapi_rules.specs.Atoms.{after_slash, implies, is_any_with, names_cover, resource_covers}
use Rattle.kapi_rules.specs.Entries.{beginning_matches, star, url_matches, word_matches}
use Rattle.kapi_rules.specs.declared.atom.Atom.{Atom}
use Rattle.kapi_rules.specs.declared.atom.Atom.TheVariants as atom
use Rattle.kapi_rules.specs.declared.atom.Names.{Names}
use Rattle.kapi_rules.specs.declared.atom.Names.TheVariants as names
use Rattle.kapi_policy.proofs.Sets.{delete_keeps, delete_sets, put_keeps, put_sets}
use Rattle.kapi_suggest.proofs.Bound.{any_both}
use Rattle.kapi_suggest.specs.Needs.{is_implied}
use Rattle.kapi_suggest.specs.Private.Keyed.{IsIndex, is_wide, key_of, name_among, named, target, under, unnamed, with_under}

-- ---- whatever implies an atom lies under one of three keys

-- a target that is not wide covers itself alone
resource_same : (e r : List ℕ) → is_wide e ≡ false → resource_covers e r ≡ true → e ≡ r
resource_same e r narrow h = by_case (or_cases (word_matches e r) (is_any_with e (after_slash r)) h)
  where
    by_word : (bytes_eq e star ≡ true) ⊎ (bytes_eq e r ≡ true) → e ≡ r
    by_word (inl all) = absurd (let is = same e star all in let never = rw is at narrow in cc)
    by_word (inr is) = same e r is

    by_rest : (o : Option (List ℕ)) → is_any_with e o ≡ true → e ≡ r
    by_rest None h = absurd (cc h)
    by_rest (Some s) h = absurd (let is = same e (42 ∷ 47 ∷ s) h in let never = rw is at narrow in cc)

    by_case : (word_matches e r ≡ true) ⊎ (is_any_with e (after_slash r) ≡ true) → e ≡ r
    by_case (inl word) = by_word (or_cases (bytes_eq e star) (bytes_eq e r) word)
    by_case (inr rest) = by_rest (after_slash r) rest

url_same : (e u : List ℕ) → is_wide e ≡ false → url_matches e u ≡ true → e ≡ u
url_same e u narrow h = by_case (or_cases (bytes_eq e u) (beginning_matches e u) h)
  where
    by_case : (bytes_eq e u ≡ true) ⊎ (beginning_matches e u ≡ true) → e ≡ u
    by_case (inl is) = same e u is
    by_case (inr begins) =
        absurd (let wide : is_wide e ≡ true = or_right (starts_with nat_eq e star) (ends_with nat_eq e star) (and_parts _ _ begins).0 in
        let never = sym narrow ∙ wide in cc)

-- a key is one of three
abbrev is_one : List ℕ → List ℕ → List ℕ → Bool
is_one x y k = bytes_eq x k || (bytes_eq y k || bytes_eq star k)

one_name : (t : List ℕ) (n m : Names) → names_cover n m ≡ true → is_one (t ++ 32 ∷ name_among m) (t ++ 32 ∷ []) (t ++ 32 ∷ name_among n) ≡ true
one_name t names.All m h = or_right _ _ (or_left _ _ (itself (t ++ 32 ∷ [])))
one_name t (names.One n) names.All h = absurd (cc h)
one_name t (names.One n) (names.One m) h = or_left (bytes_eq (t ++ 32 ∷ m) (t ++ 32 ∷ n)) _ (rw (same n m h) (itself (t ++ 32 ∷ m)))

one_if_narrow : (b a : Atom) → implies b a ≡ true → is_wide (target b) ≡ false → is_one (named a) (unnamed a) (named b) ≡ true
one_if_narrow (atom.Resource b) (atom.Resource a) h narrow =
    let verb = and_parts (word_matches b.verb a.verb) _ h in
    let group = and_parts (word_matches b.group a.group) _ verb.1 in
    let parts = and_parts (resource_covers b.resource a.resource) (names_cover b.names a.names) group.1 in
    let is : b.resource ≡ a.resource = resource_same b.resource a.resource narrow parts.0 in
    rw is (one_name a.resource b.names a.names parts.1)
one_if_narrow (atom.Resource b) (atom.Url a) h narrow = absurd (cc h)
one_if_narrow (atom.Url b) (atom.Resource a) h narrow = absurd (cc h)
one_if_narrow (atom.Url b) (atom.Url a) h narrow =
    let is : b.url ≡ a.url = url_same b.url a.url narrow (and_parts (word_matches b.verb a.verb) (url_matches b.url a.url) h).1 in
    rw is (or_left _ _ (itself (a.url ++ 32 ∷ [])))

lies_there : (b a : Atom) → implies b a ≡ true → is_one (named a) (unnamed a) (key_of b) ≡ true
lies_there b a h = by_width (is_wide (target b)) (one_if_narrow b a h)
  where
    by_width : (c : Bool) → (c ≡ false → is_one (named a) (unnamed a) (named b) ≡ true) → is_one (named a) (unnamed a) (cond c star (named b)) ≡ true
    by_width true narrow = or_right _ _ (or_right _ _ refl)
    by_width false narrow = narrow refl

-- ---- look-ups

module _ (atoms : List Atom) (sets : List (List ℕ × List Atom)) (index : IsIndex atoms sets) (a : Atom) where
  -- it lies under the key and implies the atom
  abbrev by : List ℕ → Atom → Bool
  by k b = bytes_eq k (key_of b) && implies b a

  all_three : (x p y q z r : Bool) → x ≡ p → y ≡ q → z ≡ r → (x || (y || z)) ≡ (p || (q || r))
  all_three x p y q z r e f g = λ i. e i || (f i || g i)

  among : (x y z i : Bool) → (i ≡ true → (x || (y || z)) ≡ true) → ((x && i) || ((y && i) || (z && i))) ≡ i
  among true y z true h = refl
  among false true z true h = refl
  among false false z true h = rw (h refl) refl
  among x y z false h = rw (and_false x, and_false y, and_false z) refl

  pub looked_up : (is_implied (under sets (named a)) a || (is_implied (under sets (unnamed a)) a || is_implied (under sets star) a)) ≡ is_implied atoms a
  looked_up =
      all_three _ _ _ _ _ _ (index.each (named a) (λ b. implies b a)) (index.each (unnamed a) (λ b. implies b a)) (index.each star (λ b. implies b a))
      ∙ ap (λ t. list_any (by (named a)) atoms || t) (any_both (by (unnamed a)) (by star) (λ b. by (unnamed a) b || by star b) atoms (λ b. refl))
      ∙ any_both (by (named a)) (λ b. by (unnamed a) b || by star b) (λ b. implies b a) atoms
      (λ b. among (bytes_eq (named a) (key_of b)) (bytes_eq (unnamed a) (key_of b)) (bytes_eq star (key_of b)) (implies b a) (lies_there b a))

  -- ---- one atom more

  abbrev k : List ℕ
  k = key_of a

  abbrev rest : List (List ℕ × List Atom)
  rest = remove_entry (is_at (slice_cmp nat_cmp k)) sets

  found : (q : List ℕ) → lookup (is_at (slice_cmp nat_cmp q)) (with_under sets k a)
      ≡ cond (bytes_eq q k) (Some (under sets k ++ a ∷ [])) (cond (bytes_eq q k) None (lookup (is_at (slice_cmp nat_cmp q)) sets))
  found q =
      put_sets (slice_cmp nat_cmp) nat_list_cmp_total rest k (under sets k ++ a ∷ []) q
      ∙ ap (cond (is_at (slice_cmp nat_cmp q) k) (Some (under sets k ++ a ∷ []))) (delete_sets (slice_cmp nat_cmp) nat_list_cmp_total sets k index.sorted q)
      ∙ ap (λ c. cond c (Some (under sets k ++ a ∷ [])) (cond c None (lookup (is_at (slice_cmp nat_cmp q)) sets))) (is_eq-slice_cmp q k)

  by_key : (q : List ℕ) (test : Atom → Bool) (c : Bool) → bytes_eq q k ≡ c
      → list_any test (unwrap_or (cond c (Some (under sets k ++ a ∷ [])) (cond c None (lookup (is_at (slice_cmp nat_cmp q)) sets))) [])
      ≡ (list_any (λ b. bytes_eq q (key_of b) && test b) atoms || ((c && test a) || false))
  by_key q test true is =
      list_any-append test (under sets k) (a ∷ [])
      ∙ ap (λ t. t || (test a || false)) (ap (λ x. list_any test (under sets x)) (sym (same q k is)) ∙ index.each q test)
  by_key q test false other = index.each q test ∙ sym (or_false _)

  pub added : IsIndex (atoms ++ a ∷ []) (with_under sets k a)
  added = record {
    sorted = put_keeps (slice_cmp nat_cmp) nat_list_cmp_total rest k _ (delete_keeps (slice_cmp nat_cmp) nat_list_cmp_total (is_at (slice_cmp nat_cmp k)) sets index.sorted);
    each = λ q test. ap (λ o. list_any test (unwrap_or o [])) (found q) ∙ by_key q test (bytes_eq q k) refl
        ∙ sym (list_any-append (λ b. bytes_eq q (key_of b) && test b) atoms (a ∷ []));
  }
