-- The atoms of a rule once: those of the rule without repeated entries.
use Rattle.std.proofs.Common.{◌≡◌, ℕ, ◌==◌, Bool, true, false, not, ◌&&◌, ◌||◌, if◌then◌else◌, List, [], ◌∷◌, ◌++◌, length, map, refl, ap, subst, sym, ◌∙◌, append_assoc, append-nil}
use Rattle.std.proofs.Math.Dec.{eqb-suc-zero}
use Rattle.std.proofs.lemmas.Bool.{and_parts, or_left, or_right, or_parts, or_from}
use Rattle.std.proofs.lemmas.Grind.{fold-append, flat_map-append}
use Rattle.std.proofs.lemmas.List.Folds.{list_any-append}
use Rattle.std.specs.List.{filter, flat_map, fold, list_any}
use Rattle.std.specs.Str.{bytes_eq}
use Rattle.kapi_text.proofs.Booleans.{or_false, and_false, absorbed, regrouped, passing, failing}
use Rattle.kapi_model.specs.declared.policy_rule.PolicyRule.{PolicyRule}
use Rattle.kapi_rules.proofs.Covers.{itself, same}
use Rattle.kapi_rules.proofs.Law.{any_weaker}
use Rattle.kapi_rules.proofs.Listed.{same_decides}
use Rattle.kapi_rules.proofs.Parts.{any_flat_map, any_map, any_same}
use Rattle.kapi_rules.specs.Atoms.{atoms, group_atoms, names_of, resource_atom, resource_atoms, url_atom, url_atoms, verb_atoms}
use Rattle.kapi_rules.specs.Missing.{each_once, is_missing, missing, rule_implies, same_atom, with_atom}
use Rattle.kapi_rules.specs.declared.atom.Atom.{Atom}
use Rattle.kapi_rules.specs.declared.atom.Atom.TheVariants as atom
use Rattle.kapi_rules.specs.declared.atom.Names.{Names}
use Rattle.kapi_rules.specs.declared.atom.Names.TheVariants as names
use Rattle.kapi_missing.specs.Private.Once.{is_covered, once, once_each, with_word}

-- ---- elements of lists

abbrev pub has_atom : List Atom → Atom → Bool
has_atom list a = list_any (same_atom a) list

pub are_same : (a b : Atom) → same_atom a b ≡ true → a ≡ b
are_same a b h = (same_decides a b).0 h

pub is_itself : (a : Atom) → same_atom a a ≡ true
is_itself a = (same_decides a a).1 refl

turned : (a b : Atom) → same_atom a b ≡ same_atom b a
turned a b = by_case (same_atom a b) (same_atom b a) refl refl
  where
    by_case : (s t : Bool) → same_atom a b ≡ s → same_atom b a ≡ t → s ≡ t
    by_case true true p q = refl
    by_case true false p q = absurd (let e = are_same a b p in let r : same_atom b a ≡ true = rw e (is_itself b) in cc)
    by_case false true p q = absurd (let e = are_same b a q in let r : same_atom a b ≡ true = rw e (is_itself a) in cc)
    by_case false false p q = refl

pub either_way : (a : Atom) (list : List Atom) → list_any (λ f. same_atom f a) list ≡ has_atom list a
either_way a list = any_same _ _ list (λ f. turned f a)

-- what follows from each element that passes follows from there being one
pub from_some : {X : Type 0} {C : Type 0} (p : X → Bool) (xs : List X) → list_any p xs ≡ true → ((x : X) → p x ≡ true → C) → C
from_some p [] some leads = absurd cc
from_some {X} {C} p (x ∷ xs) some leads = by_case (p x) refl some (λ rest. from_some p xs rest leads)
  where
    by_case : (t : Bool) → p x ≡ t → (t || list_any p xs) ≡ true → (list_any p xs ≡ true → C) → C
    by_case true is h more = leads x is
    by_case false is h more = more h

in_flat : {X : Type 0} {C : Type 0} (f : X → List Atom) (xs : List X) (b : Atom) → has_atom (flat_map f xs) b ≡ true → ((x : X) → has_atom (f x) b ≡ true → C) → C
in_flat f xs b some leads = from_some (λ x. has_atom (f x) b) xs (sym (any_flat_map (same_atom b) f xs) ∙ some) leads

in_map : {X : Type 0} {C : Type 0} (f : X → Atom) (xs : List X) (b : Atom) → has_atom (map f xs) b ≡ true → ((x : X) → b ≡ f x → C) → C
in_map f xs b some leads = from_some (λ x. same_atom b (f x)) xs (sym (any_map (same_atom b) f xs) ∙ some) (λ x is. leads x (are_same b (f x) is))

-- ---- what a list grows by

grown : (b : Atom) (found list : List Atom) → has_atom (fold with_atom found list) b ≡ (has_atom found b || has_atom list b)
grown b found [] = sym (or_false (has_atom found b))
grown b found (a ∷ list) = by_case (list_any (λ f. same_atom f a) found) refl (λ longer. grown b longer list)
  where
    there : list_any (λ f. same_atom f a) found ≡ true → same_atom b a ≡ true → has_atom found b ≡ true
    there t e = rw (are_same b a e) (sym (either_way a found) ∙ t)

    by_case : (t : Bool) → list_any (λ f. same_atom f a) found ≡ t
        → ((longer : List Atom) → has_atom (fold with_atom longer list) b ≡ (has_atom longer b || has_atom list b))
        → has_atom (fold with_atom (with_atom found a) list) b ≡ (has_atom found b || (same_atom b a || has_atom list b))
    by_case true t more = rw t (more found ∙ absorbed (has_atom found b) (same_atom b a) (has_atom list b) (there t))
    by_case false t more =
        rw t (more (found ++ a ∷ []) ∙ ap (λ x. x || has_atom list b) (list_any-append (same_atom b) found (a ∷ []))
        ∙ regrouped (has_atom found b) (same_atom b a) (has_atom list b))

-- what is there already is not taken again
taken : (found list : List Atom) → ((b : Atom) → has_atom list b ≡ true → has_atom found b ≡ true) → fold with_atom found list ≡ found
taken found [] all = refl
taken found (a ∷ list) all =
    let here : list_any (λ f. same_atom f a) found ≡ true = either_way a found ∙ all a (or_left (same_atom a a) (has_atom list a) (is_itself a)) in
    rw here (taken found list (λ b there. all b (or_right (same_atom b a) (has_atom list b) there)))

pub filter_append : (p : Atom → Bool) (xs ys : List Atom) → filter p (xs ++ ys) ≡ filter p xs ++ filter p ys
filter_append p [] ys = refl
filter_append p (x ∷ xs) ys = by_case (p x) refl (filter_append p xs ys)
  where
    by_case : (t : Bool) → p x ≡ t → filter p (xs ++ ys) ≡ filter p xs ++ filter p ys → filter p (x ∷ (xs ++ ys)) ≡ filter p (x ∷ xs) ++ filter p ys
    by_case true t more = rw t (ap (λ r. x ∷ r) more)
    by_case false t more = rw t more

pub kept_by : (p : Atom → Bool) (b : Atom) (list : List Atom) → has_atom (filter p list) b ≡ (p b && has_atom list b)
kept_by p b [] = sym (and_false (p b))
kept_by p b (a ∷ list) = by_case (p a) refl (kept_by p b list)
  where
    by_case : (t : Bool) → p a ≡ t → has_atom (filter p list) b ≡ (p b && has_atom list b)
        → has_atom (filter p (a ∷ list)) b ≡ (p b && (same_atom b a || has_atom list b))
    by_case true t more = rw (t, more) (passing (p b) (same_atom b a) (has_atom list b) (λ e. ap p (are_same b a e) ∙ t))
    by_case false t more = rw (t, more) (failing (p b) (same_atom b a) (has_atom list b) (λ e. ap p (are_same b a e) ∙ t))

-- ---- lists that add the same

module _ (p : Atom → Bool) where
  -- those of the list that pass, after the found ones
  abbrev added : List Atom → List Atom → List Atom
  added found list = fold with_atom found (filter p list)

  added_append : (found xs ys : List Atom) → added found (xs ++ ys) ≡ added (added found xs) ys
  added_append found xs ys = rw (filter_append p xs ys) (fold-append with_atom found (filter p xs) (filter p ys))

  abbrev AddSame : List Atom → List Atom → Type 0
  AddSame xs ys = (found : List Atom) → added found xs ≡ added found ys

  same_flat : {X : Type 0} (f g : X → List Atom) → ((x : X) → AddSame (f x) (g x)) → (xs : List X) → AddSame (flat_map f xs) (flat_map g xs)
  same_flat f g same [] found = refl
  same_flat f g same (x ∷ xs) found =
      added_append found (f x) (flat_map f xs) ∙ ap (λ r. added r (flat_map f xs)) (same x found)
      ∙ same_flat f g same xs (added found (g x)) ∙ sym (added_append found (g x) (flat_map g xs))

  -- what stands in the list before adds nothing
  again : (f : List ℕ → List Atom) (before after : List (List ℕ)) (word : List ℕ) → list_any (bytes_eq word) before ≡ true
      → AddSame (flat_map f (before ++ word ∷ after)) (flat_map f (before ++ after))
  again f before after word listed found =
      ap (λ r. added found r) (flat_map-append f before (word ∷ after)) ∙ added_append found (flat_map f before) (f word ++ flat_map f after)
      ∙ added_append (added found (flat_map f before)) (f word) (flat_map f after)
      ∙ ap (λ r. added r (flat_map f after)) (taken (added found (flat_map f before)) (filter p (f word)) in_before)
      ∙ sym (added_append found (flat_map f before) (flat_map f after)) ∙ ap (λ r. added found r) (sym (flat_map-append f before after))
    where
      in_before : (b : Atom) → has_atom (filter p (f word)) b ≡ true → has_atom (added found (flat_map f before)) b ≡ true
      in_before b there =
          let parts = and_parts (p b) (has_atom (f word) b) (sym (kept_by p b (f word)) ∙ there) in
          let inside : has_atom (flat_map f before) b ≡ true =
          any_flat_map (same_atom b) f before ∙ any_weaker (bytes_eq word) (λ x. has_atom (f x) b) before (λ x is. rw (← same word x is) parts.1) listed in
          grown b found (filter p (flat_map f before)) ∙ rw (kept_by p b (flat_map f before), parts.0, inside) (or_right (has_atom found b) true refl)

  once_from : (f : List ℕ → List Atom) (before words : List (List ℕ)) → AddSame (flat_map f (before ++ words)) (flat_map f (fold with_word before words))
  once_from f before [] found = ap (λ r. added found (flat_map f r)) (append-nil before)
  once_from f before (word ∷ words) found = by_case (list_any (bytes_eq word) before) refl (λ longer. once_from f longer words)
    where
      by_case : (t : Bool) → list_any (bytes_eq word) before ≡ t
          → ((longer : List (List ℕ)) → AddSame (flat_map f (longer ++ words)) (flat_map f (fold with_word longer words)))
          → added found (flat_map f (before ++ word ∷ words)) ≡ added found (flat_map f (fold with_word (with_word before word) words))
      by_case true t more = rw t (again f before words word t found ∙ more before found)
      by_case false t more =
          rw t (ap (λ r. added found (flat_map f r)) (sym (append_assoc before (word ∷ []) words)) ∙ more (before ++ word ∷ []) found)

  same_once : (f : List ℕ → List Atom) (words : List (List ℕ)) → AddSame (flat_map f words) (flat_map f (once_each words))
  unfolding once_each
  same_once f words found = once_from f [] words found

  -- a level: each entry once, and below it what adds the same
  level : (f g : List ℕ → List Atom) (words : List (List ℕ)) → ((word : List ℕ) → AddSame (f word) (g word)) → AddSame (flat_map f words) (flat_map g (once_each words))
  level f g words same found = same_once f words found ∙ same_flat f g same (once_each words) found

  as_flat : {X : Type 0} (f : X → Atom) (xs : List X) → map f xs ≡ flat_map (λ x. f x ∷ []) xs
  as_flat f [] = refl
  as_flat f (x ∷ xs) = ap (λ r. f x ∷ r) (as_flat f xs)

  map_level : (f : List ℕ → Atom) (words : List (List ℕ)) → AddSame (map f words) (map f (once_each words))
  map_level f words found = rw (as_flat f words, as_flat f (once_each words)) (same_once (λ w. f w ∷ []) words found)

  longer : (first : List ℕ) (found words : List (List ℕ)) → (length (fold with_word (first ∷ found) words) == 0) ≡ false
  longer first found [] = eqb-suc-zero (length found)
  longer first found (w ∷ words) = by_case (list_any (bytes_eq w) (first ∷ found)) refl (λ more. longer first more words)
    where
      by_case : (t : Bool) → list_any (bytes_eq w) (first ∷ found) ≡ t → ((more : List (List ℕ)) → (length (fold with_word (first ∷ more) words) == 0) ≡ false)
          → (length (fold with_word (with_word (first ∷ found) w) words) == 0) ≡ false
      by_case true t more = rw t (more found)
      by_case false t more = rw t (more (found ++ w ∷ []))

  pub some_once : (x : List ℕ) (xs : List (List ℕ)) → (length (once_each (x ∷ xs)) == 0) ≡ false
  unfolding once_each
  some_once x xs = longer x [] xs

  none_once : (f : Names → Atom) → AddSame (map f (names_of [])) (map f (names_of (once_each [])))
  unfolding once_each
  none_once f found = refl

  names_level : (f : Names → Atom) (listed : List (List ℕ)) → AddSame (map f (names_of listed)) (map f (names_of (once_each listed)))
  names_level f [] found = none_once f found
  names_level f (x ∷ xs) found =
      rw (eqb-suc-zero (length xs), some_once x xs) (ap (λ r. added found r) (through (x ∷ xs)) ∙ map_level (λ n. f (names.One n)) (x ∷ xs) found ∙ ap (λ r. added found r) (sym (through (once_each (x ∷ xs)))))
    where
      through : (listed : List (List ℕ)) → map f (map names.One listed) ≡ map (λ n. f (names.One n)) listed
      through [] = refl
      through (n ∷ ns) = ap (λ r. f (names.One n) ∷ r) (through ns)

  pub atoms_add_same : (rule : PolicyRule) → AddSame (atoms rule) (atoms (once rule))
  unfolding atoms
  atoms_add_same rule found =
      added_append found (flat_map (group_atoms rule) rule.api_groups) (flat_map (url_atoms rule) rule.non_resource_urls)
      ∙ ap (λ r. added r (flat_map (url_atoms rule) rule.non_resource_urls)) (groups found)
      ∙ urls (added found (flat_map (group_atoms (once rule)) (once_each rule.api_groups)))
      ∙ sym (added_append found (flat_map (group_atoms (once rule)) (once_each rule.api_groups)) (flat_map (url_atoms (once rule)) (once_each rule.non_resource_urls)))
    where
      groups : AddSame (flat_map (group_atoms rule) rule.api_groups) (flat_map (group_atoms (once rule)) (once_each rule.api_groups))
      groups = level (group_atoms rule) (group_atoms (once rule)) rule.api_groups (λ group.
          level (resource_atoms rule group) (resource_atoms (once rule) group) rule.resources (λ resource.
          level (verb_atoms rule group resource) (verb_atoms (once rule) group resource) rule.verbs (λ verb.
          names_level (resource_atom verb group resource) rule.resource_names)))

      urls : AddSame (flat_map (url_atoms rule) rule.non_resource_urls) (flat_map (url_atoms (once rule)) (once_each rule.non_resource_urls))
      urls = level (url_atoms rule) (url_atoms (once rule)) rule.non_resource_urls (λ url. map_level (λ verb. url_atom verb url) rule.verbs)

-- ---- lists without repeats

abbrev AreWordsApart : List (List ℕ) → Type 0
AreWordsApart [] = Unit {0}
AreWordsApart (x ∷ xs) = (list_any (bytes_eq x) xs ≡ false) × AreWordsApart xs

abbrev AreApart : List Atom → Type 0
AreApart [] = Unit {0}
AreApart (x ∷ xs) = (has_atom xs x ≡ false) × AreApart xs

word_turned : (a b : List ℕ) → bytes_eq a b ≡ false → bytes_eq b a ≡ false
word_turned a b h = by_case (bytes_eq b a) refl
  where
    by_case : (t : Bool) → bytes_eq b a ≡ t → bytes_eq b a ≡ false
    by_case false t = t
    by_case true t = absurd (let e = same b a t in let r : bytes_eq a b ≡ true = rw e (itself a) in cc)

words_push : (xs : List (List ℕ)) (y : List ℕ) → AreWordsApart xs → list_any (bytes_eq y) xs ≡ false → AreWordsApart (xs ++ y ∷ [])
words_push [] y apart none = (refl, tt)
words_push (x ∷ xs) y apart none =
    let parts = or_parts (bytes_eq y x) (list_any (bytes_eq y) xs) none in (
      list_any-append (bytes_eq x) xs (y ∷ []) ∙ or_from (list_any (bytes_eq x) xs) (bytes_eq x y || false) apart.0 (or_false (bytes_eq x y) ∙ word_turned y x parts.0),
      words_push xs y apart.1 parts.1,
    )

words_stay : (found words : List (List ℕ)) → AreWordsApart found → AreWordsApart (fold with_word found words)
words_stay found [] apart = apart
words_stay found (w ∷ words) apart = by_case (list_any (bytes_eq w) found) refl (λ more is. words_stay more words is)
  where
    by_case : (t : Bool) → list_any (bytes_eq w) found ≡ t → ((more : List (List ℕ)) → AreWordsApart more → AreWordsApart (fold with_word more words))
        → AreWordsApart (fold with_word (with_word found w) words)
    by_case true t more = rw t (more found apart)
    by_case false t more = rw t (more (found ++ w ∷ []) (words_push found w apart t))

once_apart : (words : List (List ℕ)) → AreWordsApart (once_each words)
unfolding once_each
once_apart words = words_stay [] words tt

apart_append : (xs ys : List Atom) → AreApart xs → AreApart ys → ((b : Atom) → has_atom xs b ≡ true → has_atom ys b ≡ false) → AreApart (xs ++ ys)
apart_append [] ys p q no_common = q
apart_append (x ∷ xs) ys p q no_common = (
  list_any-append (same_atom x) xs ys ∙ or_from (has_atom xs x) (has_atom ys x) p.0 (no_common x (rw (is_itself x) refl)),
  apart_append xs ys p.1 q (λ b there. no_common b (or_right (same_atom b x) (has_atom xs b) there)),
)

-- the atoms of each entry are told from those of the others by one of their texts
apart_flat : (text : Atom → List ℕ) (f : List ℕ → List Atom) → ((x : List ℕ) (b : Atom) → has_atom (f x) b ≡ true → text b ≡ x) → ((x : List ℕ) → AreApart (f x))
    → (xs : List (List ℕ)) → AreWordsApart xs → AreApart (flat_map f xs)
apart_flat text f tells each [] apart = tt
apart_flat text f tells each (x ∷ xs) apart =
    apart_append (f x) (flat_map f xs) (each x) (apart_flat text f tells each xs apart.1) no_common
  where
    no_common : (b : Atom) → has_atom (f x) b ≡ true → has_atom (flat_map f xs) b ≡ false
    no_common b here = by_case (has_atom (flat_map f xs) b) refl
      where
        by_case : (t : Bool) → has_atom (flat_map f xs) b ≡ t → has_atom (flat_map f xs) b ≡ false
        by_case false t = t
        by_case true t = absurd (
            let listed : list_any (bytes_eq x) xs ≡ true =
            any_weaker (λ y. has_atom (f y) b) (bytes_eq x) xs (λ y is. rw (sym (tells x b here) ∙ tells y b is) (itself y)) (sym (any_flat_map (same_atom b) f xs) ∙ t) in
            let never = sym listed ∙ apart.0 in cc)

apart_map : (text : Atom → List ℕ) (f : List ℕ → Atom) → ((x : List ℕ) → text (f x) ≡ x) → (xs : List (List ℕ)) → AreWordsApart xs → AreApart (map f xs)
apart_map text f tells [] apart = tt
apart_map text f tells (x ∷ xs) apart = (none, apart_map text f tells xs apart.1)
  where
    none : has_atom (map f xs) (f x) ≡ false
    none = any_map (same_atom (f x)) f xs ∙ by_case (list_any (λ y. same_atom (f x) (f y)) xs) refl
      where
        by_case : (t : Bool) → list_any (λ y. same_atom (f x) (f y)) xs ≡ t → list_any (λ y. same_atom (f x) (f y)) xs ≡ false
        by_case false t = t
        by_case true t = absurd (
            let listed : list_any (bytes_eq x) xs ≡ true =
            any_weaker (λ y. same_atom (f x) (f y)) (bytes_eq x) xs
            (λ y is. rw (sym (tells x) ∙ ap text (are_same (f x) (f y) is) ∙ tells y) (itself y)) t in
            let never = sym listed ∙ apart.0 in cc)

abbrev verb_in : Atom → List ℕ
verb_in (atom.Resource a) = a.verb
verb_in (atom.Url a) = a.verb

abbrev group_in : Atom → List ℕ
group_in (atom.Resource a) = a.group
group_in (atom.Url a) = []

-- the resource or the URL
abbrev thing_in : Atom → List ℕ
thing_in (atom.Resource a) = a.resource
thing_in (atom.Url a) = a.url

abbrev name_in : Atom → List ℕ
name_in (atom.Resource a) = only a.names
  where
    only : Names → List ℕ
    only names.All = []
    only (names.One n) = n
name_in (atom.Url a) = []

abbrev is_on_url : Atom → Bool
is_on_url (atom.Resource a) = false
is_on_url (atom.Url a) = true

module _ (rule : PolicyRule) where
  verb_told : (group resource verb : List ℕ) (b : Atom) → has_atom (verb_atoms rule group resource verb) b ≡ true
      → (verb_in b ≡ verb) × (thing_in b ≡ resource) × (group_in b ≡ group) × (is_on_url b ≡ false)
  verb_told group resource verb b there =
      in_map (resource_atom verb group resource) (names_of rule.resource_names) b there (λ n is. (ap verb_in is, ap thing_in is, ap group_in is, ap is_on_url is))

  resource_told : (group resource : List ℕ) (b : Atom) → has_atom (resource_atoms rule group resource) b ≡ true
      → (thing_in b ≡ resource) × (group_in b ≡ group) × (is_on_url b ≡ false)
  resource_told group resource b there =
      in_flat (verb_atoms rule group resource) rule.verbs b there (λ verb is. let told = verb_told group resource verb b is in (told.1, told.2, told.3))

  group_told : (group : List ℕ) (b : Atom) → has_atom (group_atoms rule group) b ≡ true → (group_in b ≡ group) × (is_on_url b ≡ false)
  group_told group b there =
      in_flat (resource_atoms rule group) rule.resources b there (λ resource is. let told = resource_told group resource b is in (told.1, told.2))

  url_told : (url : List ℕ) (b : Atom) → has_atom (url_atoms rule url) b ≡ true → (thing_in b ≡ url) × (is_on_url b ≡ true)
  url_told url b there = in_map (λ verb. url_atom verb url) rule.verbs b there (λ verb is. (ap thing_in is, ap is_on_url is))

  names_apart : (group resource verb : List ℕ) (listed : List (List ℕ)) → AreWordsApart listed → AreApart (map (resource_atom verb group resource) (names_of listed))
  names_apart group resource verb [] apart = (refl, tt)
  names_apart group resource verb (x ∷ xs) apart =
      rw (eqb-suc-zero (length xs)) (subst AreApart (sym (through (x ∷ xs))) (apart_map name_in (λ n. resource_atom verb group resource (names.One n)) (λ n. refl) (x ∷ xs) apart))
    where
      through : (listed : List (List ℕ)) → map (resource_atom verb group resource) (map names.One listed) ≡ map (λ n. resource_atom verb group resource (names.One n)) listed
      through [] = refl
      through (n ∷ ns) = ap (λ r. resource_atom verb group resource (names.One n) ∷ r) (through ns)

  pub atoms_apart : AreWordsApart rule.verbs → AreWordsApart rule.api_groups → AreWordsApart rule.resources → AreWordsApart rule.resource_names → AreWordsApart rule.non_resource_urls
      → AreApart (atoms rule)
  unfolding atoms
  atoms_apart verbs groups resources listed urls =
      apart_append (flat_map (group_atoms rule) rule.api_groups) (flat_map (url_atoms rule) rule.non_resource_urls)
      (apart_flat group_in (group_atoms rule) (λ g b is. (group_told g b is).0) (λ group.
      apart_flat thing_in (resource_atoms rule group) (λ r b is. (resource_told group r b is).0) (λ resource.
      apart_flat verb_in (verb_atoms rule group resource) (λ v b is. (verb_told group resource v b is).0) (λ verb.
      names_apart group resource verb rule.resource_names listed) rule.verbs verbs) rule.resources resources) rule.api_groups groups)
      (apart_flat thing_in (url_atoms rule) (λ u b is. (url_told u b is).0) (λ url.
      apart_map verb_in (λ verb. url_atom verb url) (λ verb. refl) rule.verbs verbs) rule.non_resource_urls urls)
      no_common
    where
      no_common : (b : Atom) → has_atom (flat_map (group_atoms rule) rule.api_groups) b ≡ true → has_atom (flat_map (url_atoms rule) rule.non_resource_urls) b ≡ false
      no_common b here = by_case (has_atom (flat_map (url_atoms rule) rule.non_resource_urls) b) refl
        where
          by_case : (t : Bool) → has_atom (flat_map (url_atoms rule) rule.non_resource_urls) b ≡ t → has_atom (flat_map (url_atoms rule) rule.non_resource_urls) b ≡ false
          by_case false t = t
          by_case true t = absurd (
              let no : is_on_url b ≡ false = in_flat (group_atoms rule) rule.api_groups b here (λ g is. (group_told g b is).1) in
              let so : is_on_url b ≡ true = in_flat (url_atoms rule) rule.non_resource_urls b t (λ u is. (url_told u b is).1) in cc)

-- ---- what is added of a list without repeats

module _ (p : Atom → Bool) where
  apart_kept : (found : List Atom) (x : Atom) (xs : List Atom) → has_atom xs x ≡ false
      → filter (λ a. p a && not (has_atom (found ++ x ∷ []) a)) xs ≡ filter (λ a. p a && not (has_atom found a)) xs
  apart_kept found x [] none = refl
  apart_kept found x (y ∷ xs) none =
      let parts = or_parts (same_atom x y) (has_atom xs x) none in
      let test : has_atom (found ++ x ∷ []) y ≡ has_atom found y =
      list_any-append (same_atom y) found (x ∷ []) ∙ rw (turned y x, parts.0) (or_false (has_atom found y)) in
      rw test (by_case (p y && not (has_atom found y)) (apart_kept found x xs parts.1))
    where
      by_case : (t : Bool) → filter (λ a. p a && not (has_atom (found ++ x ∷ []) a)) xs ≡ filter (λ a. p a && not (has_atom found a)) xs
          → (if t then y ∷ filter (λ a. p a && not (has_atom (found ++ x ∷ []) a)) xs else filter (λ a. p a && not (has_atom (found ++ x ∷ []) a)) xs)
          ≡ (if t then y ∷ filter (λ a. p a && not (has_atom found a)) xs else filter (λ a. p a && not (has_atom found a)) xs)
      by_case true more = ap (λ r. y ∷ r) more
      by_case false more = more

  pub added_apart : (found list : List Atom) → AreApart list → fold with_atom found (filter p list) ≡ found ++ filter (λ a. p a && not (has_atom found a)) list
  added_apart found [] apart = sym (append-nil found)
  added_apart found (x ∷ list) apart = by_case (p x) refl (λ more. added_apart more list apart.1)
    where
      inner : (t u : Bool) → u ≡ t → ((more : List Atom) → fold with_atom more (filter p list) ≡ more ++ filter (λ a. p a && not (has_atom more a)) list)
          → fold with_atom (if t then found else found ++ x ∷ []) (filter p list)
          ≡ found ++ (if not u then x ∷ filter (λ a. p a && not (has_atom found a)) list else filter (λ a. p a && not (has_atom found a)) list)
      inner true true e more = more found
      inner true false e more = absurd cc
      inner false true e more = absurd cc
      inner false false e more =
          more (found ++ x ∷ [])
          ∙ ap (λ r. (found ++ x ∷ []) ++ r) (apart_kept found x list apart.0) ∙ append_assoc found (x ∷ []) (filter (λ a. p a && not (has_atom found a)) list)

      by_case : (s : Bool) → p x ≡ s
          → ((more : List Atom) → fold with_atom more (filter p list) ≡ more ++ filter (λ a. p a && not (has_atom more a)) list)
          → fold with_atom found (filter p (x ∷ list)) ≡ found ++ filter (λ a. p a && not (has_atom found a)) (x ∷ list)
      by_case false s more = rw s (more found)
      by_case true s more = rw s (inner (list_any (λ f. same_atom f x) found) (has_atom found x) (sym (either_way x found)) more)

-- ---- one wanted rule more

same_filter : (p q : Atom → Bool) (list : List Atom) → ((a : Atom) → p a ≡ q a) → filter p list ≡ filter q list
same_filter p q [] same = refl
same_filter p q (a ∷ list) same = rw (same a, same_filter p q list same) refl

pub missing_more : (held before : List PolicyRule) (rule : PolicyRule)
    → missing held (before ++ rule ∷ []) ≡ missing held before ++ filter (λ a. not (is_covered held before a)) (atoms (once rule))
unfolding missing each_once
missing_more held before rule =
    let p : Atom → Bool = is_missing held in
    ap (λ r. fold with_atom [] (filter (is_missing held) r)) (flat_map-append atoms before (rule ∷ []))
    ∙ added_append p [] (flat_map atoms before) (atoms rule ++ [])
    ∙ ap (λ r. fold with_atom (fold with_atom [] (filter (is_missing held) (flat_map atoms before))) (filter (is_missing held) r)) (append-nil (atoms rule))
    ∙ atoms_add_same p rule (fold with_atom [] (filter (is_missing held) (flat_map atoms before)))
    ∙ added_apart p (fold with_atom [] (filter (is_missing held) (flat_map atoms before))) (atoms (once rule))
    (atoms_apart (once rule) (once_apart rule.verbs) (once_apart rule.api_groups) (once_apart rule.resources) (once_apart rule.resource_names) (once_apart rule.non_resource_urls))
    ∙ ap (λ r. fold with_atom [] (filter (is_missing held) (flat_map atoms before)) ++ r) (same_filter _ _ (atoms (once rule)) stopped)
  where
    cases : (i f : Bool) → (not i && not (false || (not i && f))) ≡ not (i || f)
    cases true f = refl
    cases false f = refl

    stopped : (a : Atom) → (is_missing held a && not (has_atom (fold with_atom [] (filter (is_missing held) (flat_map atoms before))) a)) ≡ not (is_covered held before a)
    stopped a =
        rw (grown a [] (filter (is_missing held) (flat_map atoms before)), kept_by (is_missing held) a (flat_map atoms before), any_flat_map (same_atom a) atoms before)
        (cases (list_any (λ h. rule_implies h a) held) (list_any (λ w. has_atom (atoms w) a) before))

pub missing_none : (held : List PolicyRule) → missing held [] ≡ []
unfolding missing each_once
missing_none held = refl
