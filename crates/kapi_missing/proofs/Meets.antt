-- Which rules meet an entry, by their numbers.
use Rattle.std.proofs.Common.{◌≡◌, ℕ, zero, suc, ◌==◌, ◌≤◌, nat_eq, nat_le, min, Bool, true, false, ◌&&◌, ◌||◌, List, [], ◌∷◌, ◌++◌, length, map, take, Option, Some, None, refl, ap, sym, ◌∙◌, arith}
use Rattle.std.proofs.lemmas.Bool.{and_from, and_parts, eqb-true, le-leb, leb-true, or_left, or_right}
use Rattle.std.proofs.lemmas.Bool.Decides.{nat_tests}
use Rattle.std.proofs.lemmas.List.{length-take, length-take-le}
use Rattle.std.specs.List.{ends_with, list_any}
use Rattle.std.specs.Str.{bytes_eq}
use Rattle.kapi_text.proofs.Booleans.{and_false, by_truth, or_across, or_false}
use Rattle.kapi_model.specs.declared.policy_rule.PolicyRule.{PolicyRule}
use Rattle.kapi_rules.proofs.Covers.{itself, same}
use Rattle.kapi_rules.proofs.Law.{any_weaker}
use Rattle.kapi_rules.proofs.Parts.{any_same}
use Rattle.kapi_rules.specs.Atoms.{after_slash}
use Rattle.kapi_rules.specs.Atoms.{is_any_with as covers_with}
use Rattle.kapi_rules.specs.Entries.{beginning_matches, star, without_stars, word_matches}
use Rattle.kapi_missing.proofs.Repeats.{from_some}
use Rattle.std.specs.BTreeMap.{BTreeMap}
use denote.Ref.{Bor}
use Rattle.kapi_missing.specs.Private.Index.{has_at, has_behind, is_any_with, is_beginning}
use Rattle.kapi_missing.specs.declared.numbers.Numbers.{Numbers}
use Rattle.kapi_missing.specs.Private.Stoppers.{Stopper, at, lists, meets, meets_text, word_in}
use Rattle.kapi_missing.specs.declared.rows.List.TheVariants as of

-- ---- tests by number

first_next : (n : ℕ) → (0 == suc n) ≡ false
first_next n = grind (arith, nat_tests)

next_first : (n : ℕ) → (suc n == 0) ≡ false
next_first n = grind (arith, nat_tests)

next_next : (m n : ℕ) → (suc m == suc n) ≡ (m == n)
next_next m n = grind (arith, nat_tests)

and_true : (a : Bool) → a ≡ (a && true)
and_true true = refl
and_true false = refl

pub at_push : (test : Stopper → Bool) (all : List Stopper) (s : Stopper) (n : ℕ) → at (map test (all ++ s ∷ [])) n ≡ (at (map test all) n || (test s && (length all == n)))
at_push test [] s zero = and_true (test s)
at_push test [] s (suc n) = rw (first_next n) (sym (and_false (test s)))
at_push test (x ∷ all) s zero = rw (next_first (length all), and_false (test s)) (sym (or_false (test x)))
at_push test (x ∷ all) s (suc n) = rw (next_next (length all) n) (at_push test all s n)

pub at_or : (p q : Stopper → Bool) (all : List Stopper) (n : ℕ) → (at (map p all) n || at (map q all) n) ≡ at (map (λ s. p s || q s) all) n
at_or p q [] n = refl
at_or p q (x ∷ all) zero = refl
at_or p q (x ∷ all) (suc n) = at_or p q all n

pub at_and_front : (p q : Stopper → Bool) (all others : List Stopper) (n : ℕ) → (at (map p all) n && at (map q (all ++ others)) n) ≡ at (map (λ s. p s && q s) all) n
at_and_front p q [] others n = refl
at_and_front p q (x ∷ all) others zero = refl
at_and_front p q (x ∷ all) others (suc n) = at_and_front p q all others n

pub at_same : (p q : Stopper → Bool) → ((s : Stopper) → p s ≡ q s) → (all : List Stopper) (n : ℕ) → at (map p all) n ≡ at (map q all) n
at_same p q same [] n = refl
at_same p q same (x ∷ all) zero = same x
at_same p q same (x ∷ all) (suc n) = at_same p q same all n

pub at_some : (p : Stopper → Bool) (all : List Stopper) (n : ℕ) → at (map p all) n ≡ true → list_any p all ≡ true
at_some p [] n h = absurd cc
at_some p (x ∷ all) zero h = or_left (p x) (list_any p all) h
at_some p (x ∷ all) (suc n) h = or_right (p x) (list_any p all) (at_some p all n h)

pub some_at : (p : Stopper → Bool) (all : List Stopper) → list_any p all ≡ true → (n : ℕ) × (at (map p all) n ≡ true)
some_at p [] h = absurd cc
some_at p (x ∷ all) h = by_case (p x) refl h (λ rest. some_at p all rest)
  where
    by_case : (t : Bool) → p x ≡ t → (t || list_any p all) ≡ true → (list_any p all ≡ true → (n : ℕ) × (at (map p all) n ≡ true)) → (n : ℕ) × (at (map p (x ∷ all)) n ≡ true)
    by_case true is h more = (zero, is)
    by_case false is h more = let found = more h in (suc found.0, found.1)

pub at_elim : (p : Stopper → Bool) (all : List Stopper) (n : ℕ) → at (map p all) n ≡ true → (s : Stopper) × (p s ≡ true) × ((q : Stopper → Bool) → at (map q all) n ≡ q s)
at_elim p [] n h = absurd cc
at_elim p (x ∷ all) zero h = (x, h, λ q. refl)
at_elim p (x ∷ all) (suc n) h = at_elim p all n h

-- ---- rows: what is held with a star, or listed

any_or : {X : Type 0} (p q : X → Bool) (xs : List X) → (list_any p xs || list_any q xs) ≡ list_any (λ x. p x || q x) xs
any_or p q [] = refl
any_or p q (x ∷ xs) = or_across (p x) (list_any p xs) (q x) (list_any q xs) ∙ ap (λ t. (p x || q x) || t) (any_or p q xs)

some_word : (entries : List (List ℕ)) (text : List ℕ) → (lists entries star || lists entries text) ≡ list_any (λ e. word_matches e text) entries
some_word entries text = any_or (λ e. bytes_eq e star) (λ e. bytes_eq e text) entries

pub verb_row : (all : List Stopper) (text : List ℕ) (n : ℕ)
    → (at (map (λ s. s.is_held && lists s.rule.verbs star) all) n || at (map (λ s. lists s.rule.verbs text) all) n) ≡ at (map (meets (word_in of.Verbs text)) all) n
verb_row all text n =
    at_or (λ s. s.is_held && lists s.rule.verbs star) (λ s. lists s.rule.verbs text) all n
    ∙ at_same (λ s. (s.is_held && lists s.rule.verbs star) || lists s.rule.verbs text) (meets (word_in of.Verbs text)) (λ s. each s.is_held s.rule) all n
  where
    each : (held : Bool) (rule : PolicyRule) → ((held && lists rule.verbs star) || lists rule.verbs text) ≡ meets_text of.Verbs text held rule
    each true rule = some_word rule.verbs text
    each false rule = refl

pub group_row : (all : List Stopper) (text : List ℕ) (n : ℕ)
    → (at (map (λ s. s.is_held && lists s.rule.api_groups star) all) n || at (map (λ s. lists s.rule.api_groups text) all) n) ≡ at (map (meets (word_in of.Groups text)) all) n
group_row all text n =
    at_or (λ s. s.is_held && lists s.rule.api_groups star) (λ s. lists s.rule.api_groups text) all n
    ∙ at_same (λ s. (s.is_held && lists s.rule.api_groups star) || lists s.rule.api_groups text) (meets (word_in of.Groups text)) (λ s. each s.is_held s.rule) all n
  where
    each : (held : Bool) (rule : PolicyRule) → ((held && lists rule.api_groups star) || lists rule.api_groups text) ≡ meets_text of.Groups text held rule
    each true rule = some_word rule.api_groups text
    each false rule = refl

pub name_row : (all : List Stopper) (text : List ℕ) (n : ℕ)
    → (at (map (λ s. s.is_held && (length s.rule.resource_names == 0)) all) n || at (map (λ s. lists s.rule.resource_names text) all) n) ≡ at (map (meets (word_in of.Names text)) all) n
name_row all text n =
    at_or (λ s. s.is_held && (length s.rule.resource_names == 0)) (λ s. lists s.rule.resource_names text) all n
    ∙ at_same (λ s. (s.is_held && (length s.rule.resource_names == 0)) || lists s.rule.resource_names text) (meets (word_in of.Names text)) (λ s. each s.is_held s.rule) all n
  where
    each : (held : Bool) (rule : PolicyRule) → ((held && (length rule.resource_names == 0)) || lists rule.resource_names text) ≡ meets_text of.Names text held rule
    each true rule = refl
    each false rule = refl

-- the held rules that cover all resources with this text behind their first slash
abbrev pub behind : List Stopper → ℕ → Option (List ℕ) → Bool
behind all n None = false
behind all n (Some sub) = at (map (λ s. s.is_held && list_any (is_any_with sub) s.rule.resources) all) n

-- with what is behind the first slash of the resource
abbrev meets_at : List ℕ → Option (List ℕ) → Bool → PolicyRule → Bool
meets_at text o true rule = list_any (λ e. word_matches e text || covers_with e o) rule.resources
meets_at text o false rule = lists rule.resources text

pub resource_row : (all : List Stopper) (text : List ℕ) (n : ℕ)
    → ((at (map (λ s. s.is_held && lists s.rule.resources star) all) n || at (map (λ s. lists s.rule.resources text) all) n) || behind all n (after_slash text))
    ≡ at (map (meets (word_in of.Resources text)) all) n
resource_row all text n = by_slash (after_slash text) ∙ at_same (λ s. meets_at text (after_slash text) s.is_held s.rule) (meets (word_in of.Resources text)) (λ s. so s.is_held s.rule) all n
  where
    so : (held : Bool) (rule : PolicyRule) → meets_at text (after_slash text) held rule ≡ meets_text of.Resources text held rule
    so true rule = refl
    so false rule = refl

    none : (held : Bool) (rule : PolicyRule) → ((held && lists rule.resources star) || lists rule.resources text) ≡ meets_at text None held rule
    none true rule = some_word rule.resources text ∙ any_same (λ e. word_matches e text) (λ e. word_matches e text || false) rule.resources (λ e. sym (or_false (word_matches e text)))
    none false rule = refl

    some : (sub : List ℕ) (held : Bool) (rule : PolicyRule)
        → (((held && lists rule.resources star) || lists rule.resources text) || (held && list_any (is_any_with sub) rule.resources)) ≡ meets_at text (Some sub) held rule
    some sub true rule =
        ap (λ t. t || list_any (is_any_with sub) rule.resources) (some_word rule.resources text)
        ∙ any_or (λ e. word_matches e text) (is_any_with sub) rule.resources
    some sub false rule = or_false (lists rule.resources text)

    listed : (at (map (λ s. s.is_held && lists s.rule.resources star) all) n || at (map (λ s. lists s.rule.resources text) all) n)
        ≡ at (map (λ s. (s.is_held && lists s.rule.resources star) || lists s.rule.resources text) all) n
    listed = at_or (λ s. s.is_held && lists s.rule.resources star) (λ s. lists s.rule.resources text) all n

    by_slash : (o : Option (List ℕ))
        → ((at (map (λ s. s.is_held && lists s.rule.resources star) all) n || at (map (λ s. lists s.rule.resources text) all) n) || behind all n o)
        ≡ at (map (λ s. meets_at text o s.is_held s.rule) all) n
    by_slash None =
        or_false _ ∙ listed
        ∙ at_same (λ s. (s.is_held && lists s.rule.resources star) || lists s.rule.resources text) (λ s. meets_at text None s.is_held s.rule) (λ s. none s.is_held s.rule) all n
    by_slash (Some sub) =
        ap (λ t. t || at (map (λ s. s.is_held && list_any (is_any_with sub) s.rule.resources) all) n) listed
        ∙ at_or (λ s. (s.is_held && lists s.rule.resources star) || lists s.rule.resources text) (λ s. s.is_held && list_any (is_any_with sub) s.rule.resources) all n
        ∙ at_same (λ s. ((s.is_held && lists s.rule.resources star) || lists s.rule.resources text) || (s.is_held && list_any (is_any_with sub) s.rule.resources)) (λ s. meets_at text (Some sub) s.is_held s.rule) (λ s. some sub s.is_held s.rule) all n

-- what follows from each element that passes and is in the list
from_member : {X : Type 0} {C : Type 0} (p : X → Bool) (xs : List X) → list_any p xs ≡ true
    → ((x : X) → p x ≡ true → ((q : X → Bool) → q x ≡ true → list_any q xs ≡ true) → C) → C
from_member p [] some leads = absurd cc
from_member {X} {C} p (x ∷ xs) some leads =
    by_case (p x) refl some (λ rest. from_member p xs rest (λ y is member. leads y is (λ q h. or_right (q x) (list_any q xs) (member q h))))
  where
    by_case : (t : Bool) → p x ≡ t → (t || list_any p xs) ≡ true → (list_any p xs ≡ true → C) → C
    by_case true is h more = leads x is (λ q k. or_left (q x) (list_any q xs) k)
    by_case false is h more = more h

at_weaker : (p q : Stopper → Bool) → ((s : Stopper) → p s ≡ true → q s ≡ true) → (all : List Stopper) (n : ℕ) → at (map p all) n ≡ true → at (map q all) n ≡ true
at_weaker p q weaker [] n h = h
at_weaker p q weaker (x ∷ all) zero h = weaker x h
at_weaker p q weaker (x ∷ all) (suc n) h = at_weaker p q weaker all n h

-- an entry with that beginning matches by it
matches_by : (m : ℕ) (text e : List ℕ) → m ≤ length text → is_beginning (take m text) e ≡ true → beginning_matches e text ≡ true
unfolding is_beginning
matches_by m text e within h =
    let parts = and_parts (ends_with nat_eq e star) (bytes_eq (without_stars e) (take m text)) h in
    let is : without_stars e ≡ take m text = same (without_stars e) (take m text) parts.1 in
    and_from (ends_with nat_eq e star) (bytes_eq (without_stars e) (take (length (without_stars e)) text)) parts.0
    (ap (λ t. bytes_eq t (take (length t) text)) is ∙ ap (λ k. bytes_eq (take m text) (take k text)) (length-take-le m text within) ∙ itself (take m text))

is_within : (t text : List ℕ) → t ≡ take (length t) text → length t ≤ length text
is_within t text is = let e : length t ≡ min (length t) (length text) = ap length is ∙ length-take (length t) text in omega (arith, e)

module _ (all : List Stopper) (text : List ℕ) (n : ℕ) (lengths : List ℕ)
    (known : (t : List ℕ) → at (map (λ s. s.is_held && list_any (is_beginning t) s.rule.non_resource_urls) all) n ≡ true → list_any (λ m. m == length t) lengths ≡ true) where
  abbrev begun : List ℕ → Bool
  begun t = at (map (λ s. s.is_held && list_any (is_beginning t) s.rule.non_resource_urls) all) n

  abbrev matched : Stopper → Bool
  matched s = s.is_held && list_any (λ e. beginning_matches e text) s.rule.non_resource_urls

  abbrev by_length : ℕ → Bool
  by_length m = nat_le m (length text) && begun (take m text)

  there : list_any by_length lengths ≡ true → at (map matched all) n ≡ true
  there h = from_some by_length lengths h at_length
    where
      at_length : (m : ℕ) → by_length m ≡ true → at (map matched all) n ≡ true
      at_length m k =
          let parts = and_parts (nat_le m (length text)) (begun (take m text)) k in
          let within : m ≤ length text = leb-true m (length text) parts.0 in
          at_weaker (λ s. s.is_held && list_any (is_beginning (take m text)) s.rule.non_resource_urls) matched (λ s both.
          let halves = and_parts s.is_held (list_any (is_beginning (take m text)) s.rule.non_resource_urls) both in
          and_from s.is_held (list_any (λ e. beginning_matches e text) s.rule.non_resource_urls) halves.0
          (any_weaker (is_beginning (take m text)) (λ e. beginning_matches e text) s.rule.non_resource_urls (λ e. matches_by m text e within) halves.1))
          all n parts.1

  back : at (map matched all) n ≡ true → list_any by_length lengths ≡ true
  unfolding is_beginning
  back h = by_rule (at_elim matched all n h)
    where
      by_text : (t : List ℕ) → t ≡ take (length t) text → begun t ≡ true → list_any by_length lengths ≡ true
      by_text t is begins = any_weaker (λ m. m == length t) by_length lengths at_length (known t begins)
        where
          at_length : (m : ℕ) → (m == length t) ≡ true → by_length m ≡ true
          at_length m k =
              ap by_length (eqb-true m (length t) k)
              ∙ and_from (nat_le (length t) (length text)) (begun (take (length t) text)) (le-leb (length t) (length text) (is_within t text is)) (ap begun (sym is) ∙ begins)

      by_rule : (s : Stopper) × (matched s ≡ true) × ((q : Stopper → Bool) → at (map q all) n ≡ q s) → list_any by_length lengths ≡ true
      by_rule found = from_member (λ e. beginning_matches e text) found.0.rule.non_resource_urls halves.1 by_entry
        where
          halves : (found.0.is_held ≡ true) × (list_any (λ e. beginning_matches e text) found.0.rule.non_resource_urls ≡ true)
          halves = and_parts found.0.is_held (list_any (λ e. beginning_matches e text) found.0.rule.non_resource_urls) found.1

          by_entry : (e : List ℕ) → beginning_matches e text ≡ true → ((q : List ℕ → Bool) → q e ≡ true → list_any q found.0.rule.non_resource_urls ≡ true) → list_any by_length lengths ≡ true
          by_entry e k member =
              let parts = and_parts (ends_with nat_eq e star) (bytes_eq (without_stars e) (take (length (without_stars e)) text)) k in
              by_text (without_stars e) (same (without_stars e) (take (length (without_stars e)) text) parts.1)
              (found.2 (λ s. s.is_held && list_any (is_beginning (without_stars e)) s.rule.non_resource_urls)
              ∙ and_from found.0.is_held (list_any (is_beginning (without_stars e)) found.0.rule.non_resource_urls) halves.0
              (member (is_beginning (without_stars e)) (and_from (ends_with nat_eq e star) (bytes_eq (without_stars e) (without_stars e)) parts.0 (itself (without_stars e)))))

  url_each : (held : Bool) (rule : PolicyRule)
      → (lists rule.non_resource_urls text || (held && list_any (λ e. beginning_matches e text) rule.non_resource_urls)) ≡ meets_text of.Urls text held rule
  url_each true rule = any_or (λ e. bytes_eq e text) (λ e. beginning_matches e text) rule.non_resource_urls
  url_each false rule = or_false (lists rule.non_resource_urls text)

  url_row_at : (at (map (λ s. lists s.rule.non_resource_urls text) all) n || list_any by_length lengths) ≡ at (map (meets (word_in of.Urls text)) all) n
  url_row_at =
      ap (λ t. at (map (λ s. lists s.rule.non_resource_urls text) all) n || t) (by_truth (list_any by_length lengths) (at (map matched all) n) there back)
      ∙ at_or (λ s. lists s.rule.non_resource_urls text) matched all n
      ∙ at_same (λ s. lists s.rule.non_resource_urls text || matched s) (meets (word_in of.Urls text)) (λ s. url_each s.is_held s.rule) all n

pub url_row : (all : List Stopper) (text : List ℕ) (n : ℕ) (lengths : List ℕ)
    → ((t : List ℕ) → at (map (λ s. s.is_held && list_any (is_beginning t) s.rule.non_resource_urls) all) n ≡ true → list_any (λ m. m == length t) lengths ≡ true)
    → (at (map (λ s. lists s.rule.non_resource_urls text) all) n || list_any (λ m. nat_le m (length text) && at (map (λ s. s.is_held && list_any (is_beginning (take m text)) s.rule.non_resource_urls) all) n) lengths)
    ≡ at (map (meets (word_in of.Urls text)) all) n
url_row all text n lengths known = url_row_at all text n lengths known

pub behind_same : (all : List Stopper) (sets : BTreeMap (Bor (List ℕ)) Numbers) (n : ℕ) (o : Option (List ℕ))
    → ((t : List ℕ) → has_at sets t n ≡ at (map (λ s. s.is_held && list_any (is_any_with t) s.rule.resources) all) n) → has_behind sets o n ≡ behind all n o
behind_same all sets n None same = refl
behind_same all sets n (Some t) same = same t
