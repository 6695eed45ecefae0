-- What is missing of the wanted rules, rule by rule.
use Rattle.std.proofs.Common.{◌≡◌, ℕ, zero, suc, ◌+◌, ◌<◌, ◌≤◌, ◌==◌, nat_lt, Bool, true, false, ◌||◌, List, [], ◌∷◌, ◌++◌, length, map, get_or, take, drop, refl, ap, sym, subst, ◌∙◌, append_assoc, append-nil, length-take, arith}
use Rattle.std.proofs.Math.Dec.{eqb-suc-zero}
use Rattle.std.proofs.lemmas.Bool.Decides.{nat_tests}
use Rattle.std.proofs.lemmas.List.{take_more}
use Rattle.kapi_model.specs.declared.policy_rule.PolicyRule.{PolicyRule}
use Rattle.kapi_rules.specs.Missing.{missing}
use Rattle.kapi_rules.specs.declared.atom.Atom.{Atom}
use Rattle.kapi_missing.proofs.Listing.{missing_and_left}
use Rattle.kapi_missing.proofs.Placing.{next_wanted, wanted_number}
use Rattle.kapi_missing.proofs.Repeats.{missing_none}
use Rattle.kapi_missing.specs.Private.Grid.{AreGridColumns, IsMarked}
use Rattle.kapi_missing.specs.Private.Index.{IsIndex}
use Rattle.kapi_missing.specs.declared.grid.Columns.{Columns}
use Rattle.kapi_missing.specs.Private.Left.{Sees, atoms_behind, items_in, left, left_atoms, resource_lists, url_lists}
use Rattle.kapi_missing.specs.Private.Numbers.{has_bit}
use Rattle.kapi_missing.specs.Private.Once.{once, once_each}
use Rattle.kapi_missing.specs.Private.Stoppers.{Item, Stopper, at, earlier_one, held_one, stoppers}
use Rattle.kapi_missing.specs.declared.index.Rules.{Rules}
use Rattle.kapi_missing.specs.declared.rows.ListEntry.{ListEntry}

pub next_number : (n k : ℕ) → nat_lt n (k + 1) ≡ (nat_lt n k || (k == n))
next_number n k = grind (arith, nat_tests)

all_numbers : (all : List Stopper) (n : ℕ) → at (map (λ s. true) all) n ≡ nat_lt n (length all)
all_numbers [] n = sym (never n)
  where
    never : (n : ℕ) → nat_lt n 0 ≡ false
    never n = grind (arith, nat_tests)
all_numbers (s ∷ all) zero = sym (first (length all))
  where
    first : (m : ℕ) → nat_lt 0 (suc m) ≡ true
    first m = grind (arith, nat_tests)
all_numbers (s ∷ all) (suc n) = all_numbers all n ∙ sym (next n (length all))
  where
    next : (n m : ℕ) → nat_lt (suc n) (suc m) ≡ nat_lt n m
    next n m = grind (arith, nat_tests)

-- the rules before a wanted one, and those from it on
module _ (held wanted : List PolicyRule) (rules : Rules) (index : IsIndex (stoppers held wanted) rules) (position : ℕ) where
  abbrev pub before : List Stopper
  before = stoppers held (take position wanted)

  abbrev pub others : List Stopper
  others = map earlier_one (drop position wanted)

  map_split : (k : ℕ) (xs : List PolicyRule) → map earlier_one xs ≡ map earlier_one (take k xs) ++ map earlier_one (drop k xs)
  map_split zero xs = refl
  map_split (suc k) [] = refl
  map_split (suc k) (x ∷ xs) = ap (λ r. earlier_one x ∷ r) (map_split k xs)

  pub index_split : IsIndex (before ++ others) rules
  index_split = subst (λ all. IsIndex all rules) (ap (λ r. map held_one held ++ r) (map_split position wanted) ∙ sym (append_assoc (map held_one held) (map earlier_one (take position wanted)) others)) index

  pub sees_before : (words : List ℕ) → position < length wanted → ((n : ℕ) → has_bit words n ≡ nat_lt n (length held + position)) → Sees before (λ s. true) words
  sees_before words within those n =
      let long : length before ≡ length held + position = wanted_number held (take position wanted) ∙ ap (λ k. length held + k) (length-take position wanted ∙ omega (arith, within)) in
      those n ∙ ap (nat_lt n) (sym long) ∙ sym (all_numbers before n)

next_missing : (held wanted : List PolicyRule) (position : ℕ) (rule : PolicyRule) → position < length wanted → rule ≡ get_or wanted position rule
    → missing held (take (position + 1) wanted) ≡ missing held (take position wanted)
    ++ (left_atoms (stoppers held (take position wanted)) (resource_lists (once rule)) ++ left_atoms (stoppers held (take position wanted)) (url_lists (once rule)))
next_missing held wanted position rule within is =
    ap (missing held) (take_more wanted position rule within ∙ ap (λ r. take position wanted ++ r ∷ []) (sym is)) ∙ missing_and_left held (take position wanted) rule

pub some_more : (held wanted : List PolicyRule) (position : ℕ) (rule : PolicyRule) (start old middle new : List Atom) → position < length wanted → rule ≡ get_or wanted position rule
    → old ≡ start ++ missing held (take position wanted)
    → middle ≡ old ++ left_atoms (stoppers held (take position wanted)) (resource_lists (once rule))
    → new ≡ middle ++ left_atoms (stoppers held (take position wanted)) (url_lists (once rule))
    → new ≡ start ++ missing held (take (position + 1) wanted)
some_more held wanted position rule start old middle new within is were first second =
    let a = left_atoms (stoppers held (take position wanted)) (resource_lists (once rule)) in
    let b = left_atoms (stoppers held (take position wanted)) (url_lists (once rule)) in
    second ∙ ap (λ r. r ++ b) (first ∙ ap (λ r. r ++ a) were ∙ append_assoc start (missing held (take position wanted)) a)
    ∙ append_assoc start (missing held (take position wanted) ++ a) b
    ∙ ap (λ r. start ++ r) (append_assoc (missing held (take position wanted)) a b ∙ sym (next_missing held wanted position rule within is))

pub take_all : (wanted : List PolicyRule) (k : ℕ) → length wanted ≤ k → take k wanted ≡ wanted
take_all [] zero past = refl
take_all [] (suc k) past = refl
take_all (x ∷ xs) zero past = absurd (omega (arith, past))
take_all (x ∷ xs) (suc k) past = ap (λ r. x ∷ r) (take_all xs k (omega (arith, past)))

pub all_left : (all : List Stopper) (lists listed : List (List Item)) (chosen : List ListEntry) (old new : List Atom) → listed ≡ lists → chosen ≡ []
    → new ≡ old ++ atoms_behind (items_in chosen) (left all (λ s. true) listed) → new ≡ old ++ left_atoms all lists
all_left all lists listed chosen old new is none grown = rw (sym is) (grown ∙ ap (λ c. old ++ atoms_behind (items_in c) (left all (λ s. true) listed)) none)

pub next_numbers : (n h p : ℕ) (old new : Bool) → new ≡ (old || ((h + p) == n)) → old ≡ nat_lt n (h + p) → new ≡ nat_lt n (h + (p + 1))
next_numbers n h p old new added were =
    let e : h + p + 1 ≡ h + (p + 1) = omega arith in added ∙ ap (λ (b : Bool). b || ((h + p) == n)) were ∙ sym (next_number n (h + p)) ∙ ap (nat_lt n) e

pub first_held : (n h : ℕ) (b : Bool) → b ≡ nat_lt n h → b ≡ nat_lt n (h + 0)
first_held n h b is = let e : h ≡ h + 0 = omega arith in is ∙ ap (nat_lt n) e

pub none_yet : (held : List PolicyRule) (list : List Atom) → list ≡ list ++ missing held []
none_yet held list = sym (ap (λ r. list ++ r) (missing_none held) ∙ append-nil list)

-- ---- with a grid

pub sees_all : (all : List Stopper) (words : List ℕ) (count : ℕ) → length all ≡ count → ((n : ℕ) → has_bit words n ≡ nat_lt n count) → Sees all (λ s. true) words
sees_all all words count long those n = those n ∙ ap (nat_lt n) (sym long) ∙ sym (all_numbers all n)

pub none_at_all : (all : List Stopper) (lists : List (List Item)) (list : List Atom) → left all (λ s. true) lists ≡ [] → list ≡ list ++ left_atoms all lists
none_at_all all lists list none = rw none (sym (append-nil list))

no_words : (words : List (List ℕ)) → (length words == 0) ≡ true → once_each words ≡ []
unfolding once_each
no_words [] none = refl
no_words (w ∷ words) none = absurd (let some = sym (eqb-suc-zero (length words)) ∙ none in cc)

pub no_urls : (all : List Stopper) (rule : PolicyRule) (list : List Atom) → (length rule.non_resource_urls == 0) ≡ true → list ≡ list ++ left_atoms all (url_lists (once rule))
no_urls all rule list none = rw (no_words rule.non_resource_urls none) (sym (append-nil list))

-- the held rules are the first, and the next one is the first of those that follow
pub first_rules : (held wanted : List PolicyRule) → take (length held) (stoppers held wanted) ≡ stoppers held []
first_rules [] wanted = refl
first_rules (h ∷ held) wanted = ap (λ r. held_one h ∷ r) (first_rules held wanted)

pub next_split : (held wanted : List PolicyRule) (position : ℕ) (rule : PolicyRule) → position < length wanted → rule ≡ get_or wanted position rule
    → stoppers held wanted ≡ stoppers held (take position wanted) ++ earlier_one rule ∷ map earlier_one (drop (suc position) wanted)
next_split held wanted position rule within is =
    ap (λ r. map held_one held ++ r) (split wanted position within is) ∙ sym (append_assoc (map held_one held) (map earlier_one (take position wanted)) (earlier_one rule ∷ map earlier_one (drop (suc position) wanted)))
  where
    split : (xs : List PolicyRule) (k : ℕ) → k < length xs → rule ≡ get_or xs k rule
        → map earlier_one xs ≡ map earlier_one (take k xs) ++ earlier_one rule ∷ map earlier_one (drop (suc k) xs)
    split [] k within is = absurd (omega (arith, within))
    split (x ∷ xs) zero within is = ap (λ r. earlier_one r ∷ map earlier_one xs) (sym is)
    split (x ∷ xs) (suc k) within is = ap (λ r. earlier_one x ∷ r) (split xs k (omega (arith, within)) is)

pub next_stoppers : (held wanted : List PolicyRule) (position : ℕ) (rule : PolicyRule) → position < length wanted → rule ≡ get_or wanted position rule
    → stoppers held (take (position + 1) wanted) ≡ stoppers held (take position wanted) ++ earlier_one rule ∷ []
next_stoppers held wanted position rule within is =
    ap (stoppers held) (take_more wanted position rule within ∙ ap (λ r. take position wanted ++ r ∷ []) (sym is)) ∙ next_wanted held (take position wanted) rule

pub marked_next : (held wanted : List PolicyRule) (position : ℕ) (rule : PolicyRule) (old new : Columns) (marks more : List ℕ) (number : ℕ) → position < length wanted
    → rule ≡ get_or wanted position rule → number ≡ length held + position
    → ((before others : List Stopper) (s : Stopper) → number ≡ length before → AreGridColumns (before ++ s ∷ others) old → IsMarked before old marks → IsMarked (before ++ s ∷ []) new more)
    → AreGridColumns (stoppers held wanted) old → IsMarked (stoppers held (take position wanted)) old marks → IsMarked (stoppers held (take (position + 1) wanted)) new more
marked_next held wanted position rule old new marks more number within is at_number leads are were =
    subst (λ rules. IsMarked rules new more) (sym (next_stoppers held wanted position rule within is))
    (leads (stoppers held (take position wanted)) (map earlier_one (drop (suc position) wanted)) (earlier_one rule)
    (at_number ∙ sym (wanted_number held (take position wanted) ∙ ap (λ k. length held + k) (length-take position wanted ∙ omega (arith, within))))
    (subst (λ rules. AreGridColumns rules old) (next_split held wanted position rule within is) are) were)
