-- Rules that are put together allow what they allowed.
use Rattle.std.proofs.Common.{◌≡◌, ℕ, suc, ◌<◌, ◌≤◌, Bool, true, false, not, ◌&&◌, ◌||◌, ◌==◌, if◌then◌else◌, List, [], ◌∷◌, ◌++◌, length, map, refl, sym, ap, subst, ◌∙◌, arith}
use Rattle.std.proofs.Math.Dec.{eqb-suc-zero}
use Rattle.std.proofs.lemmas.Bool.{and_parts}
use Rattle.std.proofs.lemmas.List.Folds.{list_any-append}
use Rattle.std.specs.List.{fold, list_any}
use Rattle.std.specs.Prelude.{slice_index_or, slice_set}
use Rattle.std.specs.Str.{bytes_eq}
use Rattle.kapi_text.proofs.Booleans.{or_assoc, or_false}
use Rattle.kapi_model.specs.declared.policy_rule.PolicyRule.{PolicyRule}
use Rattle.kapi_rules.proofs.Covers.{alone_allows, same}
use Rattle.kapi_rules.proofs.Parts.{any_map, any_same}
use Rattle.kapi_rules.specs.Atoms.{atom_allows, rule_of}
use Rattle.kapi_rules.specs.Entries.{names_match, resource_matches, url_matches, word_matches}
use Rattle.kapi_rules.specs.Rules.{allows}
use Rattle.kapi_rules.specs.declared.atom.Atom.{Atom}
use Rattle.kapi_rules.specs.declared.point.Point.{Point}
use Rattle.kapi_rules.specs.declared.point.Point.TheVariants as point
use Rattle.kapi_access.specs.Together.{are_alike, joined, lists_names, place_of, put_together, same_texts, together, with_rule}
use Rattle.kapi_access.specs.declared.merge_rules.RuleList.{RuleList}
use Rattle.kapi_access.specs.declared.merge_rules.RuleList.TheVariants as part

-- ---- rules that are alike

texts_are : (xs ys : List (List ℕ)) → same_texts xs ys ≡ true → xs ≡ ys
texts_are [] [] h = refl
texts_are [] (y ∷ ys) h = absurd (cc h)
texts_are (x ∷ xs) [] h = absurd (cc h)
texts_are (x ∷ xs) (y ∷ ys) h =
    let parts = and_parts (bytes_eq x y) (same_texts xs ys) h in
    ap (λ (z : List ℕ). z ∷ xs) (same x y parts.0) ∙ ap (λ (zs : List (List ℕ)). y ∷ zs) (texts_are xs ys parts.1)

-- the rule with the list that is joined of another
abbrev pub with_list : RuleList → PolicyRule → PolicyRule → PolicyRule
with_list part.Names a b = record a { resource_names = b.resource_names }
with_list part.Verbs a b = record a { verbs = b.verbs }
with_list part.Resources a b = record a { resources = b.resources }
with_list part.Groups a b = record a { api_groups = b.api_groups }
with_list part.Urls a b = record a { non_resource_urls = b.non_resource_urls }

pub all_but : (which : RuleList) (a b : PolicyRule) → are_alike which a b ≡ true → with_list which a b ≡ b
all_but part.Names a b h =
    let one = and_parts (same_texts a.verbs b.verbs) _ h in
    let two = and_parts (same_texts a.api_groups b.api_groups) _ one.1 in
    let three = and_parts (same_texts a.resources b.resources) _ two.1 in
    let four = and_parts (same_texts a.non_resource_urls b.non_resource_urls) _ three.1 in
    (λ i. record {
      verbs = texts_are a.verbs b.verbs one.0 i;
      api_groups = texts_are a.api_groups b.api_groups two.0 i;
      resources = texts_are a.resources b.resources three.0 i;
      resource_names = b.resource_names;
      non_resource_urls = texts_are a.non_resource_urls b.non_resource_urls four.0 i;
    })
all_but part.Verbs a b h =
    let one = and_parts (same_texts a.api_groups b.api_groups) _ h in
    let two = and_parts (same_texts a.resources b.resources) _ one.1 in
    let three = and_parts (same_texts a.resource_names b.resource_names) (same_texts a.non_resource_urls b.non_resource_urls) two.1 in
    (λ i. record {
      verbs = b.verbs;
      api_groups = texts_are a.api_groups b.api_groups one.0 i;
      resources = texts_are a.resources b.resources two.0 i;
      resource_names = texts_are a.resource_names b.resource_names three.0 i;
      non_resource_urls = texts_are a.non_resource_urls b.non_resource_urls three.1 i;
    })
all_but part.Resources a b h =
    let one = and_parts (same_texts a.verbs b.verbs) _ h in
    let two = and_parts (same_texts a.api_groups b.api_groups) _ one.1 in
    let three = and_parts (same_texts a.resource_names b.resource_names) (same_texts a.non_resource_urls b.non_resource_urls) two.1 in
    (λ i. record {
      verbs = texts_are a.verbs b.verbs one.0 i;
      api_groups = texts_are a.api_groups b.api_groups two.0 i;
      resources = b.resources;
      resource_names = texts_are a.resource_names b.resource_names three.0 i;
      non_resource_urls = texts_are a.non_resource_urls b.non_resource_urls three.1 i;
    })
all_but part.Groups a b h =
    let one = and_parts (same_texts a.verbs b.verbs) _ h in
    let two = and_parts (same_texts a.resources b.resources) _ one.1 in
    let three = and_parts (same_texts a.resource_names b.resource_names) (same_texts a.non_resource_urls b.non_resource_urls) two.1 in
    (λ i. record {
      verbs = texts_are a.verbs b.verbs one.0 i;
      api_groups = b.api_groups;
      resources = texts_are a.resources b.resources two.0 i;
      resource_names = texts_are a.resource_names b.resource_names three.0 i;
      non_resource_urls = texts_are a.non_resource_urls b.non_resource_urls three.1 i;
    })
all_but part.Urls a b h =
    let one = and_parts (same_texts a.verbs b.verbs) _ h in
    let two = and_parts (same_texts a.api_groups b.api_groups) _ one.1 in
    let three = and_parts (same_texts a.resources b.resources) (same_texts a.resource_names b.resource_names) two.1 in
    (λ i. record {
      verbs = texts_are a.verbs b.verbs one.0 i;
      api_groups = texts_are a.api_groups b.api_groups two.0 i;
      resources = texts_are a.resources b.resources three.0 i;
      resource_names = texts_are a.resource_names b.resource_names three.1 i;
      non_resource_urls = b.non_resource_urls;
    })

pub both_list_names : (a b : PolicyRule) → are_alike part.Names a b ≡ true → (lists_names a ≡ true) × (lists_names b ≡ true)
both_list_names a b h =
    let one = and_parts (same_texts a.verbs b.verbs) _ h in
    let two = and_parts (same_texts a.api_groups b.api_groups) _ one.1 in
    let three = and_parts (same_texts a.resources b.resources) _ two.1 in
    let four = and_parts (same_texts a.non_resource_urls b.non_resource_urls) _ three.1 in
    and_parts (lists_names a) (lists_names b) four.1

-- ---- each list

at_first : (x y c : Bool) → ((x || y) && c) ≡ ((x && c) || (y && c))
at_first true true true = refl
at_first true true false = refl
at_first true false true = refl
at_first true false false = refl
at_first false y c = refl

at_last : (c x y : Bool) → (c && (x || y)) ≡ ((c && x) || (c && y))
at_last true x y = refl
at_last false x y = refl

twice : (x : Bool) → x ≡ (x || x)
twice true = refl
twice false = refl

names_both : (xs ys : List (List ℕ)) (name : List ℕ) → not (length xs == 0) ≡ true → not (length ys == 0) ≡ true → names_match (xs ++ ys) name ≡ (names_match xs name || names_match ys name)
names_both [] ys name some more = absurd (cc some)
names_both (x ∷ xs) [] name some more = absurd (cc more)
names_both (x ∷ xs) (y ∷ ys) name some more =
    rw (eqb-suc-zero (length (xs ++ y ∷ ys)), eqb-suc-zero (length xs), eqb-suc-zero (length ys)) (list_any-append (λ n. bytes_eq n name) (x ∷ xs) (y ∷ ys))

some_words : (word : List ℕ) (xs ys : List (List ℕ)) → list_any (λ e. word_matches e word) (xs ++ ys) ≡ (list_any (λ e. word_matches e word) xs || list_any (λ e. word_matches e word) ys)
some_words word xs ys = list_any-append (λ e. word_matches e word) xs ys

by_names : (a : PolicyRule) (more : List (List ℕ)) (p : Point) → lists_names a ≡ true → not (length more == 0) ≡ true
    → allows (record a { resource_names = a.resource_names ++ more }) p ≡ (allows a p || allows (record a { resource_names = more }) p)
by_names a more (point.Resource p) some many =
    let V : Bool = list_any (λ e. word_matches e p.verb) a.verbs in
    let G : Bool = list_any (λ e. word_matches e p.group) a.api_groups in
    let R : Bool = list_any (λ e. resource_matches e p.resource p.subresource) a.resources in
    ap (λ n. V && (G && (R && n))) (names_both a.resource_names more p.name some many)
    ∙ ap (λ n. V && (G && n)) (at_last R (names_match a.resource_names p.name) (names_match more p.name))
    ∙ ap (λ n. V && n) (at_last G (R && names_match a.resource_names p.name) (R && names_match more p.name))
    ∙ at_last V (G && (R && names_match a.resource_names p.name)) (G && (R && names_match more p.name))
by_names a more (point.Url p) some many = twice (allows a (point.Url p))

by_verbs : (a : PolicyRule) (more : List (List ℕ)) (p : Point) → allows (record a { verbs = a.verbs ++ more }) p ≡ (allows a p || allows (record a { verbs = more }) p)
by_verbs a more (point.Resource p) =
    let rest : Bool = list_any (λ e. word_matches e p.group) a.api_groups && (list_any (λ e. resource_matches e p.resource p.subresource) a.resources && names_match a.resource_names p.name) in
    ap (λ v. v && rest) (some_words p.verb a.verbs more) ∙ at_first (list_any (λ e. word_matches e p.verb) a.verbs) (list_any (λ e. word_matches e p.verb) more) rest
by_verbs a more (point.Url p) =
    let rest : Bool = list_any (λ e. url_matches e p.path) a.non_resource_urls in
    ap (λ v. v && rest) (some_words p.verb a.verbs more) ∙ at_first (list_any (λ e. word_matches e p.verb) a.verbs) (list_any (λ e. word_matches e p.verb) more) rest

by_groups : (a : PolicyRule) (more : List (List ℕ)) (p : Point) → allows (record a { api_groups = a.api_groups ++ more }) p ≡ (allows a p || allows (record a { api_groups = more }) p)
by_groups a more (point.Resource p) =
    let V : Bool = list_any (λ e. word_matches e p.verb) a.verbs in
    let rest : Bool = list_any (λ e. resource_matches e p.resource p.subresource) a.resources && names_match a.resource_names p.name in
    ap (λ g. V && (g && rest)) (some_words p.group a.api_groups more)
    ∙ ap (λ g. V && g) (at_first (list_any (λ e. word_matches e p.group) a.api_groups) (list_any (λ e. word_matches e p.group) more) rest)
    ∙ at_last V (list_any (λ e. word_matches e p.group) a.api_groups && rest) (list_any (λ e. word_matches e p.group) more && rest)
by_groups a more (point.Url p) = twice (allows a (point.Url p))

by_resources : (a : PolicyRule) (more : List (List ℕ)) (p : Point) → allows (record a { resources = a.resources ++ more }) p ≡ (allows a p || allows (record a { resources = more }) p)
by_resources a more (point.Resource p) =
    let V : Bool = list_any (λ e. word_matches e p.verb) a.verbs in
    let G : Bool = list_any (λ e. word_matches e p.group) a.api_groups in
    let N : Bool = names_match a.resource_names p.name in
    let some : List (List ℕ) → Bool = λ xs. list_any (λ e. resource_matches e p.resource p.subresource) xs in
    ap (λ r. V && (G && (r && N))) (list_any-append (λ e. resource_matches e p.resource p.subresource) a.resources more)
    ∙ ap (λ r. V && (G && r)) (at_first (some a.resources) (some more) N)
    ∙ ap (λ r. V && r) (at_last G (some a.resources && N) (some more && N))
    ∙ at_last V (G && (some a.resources && N)) (G && (some more && N))
by_resources a more (point.Url p) = twice (allows a (point.Url p))

by_urls : (a : PolicyRule) (more : List (List ℕ)) (p : Point) → allows (record a { non_resource_urls = a.non_resource_urls ++ more }) p ≡ (allows a p || allows (record a { non_resource_urls = more }) p)
by_urls a more (point.Resource p) = twice (allows a (point.Resource p))
by_urls a more (point.Url p) =
    let V : Bool = list_any (λ e. word_matches e p.verb) a.verbs in
    ap (λ u. V && u) (list_any-append (λ e. url_matches e p.path) a.non_resource_urls more)
    ∙ at_last V (list_any (λ e. url_matches e p.path) a.non_resource_urls) (list_any (λ e. url_matches e p.path) more)

-- ---- rules that are joined

joined_allows : (which : RuleList) (a b : PolicyRule) (p : Point) → are_alike which a b ≡ true → allows (joined which a b) p ≡ (allows a p || allows b p)
joined_allows part.Names a b p h =
    let names = both_list_names a b h in
    by_names a b.resource_names p names.0 names.1 ∙ ap (λ (r : PolicyRule). allows a p || allows r p) (all_but part.Names a b h)
joined_allows part.Verbs a b p h = by_verbs a b.verbs p ∙ ap (λ (r : PolicyRule). allows a p || allows r p) (all_but part.Verbs a b h)
joined_allows part.Resources a b p h = by_resources a b.resources p ∙ ap (λ (r : PolicyRule). allows a p || allows r p) (all_but part.Resources a b h)
joined_allows part.Groups a b p h = by_groups a b.api_groups p ∙ ap (λ (r : PolicyRule). allows a p || allows r p) (all_but part.Groups a b h)
joined_allows part.Urls a b p h = by_urls a b.non_resource_urls p ∙ ap (λ (r : PolicyRule). allows a p || allows r p) (all_but part.Urls a b h)

-- ---- places

found_at : (which : RuleList) (rules : List PolicyRule) (rule first : PolicyRule) → place_of which rules rule < length rules → first ≡ slice_index_or rules (place_of which rules rule) first
    → with_rule which rules rule ≡ slice_set rules (place_of which rules rule) (joined which first rule)
unfolding with_rule
found_at which [] rule first inside there = absurd (omega (arith, inside))
found_at which (x ∷ rules) rule first inside there = by_case (are_alike which x rule) inside there (found_at which rules rule first)
  where
    by_case : (b : Bool) → (if b then 0 else suc (place_of which rules rule)) < length (x ∷ rules) → first ≡ slice_index_or (x ∷ rules) (if b then 0 else suc (place_of which rules rule)) first
        → (place_of which rules rule < length rules → first ≡ slice_index_or rules (place_of which rules rule) first
        → with_rule which rules rule ≡ slice_set rules (place_of which rules rule) (joined which first rule))
        → (if b then joined which x rule ∷ rules else x ∷ with_rule which rules rule)
        ≡ slice_set (x ∷ rules) (if b then 0 else suc (place_of which rules rule)) (joined which first rule)
    by_case true inside there more = ap (λ (z : PolicyRule). joined which z rule ∷ rules) (sym there)
    by_case false inside there more = ap (λ (l : List PolicyRule). x ∷ l) (more (omega (arith, inside)) there)

pub joined_at : (which : RuleList) (rules : List PolicyRule) (rule first new : PolicyRule) (place : ℕ) → new ≡ joined which first rule → place ≡ place_of which rules rule → place < length rules
    → first ≡ slice_index_or rules place first → slice_set rules place new ≡ with_rule which rules rule
joined_at which rules rule first new place is at inside there =
    ap (λ (r : PolicyRule). slice_set rules place r) is ∙ ap (λ n. slice_set rules n (joined which first rule)) at
    ∙ sym (found_at which rules rule first (subst (λ n. n < length rules) at inside) (subst (λ n. first ≡ slice_index_or rules n first) at there))

pub added_last : (which : RuleList) (rules : List PolicyRule) (rule : PolicyRule) → length rules ≤ place_of which rules rule → with_rule which rules rule ≡ rules ++ rule ∷ []
unfolding with_rule
added_last which [] rule behind = refl
added_last which (x ∷ rules) rule behind = by_case (are_alike which x rule) behind (added_last which rules rule)
  where
    by_case : (b : Bool) → length (x ∷ rules) ≤ (if b then 0 else suc (place_of which rules rule)) → (length rules ≤ place_of which rules rule → with_rule which rules rule ≡ rules ++ rule ∷ [])
        → (if b then joined which x rule ∷ rules else x ∷ with_rule which rules rule) ≡ x ∷ (rules ++ rule ∷ [])
    by_case true behind more = absurd (omega (arith, behind))
    by_case false behind more = ap (λ (l : List PolicyRule). x ∷ l) (more (omega (arith, behind)))

-- ---- passes

across : (a b c : Bool) → ((a || b) || c) ≡ ((a || c) || b)
across true b c = refl
across false true true = refl
across false true false = refl
across false false true = refl
across false false false = refl

module _ (which : RuleList) (p : Point) where
  abbrev some_allows : List PolicyRule → Bool
  some_allows rules = list_any (λ rule. allows rule p) rules

  one_more : (rules : List PolicyRule) (rule : PolicyRule) → some_allows (with_rule which rules rule) ≡ (some_allows rules || allows rule p)
  unfolding with_rule
  one_more [] rule = or_false (allows rule p)
  one_more (first ∷ rules) rule = by_case (are_alike which first rule) refl (one_more rules rule)
    where
      by_case : (b : Bool) → are_alike which first rule ≡ b → some_allows (with_rule which rules rule) ≡ (some_allows rules || allows rule p)
          → some_allows (if b then joined which first rule ∷ rules else first ∷ with_rule which rules rule) ≡ ((allows first p || some_allows rules) || allows rule p)
      by_case true alike more = ap (λ t. t || some_allows rules) (joined_allows which first rule p alike) ∙ across (allows first p) (allows rule p) (some_allows rules)
      by_case false other more = ap (λ t. allows first p || t) more ∙ sym (or_assoc (allows first p) (some_allows rules) (allows rule p))

  all_more : (done rules : List PolicyRule) → some_allows (fold (with_rule which) done rules) ≡ (some_allows done || some_allows rules)
  all_more done [] = sym (or_false (some_allows done))
  all_more done (rule ∷ rules) =
      all_more (with_rule which done rule) rules ∙ ap (λ t. t || some_allows rules) (one_more done rule) ∙ or_assoc (some_allows done) (allows rule p) (some_allows rules)

-- a point is allowed by some rule exactly if some atom allows it
pub together_allows : (atoms : List Atom) (p : Point) → list_any (λ rule. allows rule p) (together atoms) ≡ list_any (λ a. atom_allows a p) atoms
unfolding together
together_allows atoms p =
    let names = put_together part.Names (map rule_of atoms) in
    let verbs = put_together part.Verbs names in
    let resources = put_together part.Resources verbs in
    let groups = put_together part.Groups resources in
    all_more part.Urls p [] groups ∙ all_more part.Groups p [] resources ∙ all_more part.Resources p [] verbs ∙ all_more part.Verbs p [] names ∙ all_more part.Names p [] (map rule_of atoms)
    ∙ any_map (λ rule. allows rule p) rule_of atoms ∙ any_same _ _ atoms (λ a. alone_allows a p)
