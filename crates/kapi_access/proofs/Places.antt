-- The places of rules by keys, and that they hold after each rule that is added.
use Rattle.std.proofs.Common.{◌≡◌, ℕ, suc, ◌<◌, Bool, true, false, cond, not, ◌&&◌, ◌==◌, if◌then◌else◌, List, [], ◌∷◌, ◌++◌, Option, Some, None, length, refl, sym, ap, ap₂, subst, ◌∙◌, arith}
use Rattle.std.proofs.Math.Dec.{eqb-suc-zero}
use Rattle.std.proofs.lemmas.Bool.{and_parts}
use Rattle.std.proofs.lemmas.Map.Text.{is_eq-slice_cmp}
use Rattle.std.specs.BTreeMap.{BTreeMap, get, is_at}
use Rattle.std.specs.Cmp.Lexicographic.{slice_cmp}
use Rattle.std.specs.Option.{option_map}
use Rattle.std.specs.Ordering.{nat_cmp}
use Rattle.std.specs.Prelude.{slice_index_or}
use Rattle.std.specs.Str.{bytes_eq}
use Rattle.kapi_text.proofs.Booleans.{by_truth}
use Rattle.kapi_model.specs.declared.policy_rule.PolicyRule.{PolicyRule}
use Rattle.kapi_rules.proofs.Covers.{itself, same}
use Rattle.kapi_access.proofs.Joined.{all_but, both_list_names, with_list}
use Rattle.kapi_access.specs.Private.Places.{ArePlaces, can_be_joined, first_with, has_key, key_of}
use Rattle.kapi_access.specs.Together.{are_alike, joined, place_of, with_rule}
use Rattle.kapi_access.specs.declared.merge_rules.RuleList.{RuleList}
use Rattle.kapi_access.specs.declared.merge_rules.RuleList.TheVariants as part

-- ---- keys

key_stays : (which : RuleList) (a b : PolicyRule) → key_of which (with_list which a b) ≡ key_of which a
key_stays part.Names a b = refl
key_stays part.Verbs a b = refl
key_stays part.Resources a b = refl
key_stays part.Groups a b = refl
key_stays part.Urls a b = refl

joined_key : (which : RuleList) (a b : PolicyRule) → key_of which (joined which a b) ≡ key_of which a
joined_key part.Names a b = refl
joined_key part.Verbs a b = refl
joined_key part.Resources a b = refl
joined_key part.Groups a b = refl
joined_key part.Urls a b = refl

both_can : (which : RuleList) (a b : PolicyRule) → are_alike which a b ≡ true → (can_be_joined which a ≡ true) × (can_be_joined which b ≡ true)
both_can part.Names a b h = both_list_names a b h
both_can part.Verbs a b h = (refl, refl)
both_can part.Resources a b h = (refl, refl)
both_can part.Groups a b h = (refl, refl)
both_can part.Urls a b h = (refl, refl)

more_names : (xs ys : List (List ℕ)) → not (length xs == 0) ≡ true → not (length (xs ++ ys) == 0) ≡ true
more_names [] ys h = absurd (cc h)
more_names (x ∷ xs) ys h = rw (eqb-suc-zero (length (xs ++ ys))) refl

joined_can : (which : RuleList) (a b : PolicyRule) → are_alike which a b ≡ true → can_be_joined which (joined which a b) ≡ true
joined_can part.Names a b h = more_names a.resource_names b.resource_names (both_list_names a b h).0
joined_can part.Verbs a b h = refl
joined_can part.Resources a b h = refl
joined_can part.Groups a b h = refl
joined_can part.Urls a b h = refl

module _ (which : RuleList) (k : List ℕ) (a b : PolicyRule) (alike : are_alike which a b ≡ true) where
  joined_has : has_key which k (joined which a b) ≡ has_key which k a
  joined_has = ap₂ (λ c l. c && bytes_eq k l) (joined_can which a b alike ∙ sym (both_can which a b alike).0) (joined_key which a b)

  alike_has : has_key which k a ≡ has_key which k b
  alike_has =
      ap₂ (λ c l. c && bytes_eq k l) ((both_can which a b alike).0 ∙ sym (both_can which a b alike).1) (sym (key_stays which a b) ∙ ap (key_of which) (all_but which a b alike))

-- a rule that is like another has its key
its_key : (which : RuleList) (a b : PolicyRule) → are_alike which a b ≡ true → has_key which (key_of which b) a ≡ true
its_key which a b alike = alike_has which (key_of which b) a b alike ∙ ap₂ (λ c d. c && d) (both_can which a b alike).1 (itself (key_of which b))

-- ---- the first rule with a key

pub inside : (which : RuleList) (k : List ℕ) (rules : List PolicyRule) (i : ℕ) → first_with which k rules ≡ Some i → i < length rules
inside which k [] i h = absurd (cc h)
inside which k (x ∷ rules) i h = by_case (has_key which k x) (first_with which k rules) h (inside which k rules)
  where
    by_case : (c : Bool) (o : Option ℕ) → (if c then Some 0 else option_map suc o) ≡ Some i → ((j : ℕ) → o ≡ Some j → j < length rules) → i < suc (length rules)
    by_case true o h more = let at : 0 ≡ i = cc in omega arith
    by_case false None h more = absurd (cc h)
    by_case false (Some j) h more = let at : suc j ≡ i = cc in let below : j < length rules = more j refl in omega arith

pub is_place : (which : RuleList) (rules : List PolicyRule) (rule first : PolicyRule) (i : ℕ) → first_with which (key_of which rule) rules ≡ Some i → first ≡ slice_index_or rules i first
    → are_alike which first rule ≡ true → i ≡ place_of which rules rule
is_place which [] rule first i h there alike = absurd (cc h)
is_place which (x ∷ rules) rule first i h there alike =
    by_case (has_key which (key_of which rule) x) (are_alike which x rule) (first_with which (key_of which rule) rules) (its_key which x rule)
    (λ is. subst (λ (r : PolicyRule). are_alike which r rule ≡ true) is alike) h (λ j is at. is_place which rules rule first j is at alike)
  where
    by_case : (c b : Bool) (o : Option ℕ) → (b ≡ true → c ≡ true) → (first ≡ x → b ≡ true) → (if c then Some 0 else option_map suc o) ≡ Some i
        → ((j : ℕ) → o ≡ Some j → first ≡ slice_index_or rules j first → j ≡ place_of which rules rule) → i ≡ (if b then 0 else suc (place_of which rules rule))
    by_case true true o has like h more = cc
    by_case true false o has like h more =
        let at : i ≡ 0 = cc in absurd (cc (like (subst (λ n. first ≡ slice_index_or (x ∷ rules) n first) at there)))
    by_case false true o has like h more = absurd (cc (has refl))
    by_case false false None has like h more = absurd (cc h)
    by_case false false (Some j) has like h more =
        let at : i ≡ suc j = cc in at ∙ ap suc (more j refl (subst (λ n. first ≡ slice_index_or (x ∷ rules) n first) at there))

-- ---- a rule that none is like

module _ (which : RuleList) (rule : PolicyRule) where
  behind : (b : Bool) (x : PolicyRule) (rules : List PolicyRule) → (b ≡ true → ⊥) → with_rule which rules rule ≡ rules ++ rule ∷ []
      → (if b then joined which x rule ∷ rules else x ∷ with_rule which rules rule) ≡ x ∷ (rules ++ rule ∷ [])
  behind true x rules not_alike more = absurd (not_alike refl)
  behind false x rules not_alike more = ap (λ (l : List PolicyRule). x ∷ l) more

  pub added_alone : (rules : List PolicyRule) → can_be_joined which rule ≡ false → with_rule which rules rule ≡ rules ++ rule ∷ []
  unfolding with_rule
  added_alone [] alone = refl
  added_alone (x ∷ rules) alone =
      behind (are_alike which x rule) x rules (λ alike. let never = sym (both_can which x rule alike).1 ∙ alone in cc) (added_alone rules alone)

  parts : (c : Bool) (o : Option ℕ) → (if c then Some 0 else option_map suc o) ≡ None → (c ≡ false) × (o ≡ None)
  parts true o h = absurd (cc h)
  parts false None h = (refl, refl)
  parts false (Some i) h = absurd (cc h)

  pub added_first : (rules : List PolicyRule) → first_with which (key_of which rule) rules ≡ None → with_rule which rules rule ≡ rules ++ rule ∷ []
  unfolding with_rule
  added_first [] none = refl
  added_first (x ∷ rules) none =
      let both = parts (has_key which (key_of which rule) x) (first_with which (key_of which rule) rules) none in
      behind (are_alike which x rule) x rules (λ alike. let never = sym (its_key which x rule alike) ∙ both.0 in cc) (added_first rules both.1)

-- ---- the places after one more rule

abbrev else_last : Option ℕ → Bool → ℕ → Option ℕ
else_last (Some i) c n = Some i
else_last None c n = if c then Some n else None

module _ (which : RuleList) (k : List ℕ) where
  one_more : (rules : List PolicyRule) (rule : PolicyRule) → first_with which k (with_rule which rules rule) ≡ else_last (first_with which k rules) (has_key which k rule) (length rules)
  unfolding with_rule
  one_more [] rule = refl
  one_more (x ∷ rules) rule = by_case (are_alike which x rule) refl (one_more rules rule)
    where
      joins : (c d : Bool) (o : Option ℕ) → c ≡ d → (if c then Some 0 else option_map suc o) ≡ else_last (if c then Some 0 else option_map suc o) d (suc (length rules))
      joins true d o is = refl
      joins false true o is = absurd (cc is)
      joins false false None is = refl
      joins false false (Some i) is = refl

      adds : (c d : Bool) (o : Option ℕ) → (if c then Some 0 else option_map suc (else_last o d (length rules))) ≡ else_last (if c then Some 0 else option_map suc o) d (suc (length rules))
      adds true d o = refl
      adds false true None = refl
      adds false false None = refl
      adds false d (Some i) = refl

      by_case : (b : Bool) → are_alike which x rule ≡ b → first_with which k (with_rule which rules rule) ≡ else_last (first_with which k rules) (has_key which k rule) (length rules)
          → first_with which k (if b then joined which x rule ∷ rules else x ∷ with_rule which rules rule)
          ≡ else_last (if has_key which k x then Some 0 else option_map suc (first_with which k rules)) (has_key which k rule) (suc (length rules))
      by_case true alike more =
          ap (λ (c : Bool). if c then Some 0 else option_map suc (first_with which k rules)) (joined_has which k x rule alike)
          ∙ joins (has_key which k x) (has_key which k rule) (first_with which k rules) (alike_has which k x rule alike)
      by_case false other more =
          ap (λ (o : Option ℕ). if has_key which k x then Some 0 else option_map suc o) more ∙ adds (has_key which k x) (has_key which k rule) (first_with which k rules)

module _ (which : RuleList) (rules : List PolicyRule) (rule : PolicyRule) (places : BTreeMap (List ℕ) ℕ) (are : ArePlaces which rules places) where
  keep : ((k : List ℕ) → has_key which k rule ≡ true → (i : ℕ) × (first_with which k rules ≡ Some i)) → ArePlaces which (with_rule which rules rule) places
  keep some = λ k. are k ∙ sym (one_more which k rules rule ∙ stays (first_with which k rules) (has_key which k rule) (some k))
    where
      stays : (o : Option ℕ) (c : Bool) → (c ≡ true → (i : ℕ) × (o ≡ Some i)) → else_last o c (length rules) ≡ o
      stays (Some i) c h = refl
      stays None false h = refl
      stays None true h = absurd (cc (h refl).1)

  pub keep_alone : can_be_joined which rule ≡ false → (new : List PolicyRule) → new ≡ rules ++ rule ∷ [] → ArePlaces which new places
  keep_alone alone new is =
      subst (λ (l : List PolicyRule). ArePlaces which l places) (added_alone which rule rules alone ∙ sym is)
      (keep (λ k has. absurd (let never = sym (and_parts (can_be_joined which rule) _ has).0 ∙ alone in cc)))

  module _ (key : List ℕ) (own : key ≡ key_of which rule) where
    -- what lies under the key of the rule lies under each key that it has
    under : (k : List ℕ) (found : Option ℕ) → found ≡ get (slice_cmp nat_cmp) places key → has_key which k rule ≡ true → first_with which k rules ≡ found
    under k found there has =
        ap (λ (l : List ℕ). first_with which l rules) (same k (key_of which rule) (and_parts (can_be_joined which rule) _ has).1 ∙ sym own) ∙ sym (are key) ∙ sym there

    pub keep_noted : (i : ℕ) → Some i ≡ get (slice_cmp nat_cmp) places key → (new : List PolicyRule) → new ≡ with_rule which rules rule → ArePlaces which new places
    keep_noted i there new is = subst (λ (l : List PolicyRule). ArePlaces which l places) (sym is) (keep (λ k has. (i, under k (Some i) there has)))

    pub added_new : None ≡ get (slice_cmp nat_cmp) places key → (new : List PolicyRule) → new ≡ rules ++ rule ∷ [] → new ≡ with_rule which rules rule
    added_new there new is = is ∙ sym (added_first which rule rules (ap (λ (l : List ℕ). first_with which l rules) (sym own) ∙ sym (are key) ∙ sym there))

    pub noted_last : None ≡ get (slice_cmp nat_cmp) places key → can_be_joined which rule ≡ true → (more : BTreeMap (List ℕ) ℕ) (n : ℕ) → n ≡ length rules
        → ((k : List ℕ) → get (slice_cmp nat_cmp) more k ≡ cond (is_at (slice_cmp nat_cmp key) k) (Some n) (get (slice_cmp nat_cmp) places k))
        → (new : List PolicyRule) → new ≡ rules ++ rule ∷ [] → ArePlaces which new more
    noted_last there can more n count updates new is = λ k.
        updates k ∙ ap₂ (λ (c : Bool) (o : Option ℕ). cond c (Some n) o) (is_eq-slice_cmp key k ∙ turned k) (are k)
        ∙ last (first_with which k rules) (has_key which k rule) (under k None there) ∙ sym (one_more which k rules rule) ∙ ap (first_with which k) (sym (added_new there new is))
      where
        turned : (k : List ℕ) → bytes_eq key k ≡ has_key which k rule
        turned k =
            by_truth (bytes_eq key k) (bytes_eq k key) (λ same_bytes. subst (λ (l : List ℕ). bytes_eq k l ≡ true) (sym (same key k same_bytes)) (itself k))
            (λ same_bytes. subst (λ (l : List ℕ). bytes_eq key l ≡ true) (sym (same k key same_bytes)) (itself key))
            ∙ ap₂ (λ c l. c && bytes_eq k l) (sym can) own

        last : (o : Option ℕ) (c : Bool) → (c ≡ true → o ≡ None) → cond c (Some n) o ≡ else_last o c (length rules)
        last None true h = ap (λ (m : ℕ). Some m) count
        last None false h = refl
        last (Some i) true h = absurd (cc (h refl))
        last (Some i) false h = refl
