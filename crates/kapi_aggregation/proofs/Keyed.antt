-- Keys of rules compare as equal if the rules are the same, so a set of them shows which rules a list has.
use Rattle.std.proofs.Common.{◌≡◌, ◌+◌, ℕ, List, [], ◌∷◌, ◌++◌, Bool, true, false, not, cond, if◌then◌else◌, ◌||◌, length, refl, sym, ap, subst, ◌∙◌, append-nil, arith}
use Rattle.std.proofs.lemmas.List.{length-append}
use Rattle.std.proofs.lemmas.Map.Text.{is_eq-slice_cmp}
use Rattle.std.specs.Bool.{OnFalse}
use Rattle.std.specs.BTreeMap.{is_at}
use Rattle.std.specs.Cmp.{both_tied}
use Rattle.std.specs.Cmp.Lexicographic.{slice_cmp}
use Rattle.std.specs.List.{fold, list_any}
use Rattle.std.specs.Ordering.{is_eq, nat_cmp}
use Rattle.std.specs.Str.{bytes_eq}
use Rattle.kapi_model.specs.declared.policy_rule.PolicyRule.{PolicyRule}
use Rattle.kapi_aggregation.specs.Keyed.{HaveRules, picked, rule_cmp, rule_of_key}
use Rattle.kapi_aggregation.specs.Unions.{same_rule, same_texts, with_rule}
use Rattle.kapi_aggregation.specs.declared.union.RuleKey.{RuleKey}

texts_tied : (xs ys : List (List ℕ)) → same_texts xs ys ≡ is_eq (slice_cmp (slice_cmp nat_cmp) xs ys)
texts_tied [] [] = refl
texts_tied [] (y ∷ ys) = refl
texts_tied (x ∷ xs) [] = refl
texts_tied (x ∷ xs) (y ∷ ys) =
    both_tied (bytes_eq x y) (same_texts xs ys) (slice_cmp nat_cmp x y) (slice_cmp (slice_cmp nat_cmp) xs ys) (sym (is_eq-slice_cmp x y)) (texts_tied xs ys)

rule_tied : (a b : RuleKey) → same_rule (rule_of_key a) (rule_of_key b) ≡ is_eq (rule_cmp a b)
rule_tied a b =
    both_tied _ _ _ _ (texts_tied a.verbs.now b.verbs.now)
    (both_tied _ _ _ _ (texts_tied a.api_groups.now b.api_groups.now)
    (both_tied _ _ _ _ (texts_tied a.resources.now b.resources.now)
    (both_tied _ _ _ _ (texts_tied a.resource_names.now b.resource_names.now)
    (texts_tied a.non_resource_urls.now b.non_resource_urls.now))))

-- a test of a list that is one longer
any_more : {X : Type 0} (p : X → Bool) (xs : List X) (x : X) (b : Bool) → p x ≡ b → list_any p (xs ++ x ∷ []) ≡ cond b true (list_any p xs)
any_more p [] x true is = ap (λ c. c || false) is
any_more p [] x false is = ap (λ c. c || false) is
any_more p (y ∷ xs) x b is = by_first (p y) b (any_more p xs x b is)
  where
    by_first : (a b : Bool) → list_any p (xs ++ x ∷ []) ≡ cond b true (list_any p xs) → (a || list_any p (xs ++ x ∷ [])) ≡ cond b true (a || list_any p xs)
    by_first true true rest = refl
    by_first true false rest = refl
    by_first false true rest = rest
    by_first false false rest = rest

-- the keys of the rules, with one more in the set, are those of the list with that rule at its end
pub one_more : (keys new : List RuleKey) (rules : List PolicyRule) (key : RuleKey) (rule : PolicyRule) → rule_of_key key ≡ rule → HaveRules keys rules
    → ((q : RuleKey) → list_any (is_at (rule_cmp q)) new ≡ cond (is_at (rule_cmp key) q) true (list_any (is_at (rule_cmp q)) keys)) → HaveRules new (rules ++ rule ∷ [])
one_more keys new rules key rule of have put = λ q.
    put q
    ∙ ap (cond (is_eq (rule_cmp key q)) true) (have q)
    ∙ sym (any_more (λ (f : PolicyRule). same_rule f (rule_of_key q)) rules rule (is_eq (rule_cmp key q)) (ap (λ (f : PolicyRule). same_rule f (rule_of_key q)) (sym of) ∙ rule_tied key q))

-- a rule whose key is not in the set is put at the end
pub new_rule : (keys : List RuleKey) (rules : List PolicyRule) (key : RuleKey) (rule : PolicyRule) → rule_of_key key ≡ rule → HaveRules keys rules
    → list_any (is_at (rule_cmp key)) keys ≡ false → with_rule rules rule ≡ rules ++ rule ∷ []
new_rule keys rules key rule of have absent =
    ap (λ b. cond b rules (rules ++ rule ∷ [])) (ap (λ (r : PolicyRule). list_any (λ f. same_rule f r) rules) (sym of) ∙ sym (have key) ∙ absent)

-- a rule whose key is in the set is not put at the end
pub old_rule : (keys : List RuleKey) (rules : List PolicyRule) (key : RuleKey) (rule : PolicyRule) → rule_of_key key ≡ rule → HaveRules keys rules
    → list_any (is_at (rule_cmp key)) keys ≡ true → with_rule rules rule ≡ rules
old_rule keys rules key rule of have there =
    ap (λ b. cond b rules (rules ++ rule ∷ [])) (ap (λ (r : PolicyRule). list_any (λ f. same_rule f r) rules) (sym of) ∙ sym (have key) ∙ there)

-- the result of an insertion, which says whether the key is new, shows whether it was there
pub was_absent : (added there : Bool) → added ≡ not there → added ≡ true → there ≡ false
was_absent added true is new = absurd (cc (is, new))
was_absent added false is new = refl

pub was_there : (added there : Bool) → added ≡ not there → added ≡ false → there ≡ true
was_there added true is old = refl
was_there added false is old = absurd (cc (is, old))

-- ---- rules that are gone over

pub picked_none : {X : Type 0} (bs : List Bool) → picked {X = X} bs [] ≡ []
picked_none [] = refl
picked_none (b ∷ bs) = refl

picked_more : {X : Type 0} (bs : List Bool) (xs : List X) (b : Bool) (x : X) → length bs ≡ length xs → picked (bs ++ b ∷ []) (xs ++ x ∷ []) ≡ picked bs xs ++ (if b then x ∷ [] else [])
picked_more [] [] true x same = refl
picked_more [] [] false x same = refl
picked_more [] (y ∷ ys) b x same = absurd (omega arith)
picked_more (a ∷ more) [] b x same = absurd (omega arith)
picked_more (true ∷ more) (y ∷ ys) b x same = ap (λ zs. y ∷ zs) (picked_more more ys b x (omega arith))
picked_more (false ∷ more) (y ∷ ys) b x same = picked_more more ys b x (omega arith)

once_more : (found rules : List PolicyRule) (rule : PolicyRule) → fold with_rule found (rules ++ rule ∷ []) ≡ with_rule (fold with_rule found rules) rule
once_more found [] rule = refl
once_more found (r ∷ rules) rule = once_more (with_rule found r) rules rule

-- the rules before a place were gone over: those at their first places are picked, and the set has the key of each
pub record Passed (keys : List RuleKey) (first : List Bool) (rules : List PolicyRule) : Type 0 where
  pub kept : picked first rules ≡ fold with_rule [] rules
  pub count : length first ≡ length rules
  pub have : HaveRules keys (fold with_rule [] rules)

-- one rule more was gone over, whose key was put into the set if it was not there
pub passed_more : (keys new : List RuleKey) (first : List Bool) (rules : List PolicyRule) (key : RuleKey) (rule : PolicyRule) (added : Bool) → rule_of_key key ≡ rule → Passed keys first rules
    → added ≡ not (list_any (is_at (rule_cmp key)) keys)
    → ((q : RuleKey) → list_any (is_at (rule_cmp q)) new ≡ cond (is_at (rule_cmp key) q) true (list_any (is_at (rule_cmp q)) keys))
    → OnFalse added (new ≡ keys) → Passed new (first ++ added ∷ []) (rules ++ rule ∷ [])
passed_more keys new first rules key rule added of p is put same = by_added added refl
  where
    found : List PolicyRule
    found = fold with_rule [] rules

    picks : picked (first ++ added ∷ []) (rules ++ rule ∷ []) ≡ found ++ (if added then rule ∷ [] else [])
    picks = picked_more first rules added rule p.count ∙ ap (λ rs. rs ++ (if added then rule ∷ [] else [])) p.kept

    by_added : (b : Bool) → added ≡ b → Passed new (first ++ added ∷ []) (rules ++ rule ∷ [])
    by_added true new_one =
        let absent = was_absent added (list_any (is_at (rule_cmp key)) keys) is new_one in
        let all : fold with_rule [] (rules ++ rule ∷ []) ≡ found ++ rule ∷ [] = once_more [] rules rule ∙ new_rule keys found key rule of p.have absent in
        record {
          kept = picks ∙ ap (λ b. found ++ (if b then rule ∷ [] else [])) new_one ∙ sym all;
          count = length-append first (added ∷ []) ∙ ap (λ n. n + 1) p.count ∙ sym (length-append rules (rule ∷ []));
          have = subst (HaveRules new) (sym all) (one_more keys new found key rule of p.have put);
        }
    by_added false old =
        let there = was_there added (list_any (is_at (rule_cmp key)) keys) is old in
        let all : fold with_rule [] (rules ++ rule ∷ []) ≡ found = once_more [] rules rule ∙ old_rule keys found key rule of p.have there in
        record {
          kept = picks ∙ ap (λ b. found ++ (if b then rule ∷ [] else [])) old ∙ append-nil found ∙ sym all;
          count = length-append first (added ∷ []) ∙ ap (λ n. n + 1) p.count ∙ sym (length-append rules (rule ∷ []));
          have = subst (HaveRules new) (sym all) (subst (λ ks. HaveRules ks found) (sym (let P : Bool → Type 0 = λ b. OnFalse b (new ≡ keys) in subst P old same)) p.have);
        }
