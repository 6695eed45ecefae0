-- Rules that are the same entry by entry are equal, and lists of such rules too.
use Rattle.std.proofs.Common.{◌≡◌, ℕ, List, [], ◌∷◌, true, refl, ap, ◌∙◌, Decides}
use Rattle.std.specs.Str.{bytes_eq}
use Rattle.std.proofs.lemmas.Bool.{and_parts, and_from}
use Rattle.kapi_model.specs.declared.policy_rule.PolicyRule.{PolicyRule}
use Rattle.kapi_aggregation.specs.Unions.{same_rule, same_rules, same_texts}
use Rattle.kapi_aggregation.proofs.Lists.{itself, same_text}

same_texts_are : (xs ys : List (List ℕ)) → same_texts xs ys ≡ true → xs ≡ ys
same_texts_are [] [] h = refl
same_texts_are [] (y ∷ ys) h = absurd (cc h)
same_texts_are (x ∷ xs) [] h = absurd (cc h)
same_texts_are (x ∷ xs) (y ∷ ys) h =
    let parts = and_parts (bytes_eq x y) (same_texts xs ys) h in
    ap (λ (z : List ℕ). z ∷ xs) (same_text x y parts.0) ∙ ap (λ (zs : List (List ℕ)). y ∷ zs) (same_texts_are xs ys parts.1)

same_texts_itself : (xs : List (List ℕ)) → same_texts xs xs ≡ true
same_texts_itself [] = refl
same_texts_itself (x ∷ xs) = and_from (bytes_eq x x) (same_texts xs xs) (itself x) (same_texts_itself xs)

same_rule_is : (a b : PolicyRule) → same_rule a b ≡ true → a ≡ b
same_rule_is a b h =
    let verbs = and_parts (same_texts a.verbs b.verbs) _ h in
    let groups = and_parts (same_texts a.api_groups b.api_groups) _ verbs.1 in
    let resources = and_parts (same_texts a.resources b.resources) _ groups.1 in
    let names = and_parts (same_texts a.resource_names b.resource_names) _ resources.1 in
    λ i. record {
      verbs = same_texts_are a.verbs b.verbs verbs.0 i;
      api_groups = same_texts_are a.api_groups b.api_groups groups.0 i;
      resources = same_texts_are a.resources b.resources resources.0 i;
      resource_names = same_texts_are a.resource_names b.resource_names names.0 i;
      non_resource_urls = same_texts_are a.non_resource_urls b.non_resource_urls names.1 i;
    }

same_rule_itself : (a : PolicyRule) → same_rule a a ≡ true
same_rule_itself a =
    and_from (same_texts a.verbs a.verbs) _ (same_texts_itself a.verbs)
    (and_from (same_texts a.api_groups a.api_groups) _ (same_texts_itself a.api_groups)
    (and_from (same_texts a.resources a.resources) _ (same_texts_itself a.resources)
    (and_from (same_texts a.resource_names a.resource_names) _ (same_texts_itself a.resource_names)
    (same_texts_itself a.non_resource_urls))))

-- the test on rules decides their equality
pub same_rule_decides : (a b : PolicyRule) → Decides (same_rule a b) (a ≡ b)
same_rule_decides a b = (same_rule_is a b, λ e. rw e (same_rule_itself b))

pub same_rules_are : (xs ys : List PolicyRule) → same_rules xs ys ≡ true → xs ≡ ys
same_rules_are [] [] h = refl
same_rules_are [] (y ∷ ys) h = absurd (cc h)
same_rules_are (x ∷ xs) [] h = absurd (cc h)
same_rules_are (x ∷ xs) (y ∷ ys) h =
    let parts = and_parts (same_rule x y) (same_rules xs ys) h in
    ap (λ (z : PolicyRule). z ∷ xs) (same_rule_is x y parts.0) ∙ ap (λ (zs : List PolicyRule). y ∷ zs) (same_rules_are xs ys parts.1)
