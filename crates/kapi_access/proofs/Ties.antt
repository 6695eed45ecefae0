-- Rules and scopes that tie are equal.
use Rattle.std.proofs.Common.{◌≡◌, ℕ, List, [], ◌∷◌, refl, sym, ap, ◌∙◌}
use Rattle.std.proofs.lemmas.Map.Text.{is_eq-slice_cmp}
use Rattle.std.specs.Cmp.Lexicographic.{slice_cmp}
use Rattle.std.specs.Ordering.{is_eq, nat_cmp, ordering_then}
use Rattle.std.specs.declared.cmp.Ordering.{Ordering}
use Rattle.std.specs.declared.cmp.Ordering.TheVariants.{Less, Equal, Greater}
use Rattle.kapi_rules.proofs.Covers.{same}
use Rattle.kapi_access.specs.Scoped.{scoped_cmp, texts_cmp}
use Rattle.kapi_access.specs.declared.scoped.ScopedRule.{ScopedRule}

both_equal : (a b : Ordering) → ordering_then a b ≡ Equal → (a ≡ Equal) × (b ≡ Equal)
both_equal Less b h = absurd (cc h)
both_equal Equal b h = (refl, h)
both_equal Greater b h = absurd (cc h)

text_same : (x y : List ℕ) → slice_cmp nat_cmp x y ≡ Equal → x ≡ y
text_same x y h = same x y (sym (is_eq-slice_cmp x y) ∙ ap is_eq h)

texts_same : (xs ys : List (List ℕ)) → texts_cmp xs ys ≡ Equal → xs ≡ ys
texts_same [] [] h = refl
texts_same [] (y ∷ ys) h = absurd (cc h)
texts_same (x ∷ xs) [] h = absurd (cc h)
texts_same (x ∷ xs) (y ∷ ys) h =
    let parts = both_equal (slice_cmp nat_cmp x y) (texts_cmp xs ys) h in
    ap (λ (z : List ℕ). z ∷ xs) (text_same x y parts.0) ∙ ap (λ (zs : List (List ℕ)). y ∷ zs) (texts_same xs ys parts.1)

pub scoped_same : (a b : ScopedRule) → scoped_cmp a b ≡ Equal → a ≡ b
scoped_same a b h =
    let verbs = both_equal (texts_cmp a.rule.verbs b.rule.verbs) _ h in
    let resources = both_equal (texts_cmp a.rule.resources b.rule.resources) _ verbs.1 in
    let groups = both_equal (texts_cmp a.rule.api_groups b.rule.api_groups) _ resources.1 in
    let names = both_equal (texts_cmp a.rule.resource_names b.rule.resource_names) _ groups.1 in
    let urls = both_equal (texts_cmp a.rule.non_resource_urls b.rule.non_resource_urls) (slice_cmp nat_cmp a.namespace b.namespace) names.1 in
    λ i. record {
      rule = record {
        verbs = texts_same a.rule.verbs b.rule.verbs verbs.0 i;
        api_groups = texts_same a.rule.api_groups b.rule.api_groups groups.0 i;
        resources = texts_same a.rule.resources b.rule.resources resources.0 i;
        resource_names = texts_same a.rule.resource_names b.rule.resource_names names.0 i;
        non_resource_urls = texts_same a.rule.non_resource_urls b.rule.non_resource_urls urls.0 i;
      };
      namespace = text_same a.namespace b.namespace urls.1 i;
    }
