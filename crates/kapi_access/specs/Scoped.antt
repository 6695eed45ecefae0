-- The order of rules and their scopes: entry by entry, `*` before names, and what counts everywhere before what counts in a namespace.
use Rattle.std.specs.Prelude.{ℕ, List}
use Rattle.std.specs.Cmp.{IsTotalOrder, on_total, then_total}
use Rattle.std.specs.Cmp.Lexicographic.{lists_total, nat_list_cmp_total, slice_cmp}
use Rattle.std.specs.Ordering.{nat_cmp, ordering_then}
use Rattle.std.specs.declared.cmp.Ordering.{Ordering}
use Rattle.kapi_access.specs.declared.scoped.ScopedRule.{ScopedRule}

-- texts in turn, by their bytes
abbrev pub texts_cmp : List (List ℕ) → List (List ℕ) → Ordering
texts_cmp xs ys = slice_cmp (slice_cmp nat_cmp) xs ys

-- by verbs, resources, groups, names, URLs, and then by scope
abbrev pub scoped_cmp : ScopedRule → ScopedRule → Ordering
scoped_cmp a b =
    ordering_then (texts_cmp a.rule.verbs b.rule.verbs)
    (ordering_then (texts_cmp a.rule.resources b.rule.resources)
    (ordering_then (texts_cmp a.rule.api_groups b.rule.api_groups)
    (ordering_then (texts_cmp a.rule.resource_names b.rule.resource_names)
    (ordering_then (texts_cmp a.rule.non_resource_urls b.rule.non_resource_urls)
    (slice_cmp nat_cmp a.namespace b.namespace)))))

-- ---- the order is total

texts_total : IsTotalOrder texts_cmp
texts_total = lists_total nat_list_cmp_total

pub scoped_total : IsTotalOrder scoped_cmp
scoped_total =
    then_total (on_total (λ (s : ScopedRule). s.rule.verbs) texts_total)
    (then_total (on_total (λ (s : ScopedRule). s.rule.resources) texts_total)
    (then_total (on_total (λ (s : ScopedRule). s.rule.api_groups) texts_total)
    (then_total (on_total (λ (s : ScopedRule). s.rule.resource_names) texts_total)
    (then_total (on_total (λ (s : ScopedRule). s.rule.non_resource_urls) texts_total) (on_total (λ (s : ScopedRule). s.namespace) nat_list_cmp_total)))))
