-- What an identity has is what it may do, whether rule by rule or in lines.
use Rattle.std.proofs.Common.{◌≡◌, ℕ, ◌+◌, Bool, true, false, ◌&&◌, ◌||◌, if◌then◌else◌, List, [], ◌∷◌, ◌++◌, length, refl, sym, ap, ◌∙◌, ◌==◌}
use Rattle.std.specs.BTreeMap.{insert_entry, is_at}
use Rattle.std.proofs.lemmas.Bool.{and_parts}
use Rattle.std.proofs.lemmas.List.Folds.{list_any-append}
use Rattle.std.specs.List.{enumerate_from, filter, flat_map, fold, list_any}
use Rattle.std.specs.Map.{remove_entry}
use Rattle.std.specs.Option.{unwrap_or}
use Rattle.std.specs.Cmp.{Equal-is}
use Rattle.std.specs.Ordering.{is_eq, match_ordering}
use Rattle.std.specs.Prelude.{cond, None, Some}
use Rattle.std.specs.Str.{bytes_eq}
use Rattle.std.specs.declared.cmp.Ordering.{Ordering}
use Rattle.std.specs.declared.cmp.Ordering.TheVariants.{Less, Equal, Greater}
use Rattle.kapi_text.proofs.Booleans.{and_false, and_or, or_assoc, or_false}
use Rattle.kapi_model.specs.Identities.{is_master}
use Rattle.kapi_model.specs.declared.identity.Identity.{Identity}
use Rattle.kapi_model.specs.declared.policy_rule.PolicyRule.{PolicyRule}
use Rattle.kapi_rules.proofs.Parts.{any_flat_map, any_same}
use Rattle.kapi_rules.specs.Entries.{resource_matches, url_matches, word_matches}
use Rattle.kapi_rules.specs.Rules.{allows}
use Rattle.kapi_rules.specs.declared.point.Point.{Point}
use Rattle.kapi_rules.specs.declared.point.Point.TheVariants as point
use Rattle.kapi_policy.proofs.Decisions.{allowed_where_held}
use Rattle.kapi_policy.specs.All.{all_bindings}
use Rattle.kapi_policy.specs.Decided.{Binding, given, held}
use Rattle.kapi_policy.specs.Objects.{PolicyObjects}
use Rattle.kapi_escalation_laws.specs.Access.{may}
use Rattle.kapi_object.proofs.Clean.{none_if}
use Rattle.kapi_access.specs.Given.{allows_at, counting_in, given_as, given_at, given_by, given_so_far, is_bare, lines_within, what, what_lines, with_given}
use Rattle.kapi_access.specs.Scoped.{scoped_cmp}
use Rattle.kapi_access.specs.Who.{IsRequest, counts}
use Rattle.kapi_access.specs.declared.rights_of.Given.{Given}
use Rattle.kapi_access.specs.declared.rights_of.GivenBy.{GivenBy}
use Rattle.kapi_access.specs.declared.scoped.ScopedRule.{ScopedRule}
use Rattle.kapi_access.proofs.Ties.{scoped_same}
use Rattle.kapi_access.proofs.Walks.{all_count}

-- ---- rules

-- what is bare allows nothing
bare_allows : (rule : PolicyRule) (p : Point) → is_bare rule ≡ true → allows rule p ≡ false
bare_allows rule (point.Resource p) bare =
    let none = ap (list_any (λ e. resource_matches e p.resource p.subresource)) (none_if rule.resources (and_parts (length rule.resources == 0) _ bare).0) in
    never (list_any (λ e. word_matches e p.verb) rule.verbs) (list_any (λ e. word_matches e p.group) rule.api_groups) _ _ none
  where
    never : (a b c d : Bool) → c ≡ false → (a && (b && (c && d))) ≡ false
    never false b c d h = refl
    never true false c d h = refl
    never true true true d h = absurd (cc h)
    never true true false d h = refl
bare_allows rule (point.Url p) bare =
    let none = ap (list_any (λ e. url_matches e p.path)) (none_if rule.non_resource_urls (and_parts (length rule.resources == 0) _ bare).1) in
    ap (λ t. list_any (λ e. word_matches e p.verb) rule.verbs && t) none ∙ and_false (list_any (λ e. word_matches e p.verb) rule.verbs)

in_none : (n : List ℕ) → (length n == 0) ≡ false → bytes_eq n [] ≡ false
in_none [] some = absurd (cc some)
in_none (b ∷ n) some = refl

-- of a rule counts what allows requests there
counting_allows : (namespace : List ℕ) (p : Point) → IsRequest namespace p → (b : Binding) (rule : PolicyRule)
    → (counts namespace b && allows (counting_in b.namespace rule) p) ≡ (counts namespace b && allows rule p)
counting_allows namespace (point.Resource p) asked b rule = by_scope (length b.namespace == 0)
  where
    by_scope : (c : Bool) → (counts namespace b && allows (if c then rule else record rule { non_resource_urls = [] }) (point.Resource p)) ≡ (counts namespace b && allows rule (point.Resource p))
    by_scope true = refl
    by_scope false = refl
counting_allows namespace (point.Url p) asked b rule = by_scope (length b.namespace == 0) refl
  where
    by_scope : (c : Bool) → (length b.namespace == 0) ≡ c
        → ((c || bytes_eq b.namespace namespace) && allows (if c then rule else record rule { non_resource_urls = [] }) (point.Url p)) ≡ ((c || bytes_eq b.namespace namespace) && allows rule (point.Url p))
    by_scope true is = refl
    by_scope false is = rw (asked, in_none b.namespace is) refl

module _ (namespace : List ℕ) (p : Point) (asked : IsRequest namespace p) where
  abbrev counted_allows : Given → Bool
  counted_allows g = allows_at namespace p g.at

  -- what a binding gives of a rule allows what the rule allows, where the binding counts
  one_rule : (b : Binding) (n : ℕ) (rule : PolicyRule) → list_any counted_allows (given_at b (n, rule)) ≡ (counts namespace b && allows rule p)
  one_rule b n rule = by_bare (is_bare (counting_in b.namespace rule)) refl
    where
      by_bare : (t : Bool) → is_bare (counting_in b.namespace rule) ≡ t
          → list_any counted_allows (if t then [] else given_as b n (counting_in b.namespace rule) ∷ []) ≡ (counts namespace b && allows rule p)
      by_bare true is =
          sym (sym (counting_allows namespace p asked b rule) ∙ ap (λ t. counts namespace b && t) (bare_allows (counting_in b.namespace rule) p is) ∙ and_false (counts namespace b))
      by_bare false is = or_false (counts namespace b && allows (counting_in b.namespace rule) p) ∙ counting_allows namespace p asked b rule

  numbered : (b : Binding) (n : ℕ) (rules : List PolicyRule)
      → list_any counted_allows (flat_map (given_at b) (enumerate_from n rules)) ≡ (counts namespace b && list_any (λ rule. allows rule p) rules)
  numbered b n [] = sym (and_false (counts namespace b))
  numbered b n (rule ∷ rules) =
      list_any-append counted_allows (given_at b (n, rule)) (flat_map (given_at b) (enumerate_from (n + 1) rules))
      ∙ ap (λ t. t || list_any counted_allows (flat_map (given_at b) (enumerate_from (n + 1) rules))) (one_rule b n rule)
      ∙ ap (λ t. (counts namespace b && allows rule p) || t) (numbered b (n + 1) rules)
      ∙ and_or (counts namespace b) (allows rule p) (list_any (λ rule. allows rule p) rules)

  if_counted : (c : Bool) (rules : List PolicyRule) → (c && list_any (λ rule. allows rule p) rules) ≡ list_any (λ rule. allows rule p) (if c then rules else [])
  if_counted true rules = refl
  if_counted false rules = refl

  pub what_is_exact : (objects : PolicyObjects) (identity : Identity)
      → may objects identity namespace p ≡ (is_master identity || list_any (λ (g : Given). allows_at namespace p g.at) (what objects identity))
  unfolding held what given_by
  what_is_exact objects identity =
      let rules : Binding → List PolicyRule = λ b. unwrap_or (given objects identity b) [] in
      let test : PolicyRule → Bool = λ rule. allows rule p in
      allowed_where_held objects identity namespace p
      ∙ ap (λ t. is_master identity || t)
      (ap (list_any test) (sym (all_count rules objects namespace))
      ∙ any_flat_map test (λ b. if counts namespace b then rules b else []) (all_bindings objects)
      ∙ any_same _ _ (all_bindings objects) (λ b. sym (numbered b 0 (rules b) ∙ if_counted (counts namespace b) (rules b)))
      ∙ sym (any_flat_map (λ (g : Given). allows_at namespace p g.at) (given_by objects identity) (all_bindings objects)))

-- ---- lines

swapped : (a b : Bool) → (a || b) ≡ (b || a)
swapped true true = refl
swapped true false = refl
swapped false true = refl
swapped false false = refl

had : (a b : Bool) → (a || b) ≡ ((a || b) || a)
had true b = refl
had false true = refl
had false false = refl

module _ (test : ScopedRule → Bool) where
  abbrev some_line : List (ScopedRule × List GivenBy) → Bool
  some_line lines = list_any (λ (l : ScopedRule × List GivenBy). test l.0) lines

  inserted : (lines : List (ScopedRule × List GivenBy)) (at : ScopedRule) (by : List GivenBy) → some_line (insert_entry scoped_cmp lines at by) ≡ (some_line lines || test at)
  inserted [] at by = or_false (test at)
  inserted (l ∷ lines) at by = by_order (scoped_cmp at l.0) refl (inserted lines at by)
    where
      by_order : (o : Ordering) → scoped_cmp at l.0 ≡ o → some_line (insert_entry scoped_cmp lines at by) ≡ (some_line lines || test at)
          → some_line (match_ordering o ((at, by) ∷ l ∷ lines) ((l.0, by) ∷ lines) (l ∷ insert_entry scoped_cmp lines at by)) ≡ ((test l.0 || some_line lines) || test at)
      by_order Less is more = swapped (test at) (test l.0 || some_line lines)
      by_order Equal is more = had (test l.0) (some_line lines) ∙ ap (λ (s : ScopedRule). (test l.0 || some_line lines) || test s) (sym (scoped_same at l.0 is))
      by_order Greater is more = ap (λ t. test l.0 || t) more ∙ sym (or_assoc (test l.0) (some_line lines) (test at))

  removed : (lines : List (ScopedRule × List GivenBy)) (at : ScopedRule) → (some_line (remove_entry (is_at (scoped_cmp at)) lines) || test at) ≡ (some_line lines || test at)
  removed [] at = refl
  removed (l ∷ lines) at = by_test (is_eq (scoped_cmp at l.0)) refl (removed lines at)
    where
      again : (a b : Bool) → (b || a) ≡ ((a || b) || a)
      again true true = refl
      again true false = refl
      again false true = refl
      again false false = refl

      by_test : (c : Bool) → is_eq (scoped_cmp at l.0) ≡ c → (some_line (remove_entry (is_at (scoped_cmp at)) lines) || test at) ≡ (some_line lines || test at)
          → (some_line (cond c lines (l ∷ remove_entry (is_at (scoped_cmp at)) lines)) || test at) ≡ ((test l.0 || some_line lines) || test at)
      by_test true is more = again (test at) (some_line lines) ∙ ap (λ (s : ScopedRule). (test s || some_line lines) || test at) (scoped_same at l.0 ((Equal-is (scoped_cmp at l.0)).0 is))
      by_test false is more =
          or_assoc (test l.0) (some_line (remove_entry (is_at (scoped_cmp at)) lines)) (test at) ∙ ap (λ t. test l.0 || t) more ∙ sym (or_assoc (test l.0) (some_line lines) (test at))

  one_given : (lines : List (ScopedRule × List GivenBy)) (g : Given) → some_line (with_given lines g) ≡ (some_line lines || test g.at)
  one_given lines g = inserted (remove_entry (is_at (scoped_cmp g.at)) lines) g.at (given_so_far lines g.at ++ g.by ∷ []) ∙ removed lines g.at

  all_given : (lines : List (ScopedRule × List GivenBy)) (list : List Given) → some_line (fold with_given lines list) ≡ (some_line lines || list_any (λ (g : Given). test g.at) list)
  all_given lines [] = sym (or_false (some_line lines))
  all_given lines (g ∷ list) =
      all_given (with_given lines g) list ∙ ap (λ t. t || list_any (λ (g : Given). test g.at) list) (one_given lines g)
      ∙ or_assoc (some_line lines) (test g.at) (list_any (λ (g : Given). test g.at) list)

-- a line allows what some rule of the list allows, and nothing else
lines_are_exact : (objects : PolicyObjects) (identity : Identity) (namespace : List ℕ) (p : Point) → IsRequest namespace p
    → may objects identity namespace p ≡ (is_master identity || list_any (λ (l : ScopedRule × List GivenBy). allows_at namespace p l.0) (what_lines objects identity))
lines_are_exact objects identity namespace p asked =
    what_is_exact namespace p asked objects identity ∙ ap (λ t. is_master identity || t) (sym (all_given (λ s. allows_at namespace p s) [] (what objects identity)))

all_kept : {X : Type 0} (xs : List X) → filter (λ x. true) xs ≡ xs
all_kept [] = refl
all_kept (x ∷ xs) = ap (λ l. x ∷ l) (all_kept xs)

-- without a namespace all lines are asked for
pub lines_everywhere : (objects : PolicyObjects) (identity : Identity) (namespace : List ℕ) (p : Point) → IsRequest namespace p
    → may objects identity namespace p ≡ (is_master identity || list_any (λ (l : ScopedRule × List GivenBy). allows_at namespace p l.0) (lines_within None (what_lines objects identity)))
lines_everywhere objects identity namespace p asked =
    lines_are_exact objects identity namespace p asked ∙ ap (λ (ls : List (ScopedRule × List GivenBy)). is_master identity || list_any (λ l. allows_at namespace p l.0) ls) (sym (all_kept (what_lines objects identity)))

counting_kept : (namespace : List ℕ) (p : Point) (lines : List (ScopedRule × List GivenBy))
    → list_any (λ (l : ScopedRule × List GivenBy). allows_at namespace p l.0) (lines_within (Some namespace) lines) ≡ list_any (λ (l : ScopedRule × List GivenBy). allows_at namespace p l.0) lines
counting_kept namespace p [] = refl
counting_kept namespace p (l ∷ lines) = by_case (length l.0.namespace == 0 || bytes_eq l.0.namespace namespace) refl (counting_kept namespace p lines)
  where
    some : List (ScopedRule × List GivenBy) → Bool
    some ls = list_any (λ (k : ScopedRule × List GivenBy). allows_at namespace p k.0) ls

    by_case : (c : Bool) → (length l.0.namespace == 0 || bytes_eq l.0.namespace namespace) ≡ c → some (lines_within (Some namespace) lines) ≡ some lines
        → some (cond c (l ∷ lines_within (Some namespace) lines) (lines_within (Some namespace) lines)) ≡ ((c && allows l.0.rule p) || some lines)
    by_case true is more = ap (λ t. (t && allows l.0.rule p) || some (lines_within (Some namespace) lines)) is ∙ ap (λ t. allows l.0.rule p || t) more
    by_case false is more = more

-- in a namespace those lines that count there are
pub lines_of_namespace : (objects : PolicyObjects) (identity : Identity) (namespace : List ℕ) (p : Point) → IsRequest namespace p
    → may objects identity namespace p ≡ (is_master identity || list_any (λ (l : ScopedRule × List GivenBy). allows_at namespace p l.0) (lines_within (Some namespace) (what_lines objects identity)))
lines_of_namespace objects identity namespace p asked =
    lines_are_exact objects identity namespace p asked ∙ ap (λ t. is_master identity || t) (sym (counting_kept namespace p (what_lines objects identity)))
