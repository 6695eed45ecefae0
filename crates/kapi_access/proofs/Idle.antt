-- Rules covered by others of their role, and the places that bindings refer to.
use Rattle.std.proofs.Common.{◌≡◌, inl, inr, ℕ, ◌+◌, ◌<◌, Bool, true, false, cond, not, ◌||◌, ◌==◌, if◌then◌else◌, List, [], ◌∷◌, ◌++◌, length, map, take, get_or, Option, Some, None, refl, sym, ap, subst, ◌∙◌, add-one, append-nil}
use Rattle.std.proofs.Math.Seq.{take-suc}
use Rattle.std.proofs.lemmas.Bool.{and_parts, not-true}
use Rattle.std.proofs.lemmas.Grind.{flat_map-append}
use Rattle.std.proofs.lemmas.List.{map-append}
use Rattle.std.proofs.lemmas.List.Folds.{list_any-append}
use Rattle.std.proofs.lemmas.Map.Text.{is_eq-slice_cmp}
use Rattle.std.specs.BTreeSet.{BTreeSet, contains}
use Rattle.std.specs.BTreeMap.{is_at}
use Rattle.std.specs.Cmp.{both_tied}
use Rattle.std.specs.Cmp.Lexicographic.{slice_cmp}
use Rattle.std.specs.List.{enumerate_from, list_any}
use Rattle.std.specs.Ordering.{is_eq, nat_cmp}
use Rattle.std.specs.Str.{bytes_eq}
use Rattle.kapi_text.proofs.Booleans.{cond_or, turned}
use Rattle.kapi_model.specs.declared.policy_rule.PolicyRule.{PolicyRule}
use Rattle.kapi_rules.proofs.Law.{none_missing}
use Rattle.kapi_rules.specs.Missing.{CoversAll, missing}
use Rattle.kapi_object.proofs.Clean.{none_if}
use Rattle.kapi_policy.specs.Decided.{Binding}
use Rattle.kapi_policy.specs.Objects.{place_cmp}
use Rattle.kapi_policy.specs.Views.{binding_of}
use Rattle.kapi_policy.specs.declared.binding.Binding.{Binding as BoundBy}
use Rattle.kapi_policy.specs.declared.change.NamespacedName.{NamespacedName}
use Rattle.kapi_escalation_laws.proofs.Elements.{has_part, part_of}
use Rattle.kapi_aggregation.specs.Members.{Has}
use Rattle.kapi_access.specs.Dangling.{bound_places, covered, covered_by, covers, first_for, is_bound, IsCovered, role_place, same_place, stands_for}
use Rattle.kapi_access.specs.declared.dangling.Covered.{Covered}

-- ---- places

tied : (p q : NamespacedName) → is_eq (place_cmp p q) ≡ same_place q p
tied p q =
    sym (both_tied (bytes_eq q.namespace p.namespace) (bytes_eq q.name p.name) (slice_cmp nat_cmp p.namespace q.namespace) (slice_cmp nat_cmp p.name q.name)
    (turned q.namespace p.namespace ∙ sym (is_eq-slice_cmp p.namespace q.namespace)) (turned q.name p.name ∙ sym (is_eq-slice_cmp p.name q.name)))

-- a set with one place more
pub one_more : (old new : BTreeSet NamespacedName) (place : NamespacedName)
    → ((q : NamespacedName) → contains place_cmp new q ≡ cond (is_at (place_cmp place) q) true (contains place_cmp old q))
    → (q : NamespacedName) → contains place_cmp new q ≡ (same_place q place || contains place_cmp old q)
one_more old new place put q = put q ∙ cond_or (is_eq (place_cmp place q)) (contains place_cmp old q) ∙ ap (λ t. t || contains place_cmp old q) (tied place q)

abbrev one_place : Binding → List NamespacedName
one_place b = role_place b.role.kind b.namespace b.role.name

-- the places of one binding more
pub bound_more : (old new : BTreeSet NamespacedName) (list : List BoundBy) (i : ℕ) (b : BoundBy) → i < length list → b ≡ get_or list i b
    → ((q : NamespacedName) → contains place_cmp old q ≡ is_bound (map binding_of (take i list)) q)
    → ((q : NamespacedName) → contains place_cmp new q ≡ (list_any (same_place q) (role_place (binding_of b).role.kind (binding_of b).namespace (binding_of b).role.name) || contains place_cmp old q))
    → (q : NamespacedName) → contains place_cmp new q ≡ is_bound (map binding_of (take (i + 1) list)) q
bound_more old new list i b below is had put q =
    let cut : take (i + 1) list ≡ take i list ++ b ∷ [] = ap (λ n. take n list) (add-one i) ∙ take-suc list i b below ∙ ap (λ y. take i list ++ y ∷ []) (sym is) in
    let mapped : map binding_of (take (i + 1) list) ≡ map binding_of (take i list) ++ binding_of b ∷ [] = ap (map binding_of) cut ∙ map-append binding_of (take i list) (b ∷ []) in
    let flat : bound_places (map binding_of (take (i + 1) list)) ≡ bound_places (map binding_of (take i list)) ++ one_place (binding_of b) =
    ap bound_places mapped ∙ flat_map-append one_place (map binding_of (take i list)) (binding_of b ∷ []) ∙ ap (λ l. bound_places (map binding_of (take i list)) ++ l) (append-nil (one_place (binding_of b))) in
    put q ∙ ap (λ t. list_any (same_place q) (one_place (binding_of b)) || t) (had q) ∙ swapped (list_any (same_place q) (one_place (binding_of b))) (is_bound (map binding_of (take i list)) q)
    ∙ sym (list_any-append (same_place q) (bound_places (map binding_of (take i list))) (one_place (binding_of b))) ∙ ap (list_any (same_place q)) (sym flat)
  where
    swapped : (a b : Bool) → (a || b) ≡ (b || a)
    swapped true true = refl
    swapped true false = refl
    swapped false true = refl
    swapped false false = refl

-- ---- rules

covers_is : (one other : PolicyRule) → covers one other ≡ true → CoversAll (one ∷ []) (other ∷ [])
covers_is one other h = none_missing (one ∷ []) (other ∷ []) (none_if (missing (one ∷ []) (other ∷ [])) h)

-- the index is of a rule in the list, which stands for the given one
record IsFirst (i : ℕ) (rule : PolicyRule) (list : List (ℕ × PolicyRule)) (j : ℕ) : Type 0 where
  pub other : PolicyRule
  pub listed : Has list (j, other)
  pub stands : stands_for j other i rule ≡ true

first_is : (i : ℕ) (rule : PolicyRule) (list : List (ℕ × PolicyRule)) (j : ℕ) → first_for i rule list ≡ Some j → IsFirst i rule list j
first_is i rule [] j h = absurd (cc h)
first_is i rule (e ∷ list) j h = by_case (stands_for e.0 e.1 i rule) refl h (first_is i rule list j)
  where
    later : IsFirst i rule list j → IsFirst i rule (e ∷ list) j
    later f = record { other = f.other; listed = inr f.listed; stands = f.stands }

    by_case : (b : Bool) → stands_for e.0 e.1 i rule ≡ b → (if b then Some e.0 else first_for i rule list) ≡ Some j → (first_for i rule list ≡ Some j → IsFirst i rule list j) → IsFirst i rule (e ∷ list) j
    by_case true is found more =
        let at : e.0 ≡ j = cc found in
        record { other = e.1; listed = inl (ap (λ n. (n, e.1)) at); stands = subst (λ n. stands_for n e.1 i rule ≡ true) at is }
    by_case false is found more = later (more found)

-- what is listed as covered is
pub each_is_covered : (rules : List PolicyRule) (c : Covered) → Has (covered rules) c → IsCovered rules c
unfolding covered
each_is_covered rules c has = by_first (first_for e.0.0 e.0.1 (enumerate_from 0 rules)) refl e.1.1
  where
    e : (e : ℕ × PolicyRule) × (Has (enumerate_from 0 rules) e × Has (covered_by e.0 (first_for e.0 e.1 (enumerate_from 0 rules))) c)
    e = part_of (λ (e : ℕ × PolicyRule). covered_by e.0 (first_for e.0 e.1 (enumerate_from 0 rules))) (enumerate_from 0 rules) c has

    of_one : (j : ℕ) → first_for e.0.0 e.0.1 (enumerate_from 0 rules) ≡ Some j → record { rule = e.0.0; by = j } ≡ c → IsCovered rules c
    of_one j found is =
        let f = first_is e.0.0 e.0.1 (enumerate_from 0 rules) j found in
        let parts = and_parts (not (j == e.0.0)) _ f.stands in
        let over = and_parts (covers f.other e.0.1) _ parts.1 in
        subst (IsCovered rules) is (record {
          needless = e.0.1;
          other = f.other;
          listed = e.1.0;
          stays = f.listed;
          apart = not-true (j == e.0.0) parts.0;
          allowed = covers_is f.other e.0.1 over.0;
        })

    by_first : (o : Option ℕ) → first_for e.0.0 e.0.1 (enumerate_from 0 rules) ≡ o → Has (covered_by e.0.0 o) c → IsCovered rules c
    by_first None found never = absurd never
    by_first (Some j) found (inl is) = of_one j found is
    by_first (Some j) found (inr never) = absurd never

-- ---- each that can go is listed

some_first : (i : ℕ) (rule : PolicyRule) (list : List (ℕ × PolicyRule)) (j : ℕ) (other : PolicyRule) → Has list (j, other) → stands_for j other i rule ≡ true
    → (k : ℕ) × (first_for i rule list ≡ Some k)
some_first i rule [] j other has stands = absurd has
some_first i rule (e ∷ list) j other has stands = by_case (stands_for e.0 e.1 i rule) refl has (λ there. some_first i rule list j other there stands)
  where
    by_case : (b : Bool) → stands_for e.0 e.1 i rule ≡ b → Has (e ∷ list) (j, other) → (Has list (j, other) → (k : ℕ) × (first_for i rule list ≡ Some k)) → (k : ℕ) × ((if b then Some e.0 else first_for i rule list) ≡ Some k)
    by_case true is there more = (e.0, refl)
    by_case false is (inl same) more = absurd (let so : stands_for e.0 e.1 i rule ≡ true = subst (λ (x : ℕ × PolicyRule). stands_for x.0 x.1 i rule ≡ true) (sym same) stands in cc)
    by_case false is (inr there) more = more there

-- a rule that another makes needless is listed
pub each_is_listed : (rules : List PolicyRule) (i j : ℕ) (rule other : PolicyRule) → Has (enumerate_from 0 rules) (i, rule) → Has (enumerate_from 0 rules) (j, other)
    → stands_for j other i rule ≡ true → (k : ℕ) × Has (covered rules) (record { rule = i; by = k })
unfolding covered
each_is_listed rules i j rule other has there stands =
    let k = some_first i rule (enumerate_from 0 rules) j other there stands in
    (k.0, has_part (λ (e : ℕ × PolicyRule). covered_by e.0 (first_for e.0 e.1 (enumerate_from 0 rules))) (enumerate_from 0 rules) (i, rule) _ has (rw k.1 (inl refl)))
