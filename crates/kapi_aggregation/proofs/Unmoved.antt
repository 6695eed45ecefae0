-- Changes of no cluster role leave the cluster roles as they are; if no role is aggregated, no names are enough.
use Rattle.std.proofs.Common.{◌≡◌, ◌==◌, ℕ, List, [], ◌∷◌, Bool, true, false, not, ◌||◌, length, Option, None, Some, is_some, refl, sym, ap, ◌∙◌, subst, map}
use Rattle.std.proofs.Math.Dec.{eqb-suc-zero}
use Rattle.std.specs.List.{AllByRecursion, list_any}
use Rattle.std.proofs.lemmas.Bool.{and_parts}
use Rattle.serde_json.specs.Data.{Data}
use Rattle.kapi_model.specs.declared.aggregation_rule.AggregationRule.{AggregationRule}
use Rattle.kapi_store.specs.Changes.{placed_all}
use Rattle.kapi_store.specs.Plain.{PlainChange, plain_change, trees_left_by}
use Rattle.kapi_store.specs.declared.change.Change.{Change}
use Rattle.kapi_store.specs.declared.key.Key.{Key}
use Rattle.kapi_aggregation.specs.Roles.{Labelled, is_aggregated, is_cluster_role, labelled_tree, roles_in, selectors_in}
use Rattle.kapi_aggregation.specs.Turns.{differs, first_some, next}
use Rattle.kapi_aggregation.specs.Unions.{same_rules, union_for}
use Rattle.kapi_aggregation.specs.Marks.{Covers, IsCovered, IsGiven, IsKnown, NoneAggregated, Tracked, is_known, taker_of, turn_if_marked}
use Rattle.kapi_aggregation.proofs.Lists.{all_at, all_from, mapped_of, none_at}
use Rattle.kapi_aggregation.specs.Members.{Has}
use Rattle.kapi_aggregation.proofs.Placed.{placed_all_filter}
use Rattle.kapi_aggregation.proofs.Turning.{found_where_covered, none_unmarked}

-- some of the changes is of a cluster role
is_of_roles : List PlainChange → Bool
is_of_roles cs = list_any (λ c. is_cluster_role c.key) cs

-- a running change is of a cluster role if the model's is
as_data : (cs : List Change) → is_of_roles (map plain_change cs) ≡ list_any (λ c. is_cluster_role c.key) cs
unfolding is_of_roles
as_data [] = refl
as_data (c ∷ cs) = ap (λ b. is_cluster_role c.key || b) (as_data cs)

-- what is written at a key of no cluster role
elsewhere : (cs : List PlainChange) → is_of_roles cs ≡ false → (w : Key × Option Data) → Has (trees_left_by cs) w → is_cluster_role w.0 ≡ false
unfolding is_of_roles
elsewhere cs none w there =
    let made = mapped_of (λ (c : PlainChange). let q : Key × Option Data = (c.key, c.new) in q) cs w there in
    ap (λ (q : Key × Option Data). is_cluster_role q.0) (sym made.1.1) ∙ none_at (λ (c : PlainChange). is_cluster_role c.key) cs made.0 none made.1.0

unmoved : (cs : List PlainChange) (os : List (Key × Data)) → is_of_roles cs ≡ false → roles_in (placed_all (trees_left_by cs) os) ≡ roles_in os
unmoved cs os none =
    ap (map labelled_tree) (placed_all_filter (λ (e : Key × Data). is_cluster_role e.0) (trees_left_by cs) os
    (λ w there x is. elsewhere cs none w there)
    (λ w there e stood at. ap is_cluster_role at ∙ elsewhere cs none w there))

-- marks that cover the cluster roles still cover them after changes of no cluster role
pub unmoved_covers : (t : Tracked) (cs : List Change) (os : List (Key × Data)) → list_any (λ c. is_cluster_role c.key) cs ≡ false
    → Covers t (roles_in os) → Covers t (roles_in (placed_all (trees_left_by (map plain_change cs)) os))
unmoved_covers t cs os none covers = rw (unmoved (map plain_change cs) os (as_data cs ∙ none)) covers

-- if no marks are enough, no turn is due
pub none_due : (t : Tracked) (roles : List Labelled) → not (length t.marks == 0) ≡ false → Covers t roles → None ≡ next roles
none_due t roles none covers = by_marks t.marks refl none
  where
    by_marks : (ms : List (List ℕ)) → t.marks ≡ ms → not (length ms == 0) ≡ false → None ≡ next roles
    by_marks [] is empty = sym (none_unmarked roles roles) ∙ ap (λ (ms : List (List ℕ)). first_some (turn_if_marked ms roles) roles) (sym is) ∙ found_where_covered t roles covers
    by_marks (m ∷ ms) is some = absurd (let never : not (length (m ∷ ms) == 0) ≡ true = ap not (eqb-suc-zero (length ms)) in cc (some, never))

-- ---- cluster roles of which none is aggregated

none_differ : (roles : List Labelled) (r : Labelled) → is_aggregated r ≡ false → differs roles r ≡ true → ⊥
none_differ roles r none d =
    let parts = and_parts (is_aggregated r) (not (same_rules r.role.rules (union_for roles r))) d in cc (none, parts.0)

none_known : (t : Tracked) (r : Labelled) → is_aggregated r ≡ false → IsKnown t.takers r
none_known t r none = by_rule r.role.aggregation_rule none
  where
    by_rule : (o : Option AggregationRule) → is_some o ≡ false → AllByRecursion (λ s. is_known t.takers (taker_of r.name s) ≡ true) (selectors_in o)
    by_rule None h = tt
    by_rule (Some rule) h = absurd (cc h)

-- if no role is aggregated, any names cover the cluster roles if no givers are known
pub none_covered : (t : Tracked) (roles : List Labelled) → t.givers ≡ None → NoneAggregated roles → Covers t roles
none_covered t roles unknown none =
    all_from (IsCovered t roles) roles
    (λ r has. let fails = all_at (λ (q : Labelled). is_aggregated q ≡ false) roles r none has in ((none_known t r fails, subst (λ g. IsGiven g r) (sym unknown) tt), (λ d. absurd (none_differ roles r fails d))))
