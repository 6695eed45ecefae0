-- The next turn, and a policy in which none is due.
use Rattle.std.proofs.Common.{◌≡◌, inl, inr, ℕ, List, [], ◌∷◌, Bool, true, false, if◌then◌else◌, not, ◌&&◌, Option, Some, None, refl, ap, ◌∙◌}
use Rattle.std.specs.List.{AllByRecursion}
use Rattle.std.specs.Option.{option_or}
use Rattle.kapi_model.specs.declared.policy_rule.PolicyRule.{PolicyRule}
use Rattle.kapi_model.specs.declared.role.ClusterRole.{ClusterRole}
use Rattle.kapi_aggregation.proofs.Equal.{same_rules_are}
use Rattle.kapi_aggregation.specs.Roles.{Labelled, is_aggregated}
use Rattle.kapi_aggregation.specs.Turns.{differs, first_some, next, turn_at, turn_of}
use Rattle.kapi_aggregation.specs.Unions.{IsUnion, same_rules, union_for}
use Rattle.kapi_aggregation.specs.declared.turn.Turn.{Turn}
use Rattle.kapi_policy.specs.Laws.{IsInOrder}
use Rattle.kapi_policy.specs.Objects.{PolicyObjects, applied}
use Rattle.kapi_policy.specs.declared.change.PolicyChange.TheVariants as change
use Rattle.kapi_policy.specs.declared.change.PolicyPut.TheVariants as put
use Rattle.kapi_aggregation.proofs.Lists.{mapped_of}
use Rattle.kapi_escalation_laws.proofs.Entries.{in_found}
use Rattle.kapi_aggregation.specs.Members.{Has}
use Rattle.kapi_escalation_laws.specs.States.{IsSettled, Labels, PolicyState, cluster_role_at, labelled, labelled_roles}
use Rattle.kapi_escalation_laws.specs.Steps.{IsRewritten, IsTurned}

module _ {X Y : Type 0} (f : X → Option Y) where
  first_from : (xs : List X) (y : Y) → first_some f xs ≡ Some y → (x : X) × (Has xs x × (f x ≡ Some y))
  first_from [] y h = absurd (cc h)
  first_from (x ∷ xs) y h = by_case (f x) refl (λ k. first_from xs y k) h
    where
      by_case : (o : Option Y) → f x ≡ o → (first_some f xs ≡ Some y → (z : X) × (Has xs z × (f z ≡ Some y))) → option_or o (first_some f xs) ≡ Some y → (z : X) × (Has (x ∷ xs) z × (f z ≡ Some y))
      by_case None is more k = let rest = more k in (rest.0, (inr rest.1.0, rest.1.1))
      by_case (Some z) is more k = (x, (inl refl, is ∙ k))

turn_if : (b : Bool) (one turn : Turn) → (if b then Some one else None) ≡ Some turn → one ≡ turn
turn_if true one turn h = cc h
turn_if false one turn h = absurd (cc h)

-- the next cluster role is there, and its turn has its union
record Turns (objects : PolicyObjects) (labels : Labels) (turn : Turn) : Type 0 where
  pub role : ClusterRole
  pub found : cluster_role_at objects turn.name ≡ Some role
  pub rules : turn.rules ≡ union_for (labelled_roles objects labels) (labelled labels (turn.name, role))

of_role : (objects : PolicyObjects) (labels : Labels) (name : List ℕ) (role : ClusterRole) (turn : Turn) → cluster_role_at objects name ≡ Some role
    → turn_of (labelled_roles objects labels) (labelled labels (name, role)) ≡ turn → Turns objects labels turn
of_role objects labels name role turn found is =
    rw (← is) (record { role = role; found = found; rules = refl })

next_turns : (objects : PolicyObjects) (labels : Labels) (turn : Turn) → IsInOrder objects → next (labelled_roles objects labels) ≡ Some turn → Turns objects labels turn
next_turns objects labels turn order comes =
    let one = first_from (turn_at (labelled_roles objects labels)) (labelled_roles objects labels) turn comes in
    let entry = mapped_of (labelled labels) objects.cluster_roles one.0 one.1.0 in
    of_role objects labels entry.0.0 entry.0.1 turn (in_found objects.cluster_roles entry.0 order.cluster_roles entry.1.0)
    (ap (turn_of (labelled_roles objects labels)) entry.1.1 ∙ turn_if (differs (labelled_roles objects labels) one.0) (turn_of (labelled_roles objects labels) one.0) turn one.1.1)

same_role : (o : Option ClusterRole) (r c : ClusterRole) → o ≡ Some r → o ≡ Some c → c ≡ r
same_role o r c h k = cc (h, k)

with_rules : (r : ClusterRole) (rules others : List PolicyRule) → rules ≡ others → record r { rules = rules } ≡ record r { rules = others }
with_rules r rules others e = rw e refl

pub next_is_turn : (old new : PolicyState) (turn : Turn) → IsInOrder old.objects → next (labelled_roles old.objects old.labels) ≡ Some turn → IsRewritten old turn new → IsTurned old turn.name new
next_is_turn old new turn order comes is =
    let next_one = next_turns old.objects old.labels turn order comes in
    let one : is.role ≡ next_one.role = same_role (cluster_role_at old.objects turn.name) next_one.role is.role next_one.found is.found in
    let rules : turn.rules ≡ union_for (labelled_roles old.objects old.labels) (labelled old.labels (turn.name, is.role)) = rw one next_one.rules in
    record {
      role = is.role;
      found = is.found;
      objects = is.objects ∙ ap (λ (r : ClusterRole). applied (change.Put (put.ClusterRole turn.name r)) old.objects) (with_rules is.role turn.rules _ rules);
      labels = is.labels;
    }

-- ---- no turn

union_if_same : (aggregated alike : Bool) → (aggregated && not alike) ≡ false → aggregated ≡ true → alike ≡ true
union_if_same true true h k = refl
union_if_same true false h k = absurd (cc h)
union_if_same false alike h k = absurd (cc k)

none_differs : (roles rs : List Labelled) → first_some (turn_at roles) rs ≡ None → AllByRecursion (IsUnion roles) rs
none_differs roles [] h = tt
none_differs roles (r ∷ rs) h = by_case (differs roles r) refl (none_differs roles rs) h
  where
    by_case : (b : Bool) → differs roles r ≡ b → (first_some (turn_at roles) rs ≡ None → AllByRecursion (IsUnion roles) rs) → option_or (if b then Some (turn_of roles r) else None) (first_some (turn_at roles) rs) ≡ None
        → AllByRecursion (IsUnion roles) (r ∷ rs)
    by_case true is more k = absurd (cc k)
    by_case false is more k =
        ((λ aggregated. same_rules_are r.role.rules (union_for roles r) (union_if_same (is_aggregated r) (same_rules r.role.rules (union_for roles r)) is aggregated)), more k)

pub none_is_settled : (state : PolicyState) → next (labelled_roles state.objects state.labels) ≡ None → IsSettled state
none_is_settled state none = none_differs (labelled_roles state.objects state.labels) (labelled_roles state.objects state.labels) none
