-- A write of no change.
use Rattle.std.proofs.Common.{◌≡◌, List, [], ◌++◌, refl, ap, subst, ◌∙◌, append-nil, add-zero}
use Rattle.kapi_aggregation.specs.Marks.{Covers, Tracked}
use Rattle.kapi_aggregation.specs.Roles.{roles_in}
use Rattle.kapi_store.specs.Changes.{placed_all}
use Rattle.kapi_store.specs.Plain.{Plain, PlainChange, RefinesPlain, plain_of, trees_left_by, written}
use Rattle.kapi_policy.specs.Objects.{PolicyObjects}
use Rattle.kapi_store.specs.State.{State}
use Rattle.kapi_escalation.proofs.Writes.{policy_written}
use Rattle.kapi_policy.specs.Steps.{after_changes}
use Rattle.kapi_escalation.specs.Reading.{policy_changes, policy_objects}
use Rattle.kapi_core.specs.Private.Writes.{Writes}

nothing_written : (s : Plain) → s ≡ written [] s
unfolding placed_all
nothing_written s = rw (add-zero) refl

-- a store, a policy and marks refine and cover the same objects
pub nothing_writes : (s : State) (o : PolicyObjects) (ms : Tracked) → Writes s o ms s o ms []
nothing_writes s o ms cs p stands is covers =
    let P : Plain → Type 0 = λ q. Covers ms (roles_in q.objects) in (
      rw (append-nil, ← nothing_written p) stands,
      is ∙ ap (λ (q : Plain). policy_objects q.objects) (nothing_written p),
      subst P (nothing_written p) covers,
    )

-- the marks cover what the changes make of the store
abbrev pub CoversWritten : State → Tracked → Tracked → List PlainChange → Type 0
CoversWritten s ms ns changes = Covers ms (roles_in (plain_of s).objects) → Covers ns (roles_in (placed_all (trees_left_by changes) (plain_of s).objects))

-- after a noted write that the policy follows, store, policy and marks refine and cover the written objects
pub writes : (s t : State) (o u : PolicyObjects) (ms ns : Tracked) (changes : List PlainChange)
    → ((cs : List PlainChange) (p : Plain) → RefinesPlain s cs p → RefinesPlain t (cs ++ changes) (written changes p))
    → u ≡ after_changes (policy_changes changes) o → CoversWritten s ms ns changes → Writes s o ms t u ns changes
writes s t o u ms ns changes stands made noted cs p before is covers =
    let P : Plain → Type 0 = λ q. Covers ms (roles_in q.objects) → Covers ns (roles_in (placed_all (trees_left_by changes) q.objects)) in
    (stands cs p before, policy_written s cs changes p o u before is made, subst P before.plain noted covers)
