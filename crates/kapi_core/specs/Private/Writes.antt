-- A write of the store and of the policy, in one step.
use Rattle.std.specs.Prelude.{◌≡◌, ℕ, ◌+◌, List, ◌++◌, Option, None, Some, Result, Ok, Err}
use Rattle.std.specs.declared.alloc.AllocError.{AllocError}
use Rattle.kapi_aggregation.specs.Marks.{Covers, CoversAsMuch, Tracked}
use Rattle.kapi_aggregation.specs.Rewriting.{rewriting}
use Rattle.kapi_aggregation.specs.Roles.{roles_in}
use Rattle.kapi_aggregation.specs.declared.turn.Turn.{Turn}
use Rattle.kapi_text.specs.ResultIs.{Fails}
use Rattle.kapi_answer.specs.Load.{model_of_fault, loads}
use Rattle.kapi_answer.specs.declared.loading.LoadError.{LoadError}
use Rattle.kapi_policy.specs.declared.change.PolicyChange.{PolicyChange}
use Rattle.kapi_policy.specs.Objects.{PolicyObjects}
use Rattle.kapi_store.specs.Plain.{Plain, PlainChange, RefinesPlain, plain_of, written}
use Rattle.kapi_store.specs.Faults.{StoreFault}
use Rattle.kapi_store.specs.State.{Same, State}
use Rattle.kapi_escalation.specs.Reading.{policy_changes, policy_objects}
use Rattle.kapi_core.specs.declared.event.Turned.{Turned}

-- if the old store and policy refine some objects, and the old marks cover their cluster roles, the new ones refine and
-- cover what the changes make of the objects
abbrev pub Writes : State → PolicyObjects → Tracked → State → PolicyObjects → Tracked → List PlainChange → Type 0
Writes s o ms t u ns changes = (cs : List PlainChange) (p : Plain) → RefinesPlain s cs p → o ≡ policy_objects p.objects → Covers ms (roles_in p.objects)
    → RefinesPlain t (cs ++ changes) (written changes p) × (u ≡ policy_objects (written changes p).objects) × Covers ns (roles_in (written changes p).objects)

-- what becomes of a store, a policy and the marks if an object is loaded; if it is refused nothing is changed
abbrev pub LoadsInto : State → PolicyObjects → Tracked → State → PolicyObjects → Tracked → List ℕ → Result (List PolicyChange) LoadError → Type 0
LoadsInto s o ms t u ns text (Ok made) =
    (changes : List PlainChange) × (loads (plain_of s) text ≡ Ok changes) × (made ≡ policy_changes changes) × Writes s o ms t u ns changes
LoadsInto s o ms t u ns text (Err e) = Fails (model_of_fault e) (loads (plain_of s) text) × Same s t × (u ≡ o) × CoversAsMuch ms ns

-- what becomes of a store, a policy and the marks if a turn is made; if its write is refused nothing is changed
abbrev pub TurnsInto : State → PolicyObjects → Tracked → State → PolicyObjects → Tracked → Turn → Result (Option Turned) AllocError → Type 0
TurnsInto s o ms t u ns turn (Ok (Some turned)) =
    (changes : List PlainChange) × (rewriting turn (plain_of s) ≡ Ok changes)
    × (turned ≡ record { revision = s.revision + 1; name = turn.name; policy_changes = policy_changes changes }) × Writes s o ms t u ns changes
TurnsInto s o ms t u ns turn (Ok None) = (fault : StoreFault) × (rewriting turn (plain_of s) ≡ Err fault) × (t ≡ s) × (u ≡ o) × CoversAsMuch ms ns
TurnsInto s o ms t u ns turn (Err e) = (t ≡ s) × (u ≡ o) × CoversAsMuch ms ns
