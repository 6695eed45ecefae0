-- The laws of runs.
use Rattle.std.proofs.Common.{List}
use Rattle.kapi_model.specs.declared.identity.Identity.{Identity}
use Rattle.kapi_escalation_laws.proofs.Facts.{acting_hold_own, gives_nothing}
use Rattle.kapi_escalation_laws.proofs.Steps.{begins, never_grow, run_keeps}
use Rattle.kapi_escalation_laws.specs.Access.{GivesNothing}
use Rattle.kapi_escalation_laws.specs.States.{PolicyState}
use Rattle.kapi_escalation_laws.specs.Steps.{AreBy, IsGuarded, PolicyStep, Runs}
use Rattle.kapi_escalation_laws.specs.Within.{ActorsHoldOwn, BindingsStayWithin, RolesNeverGrow, RolesStayWithin, StaysWithin, TurnsStayWithin}

-- all stays within what the acting identities held at the start
pub all_within : (acting : List Identity) (start now : PolicyState) (steps : List PolicyStep) → IsGuarded acting start → AreBy acting steps → Runs start steps now
    → StaysWithin acting start.objects now.objects now.labels
all_within acting start now steps guarded by runs =
    run_keeps acting start.objects guarded.unprivileged start now steps (begins acting start guarded.order guarded.settled) by runs

pub actors_hold_own : (acting : List Identity) (start now : PolicyState) (steps : List PolicyStep) → IsGuarded acting start → AreBy acting steps → Runs start steps now
    → ActorsHoldOwn acting start.objects now.objects
actors_hold_own acting start now steps guarded by runs =
    acting_hold_own acting start.objects now.objects now.labels (all_within acting start now steps guarded by runs)

pub nobody_gains : (acting : List Identity) (start now : PolicyState) (steps : List PolicyStep) → IsGuarded acting start → AreBy acting steps → Runs start steps now
    → GivesNothing acting start.objects now.objects
nobody_gains acting start now steps guarded by runs =
    gives_nothing acting start.objects now.objects now.labels (all_within acting start now steps guarded by runs)

pub roles_stay_within : (acting : List Identity) (start now : PolicyState) (steps : List PolicyStep) → IsGuarded acting start → AreBy acting steps → Runs start steps now
    → RolesStayWithin acting start.objects now.objects
roles_stay_within acting start now steps guarded by runs = (all_within acting start now steps guarded by runs).roles

pub bindings_stay_within : (acting : List Identity) (start now : PolicyState) (steps : List PolicyStep) → IsGuarded acting start → AreBy acting steps → Runs start steps now
    → BindingsStayWithin acting start.objects now.objects
bindings_stay_within acting start now steps guarded by runs = (all_within acting start now steps guarded by runs).bindings

pub turns_stay_within : (acting : List Identity) (start now : PolicyState) (steps : List PolicyStep) → IsGuarded acting start → AreBy acting steps → Runs start steps now
    → TurnsStayWithin acting start.objects now.objects now.labels
turns_stay_within acting start now steps guarded by runs = (all_within acting start now steps guarded by runs).turns

pub roles_never_grow : (acting : List Identity) (start now later : PolicyState) (steps more : List PolicyStep) → IsGuarded acting start → AreBy acting steps → AreBy acting more → Runs start steps now → Runs now more later
    → RolesNeverGrow acting start.objects now.objects later.objects
roles_never_grow acting start now later steps more guarded by others runs on =
    never_grow acting start.objects guarded.unprivileged now later more (all_within acting start now steps guarded by runs) others on
