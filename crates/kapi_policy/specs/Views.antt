-- Decisions and bindings without their references.
use Rattle.std.specs.Prelude.{Option, Some, None}
use Rattle.kapi_policy.specs.declared.binding.Binding.{Binding as BoundBy}
use Rattle.kapi_policy.specs.declared.decision.Decision.{Decision}
use Rattle.kapi_policy.specs.declared.decision.Decision.TheVariants.{Allowed, Masters, Denied}
use Rattle.kapi_policy.specs.declared.decision.Grant.{Grant}
use Rattle.kapi_policy.specs.Decided.{Decided, allowed, masters, denied, Binding, Granted}

-- a grant without its references
abbrev pub granted_of : Grant → Granted
granted_of g = record { kind = g.kind; binding = g.binding.now; role = g.role.now; rule = g.rule }

-- a grant without its references, if there is one
abbrev pub granted_if : Option Grant → Option Granted
granted_if None = None
granted_if (Some g) = Some (granted_of g)

-- a decision without its references
abbrev pub decision_of : Decision → Decided
decision_of (Allowed g) = allowed (granted_of g)
decision_of Masters = masters
decision_of Denied = denied

-- a binding without its references
abbrev pub binding_of : BoundBy → Binding
binding_of b = record { kind = b.kind; namespace = b.namespace.now; name = b.name.now; subjects = b.subjects.now; role = b.role.now }
