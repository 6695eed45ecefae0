use Rattle.std.proofs.Common.{◌≡◌}
use Rattle.std.specs.List.{filter}
use Rattle.kapi_escalation_laws.specs.Access.{may}
use Rattle.kapi_suggest.proofs.idle.allowed_uses.Given as goal

abbrev pub invariant-loop-used : goal.invariant-loop-used
invariant-loop-used g l = l.allowed.items ≡ filter (λ u. may (g.P.Policy.content l.policy) u.identity u.namespace u.point) l.yielded
