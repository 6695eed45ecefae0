use Rattle.std.proofs.Common.{◌≡◌, take, map}
use Rattle.std.specs.List.{fold}
use Rattle.kapi_policy.specs.Views.{binding_of}
use Rattle.kapi_access.specs.Who.{with_way}
use Rattle.kapi_access.proofs.way.push_each.Given as goal

abbrev pub invariant-loop-grantee : goal.invariant-loop-grantee
invariant-loop-grantee l =
    l.found ≡ fold with_way l.initial.found (map (λ g. record { to = g; binding = binding_of l.binding; rule = l.fn.rule }) (take l.grantee-index l.to))
