use Rattle.std.proofs.Common.{◌≡◌, not, map}
use Rattle.std.specs.List.{filter}
use Rattle.kapi_access.specs.Risks.{is_grave}
use Rattle.kapi_access.specs.Views.{gained_rule_of}
use Rattle.kapi_access.proofs.answer.grave_first.Given as goal

-- the grave gains so far, and the others
abbrev pub invariant-loop-gain : goal.invariant-loop-gain
invariant-loop-gain l =
    (map gained_rule_of l.grave.items ≡ filter (λ g. is_grave g.gain) (map gained_rule_of l.yielded))
    × (map gained_rule_of l.others.items ≡ filter (λ g. not (is_grave g.gain)) (map gained_rule_of l.yielded))
