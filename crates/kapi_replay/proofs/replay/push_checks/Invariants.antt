use Rattle.std.proofs.Common.{◌≡◌, ◌++◌, map, take}
use Rattle.kapi_replay.proofs.replay.push_checks.Given as goal

abbrev pub invariant-loop-want : goal.invariant-loop-want
invariant-loop-want l = l.checks.items ≡ l.initial.checks.items ++ map (λ w. record { number = w.number; compared = l.compared }) (take l.want-index l.case.wants)
