use Rattle.std.proofs.Common.{◌≡◌, ◌++◌}
use Rattle.kapi_policy.proofs.copies.copy_map.Given as goal

abbrev pub invariant-loop-key : goal.invariant-loop-key
invariant-loop-key g l = l.copied.entries ++ l.key-iterator ≡ l.map.entries
