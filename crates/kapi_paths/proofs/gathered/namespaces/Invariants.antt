use Rattle.std.proofs.Common.{◌≡◌, map, take}
use Rattle.kapi_paths.proofs.gathered.namespaces.Given as goal

abbrev pub invariant-loop-account : goal.invariant-loop-account
invariant-loop-account l = l.list.items ≡ map (λ a. a.namespace) (take l.account-index l.accounts)
