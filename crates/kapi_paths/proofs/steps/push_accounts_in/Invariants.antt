use Rattle.std.proofs.Common.{◌≡◌, ◌++◌, take}
use Rattle.std.specs.List.{flat_map}
use Rattle.kapi_paths.specs.Steps as steps
use Rattle.kapi_paths.proofs.steps.push_accounts_in.Given as goal

abbrev pub invariant-loop-account : goal.invariant-loop-account
invariant-loop-account l = l.list.items ≡ l.initial.list.items ++ flat_map (steps.account_in l.place) (take l.account-index l.known.accounts)
