use Rattle.std.proofs.Common.{◌≡◌, take}
use Rattle.std.specs.List.{flat_map}
use Rattle.kapi_policy.specs.Views.{binding_of}
use Rattle.kapi_access.specs.Dangling.{absent}
use Rattle.kapi_access.proofs.dangling.absent_accounts.Given as goal

abbrev pub invariant-loop-subject : goal.invariant-loop-subject
invariant-loop-subject l = l.list.items ≡ flat_map (absent l.accounts (binding_of l.binding).namespace) (take l.subject-index (binding_of l.binding).subjects)
