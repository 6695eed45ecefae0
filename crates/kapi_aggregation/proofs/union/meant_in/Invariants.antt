use Rattle.std.proofs.Common.{◌≡◌, take}
use Rattle.std.specs.List.{flat_map}
use Rattle.kapi_store.specs.Plain.{plain_of}
use Rattle.kapi_aggregation.specs.Marks.{keys_if, rules_given}
use Rattle.kapi_aggregation.proofs.union.meant_in.Given as goal

abbrev pub invariant-loop-selector : goal.invariant-loop-selector
invariant-loop-selector l = l.rules.items ≡ flat_map (rules_given (plain_of l.store).objects (keys_if l.givers) l.role.name.now) (take l.selector-index l.selector-items)
