use Rattle.std.proofs.Common.{◌≡◌, take}
use Rattle.std.specs.BTreeMap.Range.{is_from_start}
use Rattle.std.specs.List.{find, fold}
use Rattle.std.specs.Option.{option_copied}
use Rattle.std.specs.Range.Bound.{bound_map}
use Rattle.kapi_policy.specs.Objects.{name_cmp}
use Rattle.kapi_index.specs.Listed.{names_at}
use Rattle.kapi_index.specs.Scopes.{least}
use Rattle.kapi_index.proofs.scope.first_name.Given as goal

abbrev pub invariant-loop-group : goal.invariant-loop-group
invariant-loop-group l =
    option_copied l.found
    ≡ fold (λ found g. least found (find (is_from_start name_cmp (bound_map (λ x. x.now) l.start)) (names_at l.groups.entries g)))
    (find (is_from_start name_cmp (bound_map (λ x. x.now) l.start)) (names_at l.users.entries l.identity.user)) (take l.group-index l.identity.groups)
