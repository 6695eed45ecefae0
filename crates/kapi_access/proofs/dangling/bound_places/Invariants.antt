use Rattle.std.proofs.Common.{◌≡◌, map, take}
use Rattle.std.specs.BTreeSet.{contains}
use Rattle.kapi_policy.specs.Objects.{place_cmp}
use Rattle.kapi_policy.specs.Views.{binding_of}
use Rattle.kapi_policy.specs.declared.change.NamespacedName.{NamespacedName}
use Rattle.kapi_access.specs.Dangling.{is_bound}
use Rattle.kapi_access.proofs.dangling.bound_places.Given as goal

abbrev pub invariant-loop-binding : goal.invariant-loop-binding
invariant-loop-binding l = (q : NamespacedName) → contains place_cmp l.places q ≡ is_bound (map binding_of (take l.binding-index l.bindings)) q
