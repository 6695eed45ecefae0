use Rattle.std.proofs.Common.{◌≡◌, take, map}
use Rattle.std.specs.List.{flat_map}
use Rattle.kapi_policy.specs.All.{all_bindings}
use Rattle.kapi_policy.specs.Views.{binding_of}
use Rattle.kapi_access.specs.Gained.{gained_from}
use Rattle.kapi_access.specs.Earlier.{AreAmong, bindings_at}
use Rattle.kapi_access.specs.Views.{gain_of}
use Rattle.kapi_access.proofs.gained.gains.Given as goal

abbrev pub invariant-loop-binding : goal.invariant-loop-binding
invariant-loop-binding g l = record {
  listed : map gain_of l.list.items ≡ flat_map (λ b. gained_from l.alone.identities (g.P.Policy.content l.before) (g.Q.Policy.content l.after) (binding_of b)) (take l.binding-index l.bindings);
  earlier : AreAmong (bindings_at l.rest) (all_bindings (g.P.Policy.content l.before));
}
