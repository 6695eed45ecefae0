use Rattle.std.proofs.Common.{arith}
use Rattle.std.proofs.lemmas.Grind.{common_steps}
use Rattle.kapi_policy.specs.All.{all_bindings}
use Rattle.kapi_policy.specs.Views.{binding_of}
use Rattle.kapi_access.specs.Earlier.{bindings_at}
use Rattle.kapi_access.proofs.Alike.{still_among}
use Rattle.kapi_access.proofs.gained.gains.Goals as goal

pub push_unless_earlier-requires-clause-earlier : goal.push_unless_earlier-requires-clause-earlier
push_unless_earlier-requires-clause-earlier g c =
    still_among (binding_of c.binding-item.result) (bindings_at c.from_place-rest.result.now) (bindings_at c.loop-binding.rest.now) (all_bindings (g.P.Policy.content c.args.before.now)) c.from_place-rest.ensures
    c.loop-binding.invariant.earlier

pub loop-binding-preserved : goal.loop-binding-preserved
loop-binding-preserved g c = record {
  listed = grind (arith, common_steps);
  earlier = still_among (binding_of c.binding-item.result) (bindings_at c.from_place-rest.result.now) (bindings_at c.loop-binding.rest.now) (all_bindings (g.P.Policy.content c.args.before.now)) c.from_place-rest.ensures
      c.loop-binding.invariant.earlier;
}

pub returns : goal.returns
returns g c = grind (arith, common_steps, c.loop-binding.invariant.listed)
