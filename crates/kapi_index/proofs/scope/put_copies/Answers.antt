use Rattle.std.proofs.Common.{ap, ◌∙◌}
use Rattle.kapi_index.specs.Scopes.{Scoped}
use Rattle.kapi_index.proofs.Copied.{bound_more}
use Rattle.kapi_index.proofs.scope.put_copies.Goals as goal

pub loop-name-preserved : goal.loop-name-preserved
loop-name-preserved c =
    let sorted = c.into_iter-name-iterator.ensures.into_iter_gives.5 in
    let step = c.in-Some.ensures.steps in (
      ap (λ (s : Scoped). s.namespace) c.in_ok-put.ensures.done ∙ c.loop-name.invariant.0,
      bound_more c.loop-name.copied.bindings _ c.in-Some.name.now c.in-Some.bound.now _ _ c.next.new.self c.args.bindings.now.entries step c.loop-name.invariant.1 sorted c.in_ok-copy.ensures (ap (λ (s : Scoped). s.bindings) c.in_ok-put.ensures.done),
    )
