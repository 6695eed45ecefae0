use Rattle.std.proofs.Common.{ap, refl, subst}
use Rattle.kapi_core.specs.Refines.{Makes}
use Rattle.kapi_core.specs.declared.event.Answer.TheVariants as answer
use Rattle.kapi_core.specs.declared.event.Event.TheVariants as event
use Rattle.kapi_serve.specs.Private.Clients.{seats_of}
use Rattle.kapi_serve.proofs.Going.{forgets_at, goes_nothing, goes_on}
use Rattle.kapi_serve.proofs.Tending.{on_as, on_both, on_closed, on_nothing}
use Rattle.kapi_serve.proofs.clients.Clients.forget.Goals as goal

pub loop-index-init : goal.loop-index-init
loop-index-init g c = ((λ d k. goes_nothing _), on_nothing _ _ _)

pub loop-index-preserved : goal.loop-index-preserved
loop-index-preserved g c =
    let i = c.in-Some.index in
    let left = c.remove-client in
    let below = c.in-Some.ensures.bound in (
      (λ d k. goes_on _ _ _ (c.loop-index.invariant.0 d k)
          (forgets_at _ _ _ c.loop-index.self.list.items i left.result below refl (ap seats_of left.ensures.items)
          (subst (λ z. Makes c.loop-index.core c.close.new.self (event.Close z.id) answer.Done) left.ensures.value c.close.ensures))),
      on_both _ _ _ _ _ _ _ _ _ c.loop-index.invariant.1 (on_as _ _ _ _ _ _ _ _ (on_closed _ _ _ _ _ i left.result below left.ensures.value left.ensures.items c.close.ensures) refl c.lower.ensures),
    )

pub returns-clause-moves : goal.returns-clause-moves
returns-clause-moves g c = c.loop-index.invariant.0

pub returns-clause-stands : goal.returns-clause-stands
returns-clause-stands g c = c.loop-index.invariant.1
