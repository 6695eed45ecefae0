-- A listener takes the place of the one that was found, if fewer clients came by it.
use Rattle.std.proofs.Common.{◌≡◌, ◌<◌, ◌+◌, ℕ, true, Some, None, sym, subst, ◌∙◌, arith}
use Rattle.std.specs.Prelude.{IfSome, nat_lt}
use Rattle.std.proofs.lemmas.Bool.{false≢true, ltb-true, ltb-false}
use Rattle.kapi_serve.specs.Places.{count_by}
use Rattle.kapi_serve.specs.declared.listener.Listener.{Listener}
use Rattle.kapi_serve.proofs.Picking.{HasTurn, IsFewest, fewest_below, fewest_of_all, has_turn, nobody_waits, none_yet, passes_later, passes_other, takes}
use Rattle.kapi_serve.proofs.sockets.next_listener.Goals as goal
use Rattle.kapi_serve.proofs.sockets.next_listener.Goals.{then-has_turn+then-has_fewer, else-has_turn, else-has_turn-via-then-has_turn+else-has_fewer, else-has_turn-via-else-has_turn}

pub loop-index-init : goal.loop-index-init
loop-index-init c = none_yet (λ i. HasTurn c.args.listeners.now i) (λ i. count_by i c.args.slots.now.streams.items)

pub loop-index-preserved : goal.loop-index-preserved
loop-index-preserved c =
    let ls = c.args.listeners.now in
    let slots = c.args.slots.now.streams.items in
    let i = c.loop-index.index in
    let found = c.loop-index.found in
    let may : ℕ → Type 0 = λ k. HasTurn ls k in
    let least : ℕ → ℕ = λ k. count_by k slots in
    let its = c.index-listeners-index.result in
    elim c.if-has_turn.branch [
      | then-has_turn+then-has_fewer w ↦
          subst (λ f. IsFewest ls slots (i + 1) f) (sym w.found-is)
          (takes may least i found (has_turn ls i its c.loop-index-test.true c.index-listeners-index.is (c.has_turn.ensures.0 w.if-has_turn.true))
          (λ s is. let fewer = subst (λ f. IfSome f (λ o. w.has_fewer.result ≡ nat_lt (count_by i slots) (count_by o slots))) is w.has_fewer.ensures.fewer in
          omega (arith, ltb-true _ _ (sym fewer ∙ w.if-has_fewer.true)))
          c.loop-index.invariant)
      | else-has_turn w ↦
          subst (λ f. IsFewest ls slots (i + 1) f) (sym w.found-is)
          (elim w.else-has_turn.branch [
            | else-has_turn-via-then-has_turn+else-has_fewer v ↦
                passes_later may least i found (λ is. false≢true (sym v.if-has_fewer.false ∙ v.has_fewer.ensures.none is))
                (λ s is. let fewer = subst (λ f. IfSome f (λ o. v.has_fewer.result ≡ nat_lt (count_by i slots) (count_by o slots))) is v.has_fewer.ensures.fewer in
                ltb-false _ _ (sym fewer ∙ v.if-has_fewer.false))
                c.loop-index.invariant
            | else-has_turn-via-else-has_turn v ↦ passes_other may least i found (λ turn. false≢true (sym v.if-has_turn.false ∙ c.has_turn.ensures.1 (subst (λ (k : Listener). (k.waiting ≡ true) × (0 < k.left)) (sym c.index-listeners-index.is) (turn.1 its)))) c.loop-index.invariant
          ])
    ]

pub returns-clause-bound : goal.returns-clause-bound
returns-clause-bound c = fewest_below c.args.listeners.now c.args.slots.now.streams.items c.loop-index.index c.loop-index.found c.loop-index.invariant

pub returns-clause-fewest : goal.returns-clause-fewest
returns-clause-fewest c = fewest_of_all c.args.listeners.now c.args.slots.now.streams.items c.loop-index.index c.loop-index.found c.loop-index-test.false c.loop-index.invariant

pub returns-clause-none : goal.returns-clause-none
returns-clause-none c = nobody_waits c.args.listeners.now c.args.slots.now.streams.items c.loop-index.index c.loop-index.found c.loop-index-test.false c.loop-index.invariant
