use Rattle.std.proofs.Common.{ap, refl, sym, subst, ◌∙◌, arith}
use Rattle.kapi_serve.specs.Private.Clients.{seats_of}
use Rattle.kapi_serve.specs.Private.ClientsMatch.{IsWithin}
use Rattle.kapi_serve.proofs.Going.{adds_nothing, goes_nothing, goes_on, goes_still, goes_unasked}
use Rattle.kapi_serve.proofs.Tending.{both_still, on_passing, passes_nothing, round_first, round_last, round_next, round_passed, settles_on, settles_woken}
use Rattle.kapi_serve.proofs.server.Server.round.Goals as goal

pub loop-index-init : goal.loop-index-init
loop-index-init g c = (goes_nothing _, round_first _ _ _ _ _ (passes_nothing _), omega arith, refl)

pub visit-visited-requires : goal.visit-visited-requires
visit-visited-requires g c = subst (λ w. IsWithin w c.loop-index.index) (sym c.pass_before-passed.ensures.awake) (c.loop-index.invariant.2, omega (arith, c.loop-index-test.true, c.loop-index.invariant.3))

pub loop-index-preserved : goal.loop-index-preserved
loop-index-preserved g c =
    let passed = c.pass_before-passed.ensures in (
      goes_on _ _ _ c.loop-index.invariant.0 (goes_on _ _ _ (goes_unasked _ _ _ _ _ _ _ _ _ passed.goes) c.visit-visited.ensures.goes),
      round_next _ _ _ _ _ _ _ _ _ _ _ _ _ (λ h. both_still _ _ (sym c.and-progress.ensures ∙ h))
          (round_passed _ _ _ _ _ _ _ _ _ _ _ _ c.pass_before-passed.result (λ h. both_still _ _ (sym c.and-before.ensures ∙ h)) c.loop-index.invariant.1 passed.stands passed.awake
          (λ h. ((passed.still h).0, ap (λ l. l.items) (passed.still h).1))) c.visit-visited.ensures.visits,
      omega (arith, c.visit-visited.ensures.start, c.loop-index.invariant.2, ap (λ w. w.start) passed.awake),
      c.visit-visited.ensures.end ∙ ap (λ w. w.end) passed.awake ∙ c.loop-index.invariant.3,
    )

pub returns-clause-goes : goal.returns-clause-goes
returns-clause-goes g c =
    goes_on _ _ _ (goes_unasked _ _ _ _ _ _ _ _ _ (c.make_turns-progress.ensures.goes _)) (goes_on _ _ _ c.loop-index.invariant.0 (goes_still _ _ _ (c.wake.ensures.seats ∙ ap (λ l. seats_of l.items) c.narrow.ensures.list) (adds_nothing _)))

pub returns-clause-settles : goal.returns-clause-settles
returns-clause-settles g c =
    settles_on _ _ _ _ _ _ _ _ _ _ (on_passing _ _ _ _ c.make_turns-progress.ensures.passes)
    (settles_woken _ _ _ _ _ _ _ _ _ _ _ (λ h. both_still _ _ (sym c.and.ensures ∙ h)) (round_last _ _ _ _ _ _ _ _ (omega (arith, c.loop-index-test.false, c.loop-index.invariant.3)) c.loop-index.invariant.1)
    (λ m s. c.wake.ensures.stands m (c.narrow.ensures.stands m s)) (λ h. ap (λ d. d.list.items) (c.wake.ensures.still h) ∙ ap (λ l. l.items) c.narrow.ensures.list))
