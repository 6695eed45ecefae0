use Rattle.std.proofs.Common.{arith, refl, ◌-◌}
use Rattle.kapi_serve.proofs.Tending.{stands_passed}
use Rattle.kapi_serve.proofs.clients.Clients.narrow.Goals as goal

pub loop-start-preserved-then-not-is_awake : goal.loop-start-preserved-then-not-is_awake
loop-start-preserved-then-not-is_awake c = λ m s. stands_passed m _ _ _ c.loop-start.start (c.if-not-is_awake.ensures.quiet refl) (λ i never within. (omega (arith, never, within.0), within.1)) (c.loop-start.invariant m s)

pub loop-start-preserved : goal.loop-start-preserved
loop-start-preserved c = λ m s. stands_passed m _ _ _ (c.loop-start.end - 1) (c.if-not-is_awake-2.ensures.quiet refl) (λ i never within. (within.0, omega (arith, never, within.1))) (c.loop-start.invariant m s)
