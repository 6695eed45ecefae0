use Rattle.std.proofs.Common.{arith, ◌∙◌}
use Rattle.kapi_serve.proofs.Placing.{freed_next, freed_whole}
use Rattle.kapi_serve.proofs.clients.Clients.unblock_all.Goals as goal

pub loop-index-preserved : goal.loop-index-preserved
loop-index-preserved c = (
  c.free.ensures.seats ∙ c.loop-index.invariant.0,
  c.free.ensures.count ∙ c.loop-index.invariant.1,
  λ m s. c.free.ensures.stands m (c.loop-index.invariant.2 m s),
  freed_next c.args.self.now.list.items _ _ c.loop-index.index (omega (arith, c.loop-index-test.true, c.loop-index.invariant.1, c.len-index-end.ensures, c.loop-index.self.list.ok.0)) c.loop-index.invariant.3 c.free.ensures.freed,
)

pub returns-clause-freed : goal.returns-clause-freed
returns-clause-freed c =
    c.loop-index.invariant.3 ∙ freed_whole c.args.self.now.list.items c.loop-index.index (omega (arith, c.loop-index-test.false, c.loop-index.invariant.1, c.len-index-end.ensures, c.loop-index.self.list.ok.0))
