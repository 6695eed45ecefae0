-- The number of clients that may be accepted is no part of a port and its identity.
use Rattle.std.proofs.Common.{◌∙◌, refl, arith}
use Rattle.kapi_serve.proofs.Listening.{doors_kept}
use Rattle.kapi_serve.proofs.sockets.Sockets.allow.Goals as goal

pub loop-index-preserved : goal.loop-index-preserved
loop-index-preserved g c =
    let ls = c.loop-index.self.listeners in
    (c.loop-index.invariant.0, doors_kept ls.items c.loop-index.index c.index_mut.result.now _ (omega (arith, c.loop-index-test.true, c.loop-index.invariant.0, c.len-index-end.ensures, ls.ok.0)) c.index_mut.ensures.value refl refl ∙ c.loop-index.invariant.1)
