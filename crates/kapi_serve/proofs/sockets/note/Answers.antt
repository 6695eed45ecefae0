-- The mark that a client may wait is no part of a port and its identity.
use Rattle.std.proofs.Common.{refl, arith}
use Rattle.kapi_serve.proofs.Listening.{doors_kept}
use Rattle.kapi_serve.proofs.sockets.note.Goals as goal

pub returns-then-token-len-clause-doors : goal.returns-then-token-len-clause-doors
returns-then-token-len-clause-doors c =
    doors_kept c.args.listeners.now.items c.token-token.result.0 c.index_mut.result.now _ (omega (arith, c.if-token-len.true, c.args.listeners.now.ok.0)) c.index_mut.ensures.value refl refl
