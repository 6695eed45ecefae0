-- The counts of a listener are no part of its port and its identity.
use Rattle.std.proofs.Common.{refl, arith}
use Rattle.kapi_serve.proofs.Listening.{doors_kept}
use Rattle.kapi_serve.proofs.sockets.Sockets.accept_at.Goals as goal

pub returns-in_err-identity-clause-doors : goal.returns-in_err-identity-clause-doors
returns-in_err-identity-clause-doors g c =
    doors_kept c.args.self.now.listeners.items c.args.index c.index_mut-listener.result.now _ (omega (arith, c.requires.listener, c.args.self.now.listeners.ok.0)) c.index_mut-listener.ensures.value refl refl

pub returns-in_err-socket-clause-doors : goal.returns-in_err-socket-clause-doors
returns-in_err-socket-clause-doors g c =
    doors_kept c.args.self.now.listeners.items c.args.index c.index_mut-listener.result.now _ (omega (arith, c.requires.listener, c.args.self.now.listeners.ok.0)) c.index_mut-listener.ensures.value refl refl

pub returns-in_err-set_nodelay-clause-doors : goal.returns-in_err-set_nodelay-clause-doors
returns-in_err-set_nodelay-clause-doors g c =
    doors_kept c.args.self.now.listeners.items c.args.index c.index_mut-listener.result.now _ (omega (arith, c.requires.listener, c.args.self.now.listeners.ok.0)) c.index_mut-listener.ensures.value refl refl

pub returns-in_err-register-clause-doors : goal.returns-in_err-register-clause-doors
returns-in_err-register-clause-doors g c =
    doors_kept c.args.self.now.listeners.items c.args.index c.index_mut-listener.result.now _ (omega (arith, c.requires.listener, c.args.self.now.listeners.ok.0)) c.index_mut-listener.ensures.value refl refl

pub returns-clause-doors : goal.returns-clause-doors
returns-clause-doors g c =
    doors_kept c.args.self.now.listeners.items c.args.index c.index_mut-listener.result.now _ (omega (arith, c.requires.listener, c.args.self.now.listeners.ok.0)) c.index_mut-listener.ensures.value refl refl
