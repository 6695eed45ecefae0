use Rattle.std.proofs.Common.{◌++◌, ap, ◌∙◌, refl, Some}
use Rattle.kapi_serve.specs.Ports.{opened}
use Rattle.kapi_serve.proofs.Going.{goes_on, goes_still}
use Rattle.kapi_serve.proofs.server.Server.take.Goals as goal

pub returns-in-Opened-clause-goes : goal.returns-in-Opened-clause-goes
returns-in-Opened-clause-goes g c = λ h told. c.open.ensures.moves h (λ y. told y ∙ ap (λ e. h ++ opened (Some e)) c.in-Opened.is) _ _

pub returns-in-Readable-clause-goes : goal.returns-in-Readable-clause-goes
returns-in-Readable-clause-goes g c = λ h told. goes_on _ _ _ (goes_still _ _ _ refl (λ y. (y, told y ∙ ap (λ e. h ++ opened (Some e)) c.in-Readable.is))) c.read.ensures.goes

pub returns-in-Writable-clause-goes : goal.returns-in-Writable-clause-goes
returns-in-Writable-clause-goes g c = λ h told. goes_still _ _ _ c.unblock.ensures.seats (λ y. (y, told y ∙ ap (λ e. h ++ opened (Some e)) c.in-Writable.is))

pub returns-in-Idle-clause-goes : goal.returns-in-Idle-clause-goes
returns-in-Idle-clause-goes g c = λ h told. goes_still _ _ _ c.unblock_all.ensures.seats (λ y. (y, told y ∙ ap (λ e. h ++ opened (Some e)) c.in-Idle.is))

pub returns-in-Writable-clause-stands : goal.returns-in-Writable-clause-stands
returns-in-Writable-clause-stands g c = λ m r s. (m, r, c.unblock.ensures.stands m s)

pub returns-in-Idle-clause-stands : goal.returns-in-Idle-clause-stands
returns-in-Idle-clause-stands g c = λ m r s. (m, r, c.unblock_all.ensures.stands m s)
