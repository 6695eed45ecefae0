use Rattle.std.proofs.Common.{take, ◌++◌, ◌∷◌, refl, sym, ap, ◌∙◌}
use Rattle.kapi_serve.specs.Private.Pieces.{owed}
use Rattle.kapi_serve.proofs.Tending.{counted_same, keeps_nothing, keeps_on, keeps_pending}
use Rattle.kapi_serve.proofs.Going.{goes_nothing, goes_still, goes_took}
use Rattle.kapi_serve.proofs.client.Client.write.Goals as goal

pub returns-then-self-clause-writes : goal.returns-then-self-clause-writes
returns-then-self-clause-writes g c = λ a d k front back. goes_nothing _

pub returns-in-Ok-eq0-clause-writes : goal.returns-in-Ok-eq0-clause-writes
returns-in-Ok-eq0-clause-writes g c = λ a d k front back.
    goes_took _ _ _ front back _ _ (take c.in-Ok-eq0.field-0 c.next.result.now) refl refl (ap (λ z. z.slot) c.block.ensures.seat) (ap (λ z. z.conn) c.block.ensures.seat)
    (sym c.advance.ensures.owed ∙ sym (ap (λ z. z.owed) c.block.ensures.seat) ∙ ap (λ n. take n c.next.result.now ++ owed c.block.new.self.pending) (sym c.in-Ok-eq0.field-0-test)) c.in-Ok-eq0.ensures.told

pub returns-in-Ok-clause-writes : goal.returns-in-Ok-clause-writes
returns-in-Ok-clause-writes g c = λ a d k front back.
    goes_took _ _ _ front back _ _ (take c.in-Ok.count c.next.result.now) refl refl refl refl
    (sym c.advance.ensures.owed ∙ c.pass.ensures.owed ∙ ap (λ b. take c.in-Ok.count b ++ owed c.pass.new.self) (sym c.next.ensures)) c.in-Ok.ensures.told

pub returns-in-Err-WouldBlock-clause-writes : goal.returns-in-Err-WouldBlock-clause-writes
returns-in-Err-WouldBlock-clause-writes g c = λ a d k front back.
    goes_still _ _ _ (ap (λ z. front ++ z ∷ back) (c.block-in-Err-WouldBlock.ensures.seat ∙ ap (λ o. record { slot = c.args.self.now.slot; conn = c.args.self.now.id; owed = o }) c.advance.ensures.owed)) c.in-Err-WouldBlock.ensures.told

pub returns-in-Err-Failed-clause-writes : goal.returns-in-Err-Failed-clause-writes
returns-in-Err-Failed-clause-writes g c = λ a d k front back.
    goes_still _ _ _ (ap (λ o. front ++ record { slot = c.args.self.now.slot; conn = c.args.self.now.id; owed = o } ∷ back) c.advance.ensures.owed) c.in-Err-Failed.ensures.told

pub returns-then-self-clause-keeps : goal.returns-then-self-clause-keeps
returns-then-self-clause-keeps g c = keeps_nothing _

pub returns-in-Ok-eq0-clause-keeps : goal.returns-in-Ok-eq0-clause-keeps
returns-in-Ok-eq0-clause-keeps g c = keeps_on _ (record c.args.self.now { pending = c.advance.new.self }) _ (keeps_pending c.args.self.now c.advance.new.self (counted_same c.args.self.now.pending c.advance.new.self c.advance.ensures.owed c.advance.ensures.count)) c.block.ensures.keeps

pub returns-in-Ok-clause-keeps : goal.returns-in-Ok-clause-keeps
returns-in-Ok-clause-keeps g c = keeps_pending c.args.self.now c.pass.new.self (λ h. c.pass.ensures.counted (counted_same c.args.self.now.pending c.advance.new.self c.advance.ensures.owed c.advance.ensures.count h))

pub returns-in-Err-WouldBlock-clause-keeps : goal.returns-in-Err-WouldBlock-clause-keeps
returns-in-Err-WouldBlock-clause-keeps g c = keeps_on _ (record c.args.self.now { pending = c.advance.new.self }) _ (keeps_pending c.args.self.now c.advance.new.self (counted_same c.args.self.now.pending c.advance.new.self c.advance.ensures.owed c.advance.ensures.count)) c.block-in-Err-WouldBlock.ensures.keeps

pub returns-in-Err-Failed-clause-keeps : goal.returns-in-Err-Failed-clause-keeps
returns-in-Err-Failed-clause-keeps g c = keeps_pending c.args.self.now c.advance.new.self (counted_same c.args.self.now.pending c.advance.new.self c.advance.ensures.owed c.advance.ensures.count)
