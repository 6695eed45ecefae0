-- Room alone was made.
use Rattle.kapi_serve.proofs.Tending.{counted_same, keeps_pending, waits_pending}
use Rattle.kapi_serve.proofs.client.Client.is_ready.Goals as goal

pub returns-then-is_err-clause-keeps : goal.returns-then-is_err-clause-keeps
returns-then-is_err-clause-keeps c = keeps_pending c.args.self.now c.reserve.new.self (counted_same c.args.self.now.pending c.reserve.new.self c.reserve.ensures.same c.reserve.ensures.count)

pub returns-then-is_err-clause-waits : goal.returns-then-is_err-clause-waits
returns-then-is_err-clause-waits c = waits_pending c.args.self.now c.reserve.new.self c.reserve.ensures.same c.reserve.ensures.count

pub returns-clause-keeps : goal.returns-clause-keeps
returns-clause-keeps c = keeps_pending c.args.self.now c.reserve.new.self (counted_same c.args.self.now.pending c.reserve.new.self c.reserve.ensures.same c.reserve.ensures.count)

pub returns-clause-waits : goal.returns-clause-waits
returns-clause-waits c = waits_pending c.args.self.now c.reserve.new.self c.reserve.ensures.same c.reserve.ensures.count
