-- The count grows by no more than the bytes.
use Rattle.kapi_serve.proofs.Joining.{counted_push}
use Rattle.kapi_serve.proofs.pending.Pending.push.Goals as goal

pub returns-clause-counted : goal.returns-clause-counted
returns-clause-counted c = λ few. counted_push c.args.self.now.head c.args.self.now.sent c.args.self.now.behind.items c.push_back_reserved.new.self.items c.args.bytes c.args.self.now.count c.saturating_add-self.result few c.push_back_reserved.ensures.items (cc)
