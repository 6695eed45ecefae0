use Rattle.kapi_http.proofs.Decided.{empty_tied}
use Rattle.kapi_http.proofs.inbox.Inbox.pass.Goals as goal

pub invariant_of-self : goal.invariant_of-self
invariant_of-self c = empty_tied _ _ c.clear.ensures.items
