use Rattle.kapi_http.proofs.Decided.{empty_tied}
use Rattle.kapi_http.proofs.inbox.Inbox.new.Goals as goal

pub invariant_of-result : goal.invariant_of-result
invariant_of-result c = empty_tied _ _ c.new.ensures.items
