use Rattle.std.proofs.Common.{ap, ◌∙◌, Some}
use Rattle.kapi_http.proofs.Decided.{empty_tied}
use Rattle.kapi_http.proofs.Items.{next_fits}
use Rattle.kapi_http.proofs.inbox.Inbox.done.Goals as goal

pub pass-requires : goal.pass-requires
pass-requires c = next_fits _ _ (c.requires ∙ ap Some c.in-Ok.is)

pub invariant_of-self : goal.invariant_of-self
invariant_of-self c = empty_tied _ _ c.clear.ensures.items
