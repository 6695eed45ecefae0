use Rattle.std.proofs.Common.{◌≡◌, IfOk, subst}
use Rattle.kapi_answer.specs.declared.watch.EventReply.{EventReply}
use Rattle.kapi_answer.proofs.Watched.{end_expired, end_refused}
use Rattle.kapi_answer.proofs.watch.end_reply.Goals as goal

pub returns-in-Refused : goal.returns-in-Refused
returns-in-Refused c = λ history s w stands is none.
    let P : EventReply → Type 0 = λ reply. IfOk c.refused_reply.result (λ r. r ≡ reply) in
    subst P (end_refused s w c.args.event.now c.in-Refused.is) (c.refused_reply.ensures history s w is)

pub returns-in_default : goal.returns-in_default
returns-in_default c = λ history s w stands is none.
    let P : EventReply → Type 0 = λ reply. IfOk c.expired_reply.result (λ r. r ≡ reply) in
    subst P (end_expired s w c.args.event.now c.in_default.not-Refused none) (c.expired_reply.ensures history s w stands is)
