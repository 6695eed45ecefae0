use Rattle.std.proofs.Common.{Option, subst, sym}
use Rattle.kapi_text.specs.ResultIs.{Fails}
use Rattle.kapi_reply.specs.declared.refusal.Refused.{Refused}
use Rattle.kapi_store.specs.Faults.{fault_of}
use Rattle.kapi_store.specs.Plain.{plain_of, removal}
use Rattle.kapi_answer.specs.Delete.{removed, removes}
use Rattle.kapi_answer.specs.Responses.{deletion_data}
use Rattle.kapi_answer.proofs.Stored.{stored_fails}
use Rattle.kapi_answer.proofs.delete.delete.Goals as goal

pub returns-in-Err-clause-gives : goal.returns-in-Err-clause-gives
unfolding removes
returns-in-Err-clause-gives c =
    let s = plain_of c.args.store.now in
    let deletion = c.args.deletion in
    let P : Option Refused → Type 0 = λ fault. Fails fault (removes s (deletion_data deletion)) in
    subst P (sym c.refused_by_store.ensures)
    (stored_fails deletion.name (fault_of c.in-Err.error) (removal s deletion.keys.items) (removed deletion.reply.items) c.in-Err.ensures.gives)
