use Rattle.std.proofs.Common.{Ok, ap, sym, subst}
use Rattle.kapi_text.specs.ResultIs.{Fails, ◌>>=◌}
use Rattle.kapi_commands.specs.Policies.{as_question, model_of_fault, lines_on}
use Rattle.kapi_commands.specs.declared.policies.FilesFault.{FilesFault}
use Rattle.kapi_commands.proofs.Held.{fault_question, goes_on}
use Rattle.kapi_commands.proofs.policies.who_lines.Goals as goal

pub returns-in-Ok : goal.returns-in-Ok
returns-in-Ok c = ap (λ r. as_question r >>= λ t. Ok (record { text = t; settled = c.args.loaded.now.settled })) c.in-Ok.ensures

pub returns-in-Err : goal.returns-in-Err
returns-in-Err c =
    subst (λ (e : FilesFault). Fails (model_of_fault e) (lines_on c.args.form c.args.questions.now c.args.loaded.now)) (sym c.question_fault.ensures)
    (goes_on _ _ _ (fault_question _ _ c.in-Err.ensures))
