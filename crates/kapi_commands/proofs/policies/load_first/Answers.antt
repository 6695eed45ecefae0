use Rattle.std.proofs.Common.{ap, sym, subst}
use Rattle.kapi_text.specs.ResultIs.{Fails}
use Rattle.kapi_engine.specs.LoadedPolicies.{loaded_of}
use Rattle.kapi_commands.specs.Policies.{as_first, model_of_fault}
use Rattle.kapi_commands.specs.declared.policies.FilesFault.{FilesFault}
use Rattle.kapi_commands.proofs.Held.{fault_first}
use Rattle.kapi_commands.proofs.policies.load_first.Goals as goal

pub returns-in-Ok : goal.returns-in-Ok
returns-in-Ok c = ap as_first c.in-Ok.ensures

pub returns-in-Err : goal.returns-in-Err
returns-in-Err c =
    subst (λ (e : FilesFault). Fails (model_of_fault e) (as_first (loaded_of c.args.objects.now))) (sym c.first_fault.ensures) (fault_first _ _ c.in-Err.ensures)
