use Rattle.std.proofs.Common.{Result, ap, sym, subst}
use Rattle.kapi_text.specs.ResultIs.{Fails, ResultIs}
use Rattle.kapi_loading.specs.Faults as loading
use Rattle.kapi_loading.specs.declared.fault.StartError.{StartError}
use Rattle.kapi_engine.specs.LoadedPolicies.{loaded_of}
use Rattle.kapi_engine.specs.declared.loaded_policy.LoadedPolicy.{LoadedPolicy}
use Rattle.kapi_commands.specs.Policies.{as_first, compare_files, compared_to, compared_told, model_of_fault}
use Rattle.kapi_commands.specs.declared.policies.FilesFault.{FilesFault}
use Rattle.kapi_commands.proofs.Held.{fault_first, goes_on, onward}
use Rattle.kapi_commands.proofs.policies.compare_files.Goals as goal

pub returns-in-Ok : goal.returns-in-Ok
unfolding compare_files
returns-in-Ok g c =
    let h = subst (λ (r : Result LoadedPolicy StartError). ResultIs loading.model_of_fault (λ e. e) r (loaded_of c.args.before.now)) c.in-Ok.is c.load_both-before.ensures.before in
    onward compared_told c.compare_with.result _ (λ b. compared_to c.args.form c.args.shown c.args.identities b (loaded_of c.args.after.now)) c.in-Ok.before (ap as_first h) (c.compare_with.ensures _ c.load_both-before.ensures.after)

pub returns-in-Err : goal.returns-in-Err
unfolding compare_files
returns-in-Err g c =
    let h = subst (λ (r : Result LoadedPolicy StartError). ResultIs loading.model_of_fault (λ e. e) r (loaded_of c.args.before.now)) c.in-Err.is c.load_both-before.ensures.before in
    goes_on _ _ _ (subst (λ (e : FilesFault). Fails (model_of_fault e) (as_first (loaded_of c.args.before.now))) (sym c.first_fault.ensures) (fault_first _ _ h))
