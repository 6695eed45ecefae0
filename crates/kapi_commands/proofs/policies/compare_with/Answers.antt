use Rattle.std.proofs.Common.{Ok, Result, ap, sym, subst}
use Rattle.kapi_text.specs.ResultIs.{Fails, ResultIs}
use Rattle.kapi_loading.specs.Faults as loading
use Rattle.kapi_loading.specs.declared.fault.StartError.{StartError}
use Rattle.kapi_engine.specs.declared.loaded_policy.LoadedPolicy.{LoadedPolicy}
use Rattle.kapi_commands.specs.Policies.{as_second, compared_told, comparison, model_of_fault}
use Rattle.kapi_commands.specs.declared.policies.FilesFault.{FilesFault}
use Rattle.kapi_commands.proofs.Held.{fault_second, goes_on, onward}
use Rattle.kapi_commands.proofs.policies.compare_with.Goals as goal

pub returns-in_ok-compare_policies-in-Ok : goal.returns-in_ok-compare_policies-in-Ok
returns-in_ok-compare_policies-in-Ok c = λ given loaded.
    let h = subst (λ (r : Result LoadedPolicy StartError). ResultIs loading.model_of_fault (λ e. e) r given) c.in-Ok.is loaded in
    onward compared_told (Ok c.in_ok-compare_policies-in-Ok.field-0) _ (λ a. Ok (comparison c.args.form c.args.shown c.args.identities c.args.before.now a)) c.in-Ok.after (ap as_second h)
    (ap Ok (sym c.in_ok-compare_policies-in-Ok.ensures))

pub returns-in-Err : goal.returns-in-Err
returns-in-Err c = λ given failed.
    let h = subst (λ (r : Result LoadedPolicy StartError). ResultIs loading.model_of_fault (λ e. e) r given) c.in-Err.is failed in
    goes_on _ _ _ (subst (λ (e : FilesFault). Fails (model_of_fault e) (as_second given)) (sym c.second_fault.ensures) (fault_second _ given h))
