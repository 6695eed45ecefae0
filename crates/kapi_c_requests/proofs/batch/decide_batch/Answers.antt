use Rattle.std.proofs.Common.{◌≡◌, ℕ, List, Result, Ok, refl, subst, sym}
use Rattle.kapi_text.specs.ResultIs.{Fails}
use Rattle.kapi_loading.specs.Faults.{FileFault, model_of_fault as start_told}
use Rattle.kapi_loading.specs.declared.fault.StartError.{StartError}
use Rattle.kapi_loading.specs.declared.fault.StartError.TheVariants as start
use Rattle.kapi_engine.specs.LoadedPolicies.{loaded_of}
use Rattle.kapi_engine.specs.declared.loaded_policy.LoadedPolicy.{LoadedPolicy}
use Rattle.kapi_c_requests.specs.declared.fault.CallFault.{CallFault}
use Rattle.kapi_c_requests.specs.declared.fault.CallFault.TheVariants as fault
use Rattle.kapi_c_requests.specs.declared.passed.CQuestion.{CQuestion}
use Rattle.kapi_c_requests.specs.Batches.{BatchEnds, end_of, failed, line_after, numbers_of}
use Rattle.kapi_c_requests.specs.Faults.{model_of_fault}
use Rattle.kapi_c_requests.proofs.batch.decide_batch.Goals as goal

failed_ends : (made : Result LoadedPolicy FileFault) (questions : List CQuestion) (loaded : LoadedPolicy) (e : CallFault) (decisions : List ℕ) (at : ℕ) → made ≡ Ok loaded
    → Fails (model_of_fault e) (numbers_of loaded questions) → BatchEnds made questions decisions decisions at at (failed e)
failed_ends made questions loaded fault.Memory decisions at is fails = (refl, refl)
failed_ends made questions loaded (fault.Line number) decisions at is fails = (loaded, is, fails, (refl, refl))
failed_ends made questions loaded fault.Text decisions at is fails = (loaded, is, fails, (refl, refl))
failed_ends made questions loaded fault.Question decisions at is fails = (loaded, is, fails, (refl, refl))

refused_ends : (made : Result LoadedPolicy FileFault) (questions : List CQuestion) (e : StartError) (decisions : List ℕ) (at : ℕ) → Fails (start_told e) made
    → BatchEnds made questions decisions decisions at (line_after e at) (end_of e)
refused_ends made questions (start.Line number) decisions at fails = (fails, refl, refl)
refused_ends made questions start.Memory decisions at fails = (refl, refl)

pub returns-in-Err : goal.returns-in-Err
returns-in-Err c = (
  end_of c.in-Err.fault,
  c.refused.ensures.status,
  subst (λ at. BatchEnds (loaded_of c.args.objects.now) c.args.questions.now c.args.decisions.now c.args.decisions.now c.args.line.now at (end_of c.in-Err.fault)) (sym c.refused.ensures.line)
      (refused_ends (loaded_of c.args.objects.now) c.args.questions.now c.in-Err.fault c.args.decisions.now c.args.line.now c.in-Err.ensures),
)

pub returns : goal.returns
returns c = (failed c.in-Err-numbers.fault, c.code.ensures, failed_ends _ _ c.in-Ok.loaded c.in-Err-numbers.fault _ _ c.in-Ok.ensures c.in-Err-numbers.ensures.numbers)
