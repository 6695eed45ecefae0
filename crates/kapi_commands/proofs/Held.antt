-- An answer by a policy is an answer by the file that it is.
use Rattle.std.proofs.Common.{◌≡◌, ℕ, List, Option, None, Some, Result, Ok, Err, IsErrAnd, refl, sym, ap, subst}
use Rattle.kapi_text.specs.ResultIs.{Fails, ResultIs, ◌>>=◌}
use Rattle.kapi_loading.specs.Faults as loading
use Rattle.kapi_loading.specs.Faults.{FileFault}
use Rattle.kapi_loading.specs.declared.fault.StartError.{StartError}
use Rattle.kapi_loading.specs.declared.fault.StartError.TheVariants as start
use Rattle.kapi_access.specs.Lines as lined
use Rattle.kapi_access.specs.Lines.{LineError}
use Rattle.kapi_access.specs.declared.lines.LineFault.{LineFault}
use Rattle.kapi_access.specs.declared.lines.LineFault.TheVariants as line_fault
use Rattle.kapi_engine.specs.declared.loaded_policy.LoadedPolicy.{LoadedPolicy}
use Rattle.kapi_commands.specs.Policies.{FilesError, as_first, as_question, as_second, model_of_fault, first_fault, question_fault, second_fault}
use Rattle.kapi_commands.specs.declared.policies.FilesFault.{FilesFault}

pub fault_first : (e : StartError) (given : Result LoadedPolicy FileFault) → Fails (loading.model_of_fault e) given → Fails (model_of_fault (first_fault e)) (as_first given)
fault_first (start.Line n) given h = ap as_first h
fault_first start.Memory given h = tt

pub fault_second : (e : StartError) (given : Result LoadedPolicy FileFault) → Fails (loading.model_of_fault e) given → Fails (model_of_fault (second_fault e)) (as_second given)
fault_second (start.Line n) given h = ap as_second h
fault_second start.Memory given h = tt

pub fault_question : (e : LineFault) (given : Result (List ℕ) LineError) → Fails (lined.model_of_fault e) given → Fails (model_of_fault (question_fault e)) (as_question given)
fault_question (line_fault.Question n) given h = ap as_question h
fault_question line_fault.Memory given h = tt

-- what fails goes on failing
pub goes_on : {A B F : Type 0} (o : Option F) (given : Result A F) (k : A → Result B F) → Fails o given → Fails o (given >>= k)
goes_on None given k h = tt
goes_on (Some e) given k h = subst (λ r. (r >>= k) ≡ Err e) (sym h) refl

-- a fault that is handed on
pub handed_on : {X Y A : Type 0} (view : X → Y) (result : Result X FilesFault) (e : FilesFault) (given : Result A FilesError) (k : A → Result Y FilesError)
    → IsErrAnd result (λ f. f ≡ e) → Fails (model_of_fault e) given → ResultIs model_of_fault view result (given >>= k)
handed_on view (Ok x) e given k is h = absurd is
handed_on view (Err f) e given k is h = goes_on (model_of_fault f) given k (subst (λ x. Fails (model_of_fault x) given) (sym is) h)

-- an answer by the policy that a file is
pub onward : {X Y A : Type 0} (view : X → Y) (result : Result X FilesFault) (given : Result A FilesError) (k : A → Result Y FilesError) (a : A)
    → given ≡ Ok a → ResultIs model_of_fault view result (k a) → ResultIs model_of_fault view result (given >>= k)
onward view result given k a is h = subst (λ r. ResultIs model_of_fault view result (r >>= k)) (sym is) h
