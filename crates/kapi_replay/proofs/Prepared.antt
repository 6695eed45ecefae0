-- What became of a case that begins with manifests.
use Rattle.std.proofs.Common.{◌≡◌, ℕ, List, Result, Ok, Err, IfOk, sym, subst}
use Rattle.kapi_core.specs.Machine.{Machine, with_rechecks}
use Rattle.kapi_loading.specs.Faults.{FileFault, bad_line}
use Rattle.kapi_manifests.specs.declared.fault.Origin.{Origin}
use Rattle.kapi_manifests.specs.declared.prepared.Prepared.{Prepared}
use Rattle.kapi_model.specs.declared.row.ResourceRow.{ResourceRow}
use Rattle.kapi_replay.specs.Failures.{FailsOn}
use Rattle.kapi_replay.specs.Manifests.{FailsAlone, FailsBehind, FailsTexts, IsFaultAt, IsRead, IsRefused, origin_at}
use Rattle.kapi_transcripts.specs.declared.failure.Failure.{Failure}
use Rattle.kapi_transcripts.specs.declared.files.LoadedFile.{LoadedFile}
use Rattle.kapi_transcripts.specs.declared.case.Case.{Case}
use Rattle.kapi_transcripts.specs.declared.case.Loaded.{Loaded}
use Rattle.kapi_transcripts.specs.declared.case.Manifests.{Manifests}

-- the machine is the one that lines make alone
pub alone : {V E : Type 0} (items : V → List Failure) (r : Result V E) (m : Machine) (loads : List LoadedFile) (c : Case) (files : List Loaded) (p : Prepared) (given : Result Machine FileFault)
    → given ≡ Ok m → IfOk r (λ v. FailsOn (with_rechecks c.rechecks m) c (items v)) → IfOk r (λ v. FailsAlone loads c files p given (items v))
alone items r m loads c files p given is h = subst (λ x. IfOk r (λ v. FailsAlone loads c files p x (items v))) (sym is) h

-- no machine is made, as a line is not loaded
pub not_alone : {V E : Type 0} (items : V → List Failure) (r : Result V E) (n : ℕ) (loads : List LoadedFile) (c : Case) (files : List Loaded) (p : Prepared) (given : Result Machine FileFault)
    → given ≡ Err (bad_line n) → IfOk r (λ v. IsRefused loads files p n (items v)) → IfOk r (λ v. FailsAlone loads c files p given (items v))
not_alone items r n loads c files p given is h = subst (λ x. IfOk r (λ v. FailsAlone loads c files p x (items v))) (sym is) h

-- a line is not loaded, for a reason
pub is_refused : {V E : Type 0} (items : V → List Failure) (r : Result V E) (loads : List LoadedFile) (files : List Loaded) (p : Prepared) (n more : ℕ) (o : Origin)
    → o ≡ origin_at p.origins.items n → IfOk r (λ v. IsFaultAt loads files o more (items v)) → IfOk r (λ v. IsRefused loads files p n (items v))
is_refused items (Ok v) loads files p n more o is h = (more, subst (λ x. IsFaultAt loads files x more (items v)) is h)
is_refused items (Err x) loads files p n more o is h = tt

-- what is loaded of texts
pub texts_fail : {V E : Type 0} (items : V → List Failure) (r : Result V E) (table : List ResourceRow) (loads : List LoadedFile) (c : Case) (m : Manifests) (p : Prepared) (files : List Loaded) → files ≡ m.files
    → IsRead table loads m p → IfOk r (λ v. FailsBehind table loads c files p p.faults.items (items v)) → IfOk r (λ v. FailsTexts table loads c m (items v))
texts_fail items (Ok v) table loads c m p files same read h = (p, read, subst (λ fs. FailsBehind table loads c fs p p.faults.items (items v)) same h)
texts_fail items (Err x) table loads c m p files same read h = tt
