use Rattle.std.proofs.Common.{arith, ◌∙◌, sym, ap, subst}
use Rattle.std.proofs.lemmas.Bool.{eqb-true}
use Rattle.kapi_text.specs.ResultIs.{Fails}
use Rattle.kapi_loading.specs.Faults.{model_of_fault}
use Rattle.kapi_engine.specs.LoadedPolicies.{loaded_of}
use Rattle.kapi_engine.proofs.manifests.load_manifests.Goals as goal

pub returns-in-Ok : goal.returns-in-Ok
returns-in-Ok c =
    let faults = c.in_ok-prepared.ensures.faults in
    let empty = eqb-true _ 0 (sym c.is_empty.ensures ∙ c.if-not-is_empty.false) in
    let ok = c.in_ok-prepared.prepared.faults.ok in
    (c.in_ok-prepared.prepared, (c.in_ok-prepared.ensures.loads, omega (arith, faults, empty, ok)), ap loaded_of (sym c.as_slice.ensures.value) ∙ c.in-Ok.ensures)

pub returns-in-Err-Line : goal.returns-in-Err-Line
returns-in-Err-Line c =
    let faults = c.in_ok-prepared.ensures.faults in
    let empty = eqb-true _ 0 (sym c.is_empty.ensures ∙ c.if-not-is_empty.false) in
    let ok = c.in_ok-prepared.prepared.faults.ok in (
      c.in_ok-prepared.prepared,
      (c.in_ok-prepared.ensures.loads, omega (arith, faults, empty, ok)),
      c.in-Err-Line.number,
      ap loaded_of (sym c.as_slice.ensures.value) ∙ subst (λ e. Fails (model_of_fault e) (loaded_of c.as_slice.result.now)) c.in-Err-Line.field-0-is c.in-Err-Line.ensures,
      c.origin_of.ensures,
    )
