use Rattle.kapi_core.specs.Machine.{Machine}
use Rattle.kapi_core.specs.Refines.{Refines}
use Rattle.kapi_loading.proofs.Unloaded.{LoadedTo}
use Rattle.kapi_loading.proofs.reasons.first_reason.Given as goal

abbrev pub invariant-loop-line : goal.invariant-loop-line
invariant-loop-line l = (m : Machine) → Refines l.initial.core m → LoadedTo m l.lines l.line-index l.core
