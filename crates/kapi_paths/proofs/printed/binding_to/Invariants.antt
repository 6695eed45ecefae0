use Rattle.std.proofs.Common.{◌≡◌, drop, map}
use Rattle.std.specs.List.{find}
use Rattle.kapi_policy.specs.Views.{binding_of}
use Rattle.kapi_paths.specs.Printed.{gives}
use Rattle.kapi_paths.proofs.printed.binding_to.Given as goal

abbrev pub invariant-loop-binding : goal.invariant-loop-binding
invariant-loop-binding l =
    find (gives l.identity l.role) (map binding_of (drop l.binding-index l.binding-items)) ≡ find (gives l.identity l.role) l.bindings
