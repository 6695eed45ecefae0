-- Each binding takes a look.
use Rattle.std.proofs.Common.{ℕ, ◌≤◌, List, [], ◌∷◌, length, arith}
use Rattle.kapi_index.specs.Scopes.{bare, looks}
use Rattle.kapi_index.specs.declared.scope.Bound.{Bound}

-- a walk takes at least as many looks as there are bindings
pub a_look_for_each : (es : List (List ℕ × Bound)) → length es ≤ looks (bare es)
a_look_for_each [] = omega (arith)
a_look_for_each (e ∷ es) = omega (arith, a_look_for_each es)
