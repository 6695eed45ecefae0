use Rattle.std.proofs.Common.{◌≡◌, ◌∷◌, take, string_bytes}
use Rattle.std.specs.List.{flat_map}
use Rattle.kapi_policy.specs.Views.{binding_of}
use Rattle.kapi_access.specs.Grantees.{user_in}
use Rattle.kapi_access.proofs.default_groups.longest.Given as goal

abbrev pub invariant-loop-binding : goal.invariant-loop-binding
invariant-loop-binding l = string_bytes l.text ≡ 120 ∷ flat_map (λ b. flat_map user_in (binding_of b).subjects) (take l.binding-index l.bindings)
