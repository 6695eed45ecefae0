use Rattle.std.proofs.Common.{◌≡◌, ◌<◌, ℕ, map, Some}
use Rattle.std.specs.List.{slice_get}
use Rattle.kapi_model.specs.declared.subject.Subject.{Subject}
use Rattle.kapi_policy.specs.Decided.{Binding}
use Rattle.kapi_policy.specs.Views.{binding_of}
use Rattle.kapi_paths.specs.Bound.{key_of, positions_at}
use Rattle.kapi_paths.specs.Chains.{Has}
use Rattle.kapi_paths.proofs.bound.Bound.new.Given as goal

abbrev pub invariant-loop-position : goal.invariant-loop-position
invariant-loop-position l =
    (i : ℕ) (b : Binding) (s : Subject) → i < l.position → slice_get (map binding_of l.list) i ≡ Some b → Has b.subjects s → Has (positions_at l.positions (key_of b.namespace s)) i
