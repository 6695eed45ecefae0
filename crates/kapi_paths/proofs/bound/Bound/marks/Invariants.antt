use Rattle.std.proofs.Common.{◌≡◌, ℕ, List, [], length, take, Some}
use Rattle.std.specs.List.{slice_get}
use Rattle.kapi_model.specs.declared.subject.Subject.{Subject}
use Rattle.kapi_policy.specs.Decided.{Binding}
use Rattle.kapi_paths.specs.Bound.{IsMarked, key_of}
use Rattle.kapi_paths.specs.Chains.{Has}
use Rattle.kapi_paths.specs.Steps.{node}
use Rattle.kapi_paths.specs.declared.node.NodeKind.TheVariants as kind
use Rattle.kapi_paths.proofs.bound.Bound.marks.Given as goal

abbrev pub invariant-loop-group : goal.invariant-loop-group
invariant-loop-group l = record {
  kept : (i : ℕ) → IsMarked l.initial.marks.items i → IsMarked l.marks.items i;
  marked : (i : ℕ) (b : Binding) (s : Subject) (g : List ℕ) → slice_get l.self i ≡ Some b → Has b.subjects s → Has (take l.group-index l.group-items) g
      → key_of b.namespace s ≡ node kind.Group [] g → IsMarked l.marks.items i;
  length : length l.marks.items ≡ length l.self;
}
