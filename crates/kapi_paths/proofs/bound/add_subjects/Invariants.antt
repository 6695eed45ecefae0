use Rattle.std.proofs.Common.{ℕ, take}
use Rattle.kapi_model.specs.declared.subject.Subject.{Subject}
use Rattle.kapi_paths.specs.Bound.{key_of, positions_at}
use Rattle.kapi_paths.specs.Chains.{Has}
use Rattle.kapi_paths.specs.declared.node.Node.{Node}
use Rattle.kapi_paths.proofs.bound.add_subjects.Given as goal

abbrev pub invariant-loop-subject : goal.invariant-loop-subject
invariant-loop-subject l = record {
  kept : (k : Node) (i : ℕ) → Has (positions_at l.initial.positions k) i → Has (positions_at l.positions k) i;
  added : (s : Subject) → Has (take l.subject-index l.subject-items) s → Has (positions_at l.positions (key_of l.binding.namespace.now s)) l.position;
}
