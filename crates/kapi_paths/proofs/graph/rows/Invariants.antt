use Rattle.std.proofs.Common.{◌≡◌, ◌<◌, ◌≤◌, ◌-◌, ℕ, Some, length, map}
use Rattle.std.specs.List.{slice_get}
use Rattle.kapi_paths.specs.Chains.{row}
use Rattle.kapi_paths.specs.Graphs.{AreAt, Begins, next_of}
use Rattle.kapi_paths.specs.Rights.{row_of}
use Rattle.kapi_paths.specs.declared.node.Node.{Node}
use Rattle.kapi_paths.proofs.graph.rows.Given as goal

abbrev pub decreases-rows : goal.decreases-rows
decreases-rows g l = 18446744073709551616 - length l.rows.items

abbrev pub invariant-rows : goal.invariant-rows
invariant-rows g l =
    let step = next_of (g.P.Policy.content l.asked.policy.now) l.asked.bindings.now l.asked.known.now (map row_of l.asked.rights.now) in
    record {
      size : length l.rows.items ≤ length l.numbered;
      next : (n : ℕ) (x : Node) → n < length l.rows.items → slice_get l.numbered n ≡ Some x → AreAt l.numbered (row l.rows.items n) (step x);
      more : Begins l.initial.numbered l.numbered;
    }
