use Rattle.std.proofs.Common.{◌≡◌, ◌+◌, length}
use Rattle.kapi_kinds.proofs.table.refuse_pieces.Given as goal

abbrev pub invariant-loop-fault : goal.invariant-loop-fault
invariant-loop-fault l = record {
  rows : l.gathered.rows ≡ l.initial.gathered.rows;
  faults : length l.gathered.faults.items ≡ length l.initial.gathered.faults.items + length l.yielded;
}
