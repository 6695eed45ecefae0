use Rattle.std.proofs.Common.{◌≡◌, []}
use Rattle.std.specs.List.{fold}
use Rattle.kapi_suggest.specs.Needs.{with_atom}
use Rattle.kapi_suggest.proofs.needs.each_new.Given as goal

abbrev pub invariant-loop-atom : goal.invariant-loop-atom
invariant-loop-atom l = l.kept ≡ fold with_atom [] l.yielded
