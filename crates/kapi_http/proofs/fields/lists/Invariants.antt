use Rattle.std.proofs.Common.{◌≡◌, length}
use Rattle.kapi_http.specs.Fields.{lists}
use Rattle.kapi_http.proofs.fields.lists.Given as goal

abbrev pub invariant-loop-item : goal.invariant-loop-item
invariant-loop-item l = lists l.word l.rest ≡ lists l.word l.value

abbrev pub decreases-loop-item : goal.decreases-loop-item
decreases-loop-item l = length l.rest
