use Rattle.std.proofs.Common.{◌≡◌, length}
use Rattle.kapi_request_info.specs.Path.{has_whole_escapes}
use Rattle.kapi_request_info.proofs.path.has_whole_escapes.Given as goal

abbrev pub invariant-loop-bytes : goal.invariant-loop-bytes
invariant-loop-bytes l = has_whole_escapes l.bytes ≡ has_whole_escapes l.path

abbrev pub decreases-loop-bytes : goal.decreases-loop-bytes
decreases-loop-bytes l = length l.bytes
