use Rattle.std.proofs.Common.{◌≡◌, true, length}
use Rattle.std.specs.List.{list_all}
use Rattle.kapi_request_info.specs.Path.{names_something, segments}
use Rattle.kapi_request_info.proofs.Plain.{is_plain, plain_from}
use Rattle.kapi_request_info.proofs.path.plain_segments.Given as goal

abbrev pub invariant-loop-part : goal.invariant-loop-part
invariant-loop-part l =
    (plain_from l.segments.items l.rest ≡ segments l.path) × (is_plain l.rest ≡ true) × (list_all names_something l.segments.items ≡ true)

abbrev pub decreases-loop-part : goal.decreases-loop-part
decreases-loop-part l = length l.rest
