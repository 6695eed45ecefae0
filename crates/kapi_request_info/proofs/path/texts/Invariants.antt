use Rattle.std.proofs.Common.{◌≡◌, take, drop}
use Rattle.std.specs.List.{list_all}
use Rattle.std.specs.Str.{is_utf8}
use Rattle.kapi_request_info.proofs.path.texts.Given as goal

abbrev pub invariant-loop-segment : goal.invariant-loop-segment
invariant-loop-segment l =
    (l.texts.items ≡ take l.segment-index l.segments) × (list_all is_utf8 (drop l.segment-index l.segments) ≡ list_all is_utf8 l.segments)
