use Rattle.std.proofs.Common.{◌≡◌, drop}
use Rattle.kapi_request_info.specs.Query.{query_value}
use Rattle.kapi_request_info.proofs.query.query_value.Given as goal

abbrev pub invariant-loop-pair : goal.invariant-loop-pair
invariant-loop-pair l = query_value (drop l.pair-index l.query) l.key ≡ query_value l.query l.key
