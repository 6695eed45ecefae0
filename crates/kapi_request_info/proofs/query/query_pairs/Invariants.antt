use Rattle.std.proofs.Common.{◌≡◌, ◌++◌, map}
use Rattle.form_urlencoded.specs.Parse.{owned_pairs_left}
use Rattle.kapi_request_info.specs.Query.{query_pair, query_pairs}
use Rattle.kapi_request_info.proofs.query.query_pairs.Given as goal

abbrev pub invariant-loop-pair : goal.invariant-loop-pair
invariant-loop-pair l = l.pairs.items ++ map query_pair (owned_pairs_left l.pair-iterator) ≡ query_pairs l.query
