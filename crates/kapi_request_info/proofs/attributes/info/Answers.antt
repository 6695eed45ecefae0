use Rattle.kapi_request_info.proofs.Slashes.{found_slashless}
use Rattle.kapi_request_info.proofs.attributes.info.Goals as goal

pub returns-clause-slashless : goal.returns-clause-slashless
returns-clause-slashless c =
    found_slashless c.attributes_by.result c.args.method c.in_ok-path.path.now c.as_slice.result.now c.in_ok-query.query
    (rw c.as_slice.ensures.value c.in_ok-segments.ensures) c.attributes_by.ensures
