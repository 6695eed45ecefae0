use Rattle.kapi_http.proofs.Printed.{settled_print}
use Rattle.kapi_http.proofs.laws.printed_heads_are_read.Goals as goal

pub returns : goal.returns
returns c = settled_print
