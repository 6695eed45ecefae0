-- If all are called, each has a mark.
use Rattle.std.proofs.Common.{◌%◌, true, arith}
use Rattle.std.proofs.lemmas.List.{get_or-replicate}
use Rattle.kapi_serve.proofs.marks.marks_of.Goals as goal

pub returns-in-None : goal.returns-in-None
returns-in-None c = λ n called d. get_or-replicate 64 (n % 64) true d (omega arith)
