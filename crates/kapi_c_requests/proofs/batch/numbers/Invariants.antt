use Rattle.std.proofs.Common.{◌≡◌, length}
use Rattle.kapi_c_requests.specs.Batches.{number_in}
use Rattle.kapi_c_requests.proofs.Going.{Going}
use Rattle.kapi_c_requests.proofs.batch.numbers.Given as goal

-- the questions so far are decided
abbrev pub invariant-loop-question : goal.invariant-loop-question
invariant-loop-question l = Going (number_in l.loaded) l.passed l.question-index l.numbers.items × (length l.numbers.items ≡ l.question-index)
