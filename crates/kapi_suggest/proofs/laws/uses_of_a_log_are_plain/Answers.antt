use Rattle.std.proofs.Common.{[]}
use Rattle.kapi_suggest.proofs.Plain.{plain_uses}
use Rattle.kapi_suggest.proofs.laws.uses_of_a_log_are_plain.Goals as goal

pub returns : goal.returns
returns c = λ lines uses h. plain_uses [] lines uses (λ u never. absurd never) h
