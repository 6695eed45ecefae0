use Rattle.kapi_access.specs.Questions.{kinds}
use Rattle.kapi_access.proofs.question.kinds.Goals as goal

pub returns : goal.returns
unfolding kinds
returns c = cc
