use Rattle.kapi_reviews.proofs.Asked.{asks_the_same}
use Rattle.kapi_reviews.proofs.laws.an_answer_asks_the_same.Goals as goal

pub returns : goal.returns
returns c = asks_the_same
