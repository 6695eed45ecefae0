use Rattle.kapi_reviews.proofs.Said.{said_as_held}
use Rattle.kapi_reviews.proofs.laws.what_is_held_is_said_to_be_allowed.Goals as goal

pub returns : goal.returns
returns c = said_as_held
