use Rattle.std.specs.Prelude.{codes}
use Rattle.kapi_reviews.proofs.Slashes.{plain_question}
use Rattle.kapi_reviews.specs.Faults.{namespace_of}
use Rattle.kapi_reviews.specs.Questions.{at}
use Rattle.kapi_reviews.proofs.laws.the_resource_that_is_asked_about_has_no_slash.Goals as goal

pub returns : goal.returns
returns c kind caller tree = plain_question kind (namespace_of tree) caller (at (codes "spec") tree)
