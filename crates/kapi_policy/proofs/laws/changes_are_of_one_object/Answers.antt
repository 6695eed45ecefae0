use Rattle.kapi_policy.proofs.Sets.{delete_is_without, put_is_with}
use Rattle.kapi_policy.proofs.laws.changes_are_of_one_object.Goals as goal

pub returns-clause-puts : goal.returns-clause-puts
returns-clause-puts c = put_is_with

pub returns-clause-deletes : goal.returns-clause-deletes
returns-clause-deletes c = delete_is_without
