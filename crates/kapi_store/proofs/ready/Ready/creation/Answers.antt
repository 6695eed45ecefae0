use Rattle.std.proofs.Common.{◌∙◌, Some, ap}
use Rattle.kapi_store.proofs.ready.Ready.creation.Goals as goal

pub returns-clause-write : goal.returns-clause-write
returns-clause-write c = record {
  change = c.creation-change.result;
  one = c.in_ok-of_one.ensures;
  numbered = c.creation-change.ensures.revision;
  place = c.creation-change.ensures.key ∙ c.in_ok-copy.ensures;
  before = c.creation-change.ensures.old;
  after = c.creation-change.ensures.new ∙ ap Some c.in_ok-new.ensures;
}
