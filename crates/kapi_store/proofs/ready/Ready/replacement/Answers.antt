use Rattle.std.proofs.Common.{◌∙◌, Some, ap}
use Rattle.kapi_store.proofs.ready.Ready.replacement.Goals as goal

pub returns : goal.returns
returns c = record {
  change = c.in_ok-change.change;
  one = c.in_ok-of_one.ensures;
  numbered = c.in_ok-change.ensures.revision;
  place = c.in_ok-change.ensures.key;
  before = c.in_ok-change.ensures.old ∙ ap Some c.in_ok-share.ensures;
  after = c.in_ok-change.ensures.new ∙ ap Some c.in_ok-new.ensures;
}
