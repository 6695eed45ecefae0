use Rattle.std.proofs.Common.{◌∙◌, sym}
use Rattle.kapi_access.proofs.Places.{added_alone, keep_alone}
use Rattle.kapi_access.proofs.merge_rules.add.Goals as goal

pub returns-clause-rules : goal.returns-clause-rules
returns-clause-rules c = c.in_ok-push.ensures.items ∙ sym (added_alone c.args.part c.args.rule c.args.rules.now.items (sym c.can_be_joined.ensures ∙ c.if-can_be_joined.false))

pub returns-clause-places : goal.returns-clause-places
returns-clause-places c =
    keep_alone c.args.part c.args.rules.now.items c.args.rule c.args.places.now c.requires (sym c.can_be_joined.ensures ∙ c.if-can_be_joined.false) c.push.new.self.items c.in_ok-push.ensures.items
