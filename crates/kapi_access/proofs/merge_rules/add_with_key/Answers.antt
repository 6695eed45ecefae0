use Rattle.std.proofs.Common.{◌≡◌, arith, length}
use Rattle.std.proofs.lemmas.Result.{on_ok_weaker}
use Rattle.kapi_access.proofs.Places.{added_new, keep_noted, noted_last}
use Rattle.kapi_access.proofs.merge_rules.add_with_key.Goals as goal

pub returns-in-Some-clause-places : goal.returns-in-Some-clause-places
returns-in-Some-clause-places c =
    on_ok_weaker c.add_at.result
    (λ is. keep_noted c.args.part c.args.rules.now.items c.args.rule c.args.places.now c.requires.places c.args.key c.requires.key c.in-Some.place c.in-Some.ensures c.add_at.new.rules.items is)
    c.add_at.ensures

pub returns-in_ok-push-in-None-clause-rules : goal.returns-in_ok-push-in-None-clause-rules
returns-in_ok-push-in-None-clause-rules c =
    added_new c.args.part c.args.rules.now.items c.args.rule c.args.places.now c.requires.places c.args.key c.requires.key c.in-None.ensures c.push.new.self.items c.in_ok-push-in-None.ensures.items

pub returns-in_ok-push-in-None-clause-places : goal.returns-in_ok-push-in-None-clause-places
returns-in_ok-push-in-None-clause-places c =
    let count : c.len.result ≡ length c.args.rules.now.items = omega arith in
    noted_last c.args.part c.args.rules.now.items c.args.rule c.args.places.now c.requires.places c.args.key c.requires.key c.in-None.ensures c.requires.can c.insert.new.self c.len.result count
    c.in_ok-insert-in-None.ensures.updates.0 c.push.new.self.items c.in_ok-push-in-None.ensures.items
