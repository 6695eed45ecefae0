use Rattle.kapi_index.proofs.Once.{taken_before, taken_now}
use Rattle.kapi_index.proofs.held_once.push_new.Goals as goal

pub returns-then-not-branch-clause-same : goal.returns-then-not-branch-clause-same
returns-then-not-branch-clause-same c =
    taken_before _ _ c.args.role.now c.args.names.now _ c.as_str.result _ c.as_str.ensures c.in_ok-insert.ensures.added c.if-not-branch.true c.requires

pub returns-clause-listed : goal.returns-clause-listed
returns-clause-listed c =
    taken_now _ _ c.args.role.now c.args.names.now c.insert.new.self c.args.list.now.items _ c.as_str.result c.as_str.ensures c.in_ok-push_of.ensures
    c.in_ok-insert.ensures.updates.0 c.requires
