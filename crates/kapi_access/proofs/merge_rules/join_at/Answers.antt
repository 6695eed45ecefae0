use Rattle.std.proofs.lemmas.Result.{on_ok_weaker}
use Rattle.kapi_access.proofs.Joined.{joined_at}
use Rattle.kapi_access.proofs.merge_rules.join_at.Goals as goal

pub returns : goal.returns
returns c =
    on_ok_weaker c.join.result
    (λ is. joined_at c.args.part c.args.rules.now.items c.args.rule c.index_mut.result.now c.join.new.rule c.args.place is c.requires.place c.requires.inside c.index_mut.ensures.value) c.join.ensures
