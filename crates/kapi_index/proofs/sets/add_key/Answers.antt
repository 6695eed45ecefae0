use Rattle.kapi_index.proofs.Changed.{adds_fresh}
use Rattle.kapi_index.proofs.sets.add_key.Goals as goal

pub returns-clause-done : goal.returns-clause-done
returns-clause-done c =
    adds_fresh _ _ c.args.name c.insert.new.self _ _ _ c.in_ok-key.ensures c.new-names.ensures c.requires.absent c.in_ok-insert-2.ensures.updates.0 c.in_ok-insert.ensures.done
