use Rattle.kapi_policy.proofs.Inserts.{one_more}
use Rattle.kapi_policy.proofs.copies.copy_map.Goals as goal

pub loop-key-preserved : goal.loop-key-preserved
loop-key-preserved g c =
    let sorted = c.into_iter-key-iterator.ensures.into_iter_gives.5 in
    let step = c.in-Some.ensures.steps in
    let entries = c.in_ok-insert.ensures.entries in
    let key = c.in_ok-copy.ensures in
    let value = c.in_ok-copy-2.ensures in
    one_more g.K.Ord.cmp g.met.K.Ord.total c.loop-key.copied.entries c.in-Some.key.now c.in-Some.value.now c.next.new.self c.args.map.now.entries c.insert.new.self.entries (rw (← step) c.loop-key.invariant) sorted (rw (← key, ← value) entries)
