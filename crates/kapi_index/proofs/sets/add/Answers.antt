use Rattle.std.proofs.Common.{refl, sym}
use Rattle.kapi_index.proofs.Changed.{adds_found, map_err, map_ok, same_found}
use Rattle.kapi_index.proofs.sets.add.Goals as goal

pub returns-in-Some-clause-done : goal.returns-in-Some-clause-done
returns-in-Some-clause-done c =
    map_ok c.insert.result _ _
    (λ has. adds_found _ _ _ _ c.insert.new.self _ _ c.in_ok-name.ensures c.in-Some.ensures.value
    ((c.get_mut.follows.holds c.insert.new.self).3 (rw (sym c.in-Some.ensures.value) refl)).0 has) c.insert.ensures.done

pub returns-in-Some-clause-kept : goal.returns-in-Some-clause-kept
returns-in-Some-clause-kept c =
    map_err c.insert.result _ _
    (λ same. same_found _ _ c.insert.new.self _ _ c.in-Some.ensures.value
    ((c.get_mut.follows.holds c.insert.new.self).3 (rw (sym c.in-Some.ensures.value) refl)).0 same) c.insert.ensures.kept
