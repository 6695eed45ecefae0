use Rattle.std.proofs.Common.{◌==◌, ◌∙◌, ap, length, refl, sym}
use Rattle.kapi_index.proofs.Changed.{names_under, removes_found}
use Rattle.kapi_index.proofs.sets.take_name.Goals as goal

pub returns-in-Some-clause-gone : goal.returns-in-Some-clause-gone
returns-in-Some-clause-gone c =
    removes_found _ _ _ c.remove.new.self _ _ c.in-Some.ensures.value
    ((c.get_mut.follows.holds c.remove.new.self).3 (rw (sym c.in-Some.ensures.value) refl)).0 c.remove.ensures.gone

pub returns-in-Some-clause-empty : goal.returns-in-Some-clause-empty
returns-in-Some-clause-empty c =
    c.is_empty.ensures
    ∙ ap (λ l. length l == 0) (sym (names_under _ c.remove.new.self _ _ ((c.get_mut.follows.holds c.remove.new.self).3 (rw (sym c.in-Some.ensures.value) refl)).0))
