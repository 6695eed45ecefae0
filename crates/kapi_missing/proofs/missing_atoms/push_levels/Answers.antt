use Rattle.std.proofs.Common.{◌∷◌, true, arith, refl}
use Rattle.kapi_missing.specs.Private.Left.{lists_in}
use Rattle.kapi_missing.proofs.Wanted.{all_left, none_at_all}
use Rattle.kapi_missing.proofs.missing_atoms.push_levels.Goals as goal

pub returns-in_ok-push : goal.returns-in_ok-push
returns-in_ok-push c = λ all others sees levels.
    all_left all (lists_in (c.args.levels.now.first ∷ c.args.levels.now.behind.items)) (lists_in (c.args.levels.now.first ∷ c.args.levels.now.behind.items)) c.new-chosen.result.items _ _ refl
    c.new-chosen.ensures.items (rw (c.as_slice-then-left-gt0.ensures.value, c.in_ok-reserve.ensures.items) at (c.in_ok-push.ensures.list all others (λ s. true) sees (rw c.as_slice-then-left-gt0.ensures.value levels)))

pub returns-else-left-gt0 : goal.returns-else-left-gt0
returns-else-left-gt0 c = λ all others sees levels.
    none_at_all all (lists_in (c.args.levels.now.first ∷ c.args.levels.now.behind.items)) c.args.list.now.items
    (rw c.as_slice.ensures.value at (c.in_ok-left.ensures all others (rw c.as_slice.ensures.value levels) (let none = c.if-left-gt0.false in omega (arith, none)) (λ s. true) sees))
