use Rattle.std.proofs.Common.{◌≡◌, ◌++◌, ◌∙◌, subst, sym}
use Rattle.std.proofs.lemmas.Result.{on_ok_weaker}
use Rattle.kapi_missing.proofs.Wanted.{no_urls}
use Rattle.kapi_missing.specs.Private.Left.{left_atoms}
use Rattle.kapi_missing.proofs.missing_atoms.push_on_urls.Goals as goal

pub returns-then-is_empty : goal.returns-then-is_empty
returns-then-is_empty c = λ all others index sees. no_urls all c.args.rule.now c.args.list.now.items (rw c.as_slice.ensures at (sym c.is_empty.ensures ∙ c.if-is_empty.true))

pub returns : goal.returns
returns c =
    on_ok_weaker c.push_levels.result (λ listed. λ all others index sees.
    subst (λ lists. c.push_levels.new.list.items ≡ c.args.list.now.items ++ left_atoms all lists) c.in_ok-levels.ensures.lists (listed all others sees (c.in_ok-levels.ensures.levels all others index sees)))
    c.push_levels.ensures
