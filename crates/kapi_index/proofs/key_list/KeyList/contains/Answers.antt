use Rattle.std.proofs.Common.{ap, subst, sym, ◌∙◌}
use Rattle.std.specs.List.Sorted.{IsSorted}
use Rattle.kapi_policy.specs.Objects.{name_cmp}
use Rattle.kapi_index.proofs.Ordered.{found_in_order}
use Rattle.kapi_index.specs.Listed.{is_key}
use Rattle.kapi_index.proofs.key_list.KeyList.contains.Goals as goal

pub returns : goal.returns
returns c =
    c.is_ok.ensures.value
    ∙ found_in_order c.args.key.now c.deref.result.now c.binary_search.result (subst (IsSorted name_cmp) (sym c.deref.ensures.value) c.self.invariant)
    c.binary_search.ensures.bound c.binary_search.ensures.position
    ∙ ap (is_key c.args.key.now) (c.deref.ensures.value ∙ c.self.view_is)
