use Rattle.std.proofs.Common.{rules}
use Rattle.std.specs.Ordering.{is_lt}
use Rattle.std.proofs.lemmas.List.Sorted.{answers_always}
use Rattle.kapi_model.proofs.Ordered.{order_seen}
use Rattle.kapi_model.specs.Private.Lookup.{label_cmp}
use Rattle.kapi_model.proofs.lookup.are_in_order.Goals as goal

pub returns : goal.returns
returns c =
    order_seen _ _ (c.is_sorted_by.ensures.cases (λ label next. is_lt (label_cmp label next)) (answers_always _ _ _ (λ f a r g called. search rules)))
