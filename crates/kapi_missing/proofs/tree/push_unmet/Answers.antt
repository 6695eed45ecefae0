use Rattle.std.proofs.lemmas.Result.{on_ok_weaker}
use Rattle.kapi_missing.proofs.Counted.{is_met, is_unmet, met_none, unmet_one}
use Rattle.kapi_missing.specs.Private.Left.{item, items_in}
use Rattle.kapi_missing.proofs.tree.push_unmet.Goals as goal

pub returns-then-is_any_common-clause-list : goal.returns-then-is_any_common-clause-list
returns-then-is_any_common-clause-list c = λ all others test sees met.
    let found = c.is_any_common.ensures.found c.if-is_any_common.true in
    met_none all test (item c.args.entry.now.part) (items_in c.args.chosen.now.items) c.args.list.now.items
    (is_met all others test c.args.entry.now c.args.rules.now found.0 met sees (rw (← c.as_slice.ensures.value) found.1))

pub returns-clause-list : goal.returns-clause-list
returns-clause-list c =
    on_ok_weaker c.push_chosen.result (λ grown. λ all others test sees met.
    unmet_one all test (item c.args.entry.now.part) (items_in c.args.chosen.now.items) c.args.list.now.items c.push_chosen.new.list.items
    (is_unmet all others test c.args.entry.now c.args.rules.now met sees (rw (← c.as_slice.ensures.value) (c.is_any_common.ensures.none c.if-is_any_common.false))) grown)
    c.push_chosen.ensures.list
