use Rattle.std.proofs.Common.{sym, arith}
use Rattle.kapi_model.proofs.Values.{nothing_listed, other_is_first, word_is_first}
use Rattle.kapi_model.proofs.selector_text.front_value.Goals as goal

pub returns-in-empty-clause-split : goal.returns-in-empty-clause-split
returns-in-empty-clause-split c = nothing_listed c.args.tokens.now c.in-empty.len_below

pub returns-in-Some-clause-split : goal.returns-in-Some-clause-split
returns-in-Some-clause-split c =
    word_is_first c.args.tokens.now c.first-item.result c.in-Some.value.now (omega arith) c.first-item.is (sym c.in-Some.ensures)

pub returns-in-None-clause-split : goal.returns-in-None-clause-split
returns-in-None-clause-split c = other_is_first c.args.tokens.now c.first-item.result (omega arith) c.first-item.is (sym c.in-None.ensures)
