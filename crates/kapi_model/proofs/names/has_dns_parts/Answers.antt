-- A text that is cut at its dots has the parts of the definition.
use Rattle.std.proofs.Common.{rules, tests, lit<}
use Rattle.std.proofs.lemmas.Iterator.Search.{all_from_yields_List}
use Rattle.std.proofs.lemmas.Iterator.Splits.{YieldsList-from_str_split}
use Rattle.kapi_model.specs.Names.{is_dns_part}
use Rattle.kapi_model.proofs.names.has_dns_parts.Goals as goal

pub returns : goal.returns
returns c =
    all_from_yields_List is_dns_part _ _ _ c.all.ensures.ran
    (YieldsList-from_str_split 46 c.args.text.now (lit< tt) c.split.ensures.text c.split.ensures.has_more c.split.ensures.pattern)
    (λ x b q k. search (rules, tests))
