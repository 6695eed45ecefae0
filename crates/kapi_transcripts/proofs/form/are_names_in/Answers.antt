-- A text that is cut at its commas has the names of the definition.
use Rattle.std.proofs.Common.{rules, tests, lit<}
use Rattle.std.proofs.lemmas.Iterator.Search.{all_from_yields_List}
use Rattle.std.proofs.lemmas.Iterator.Splits.{YieldsList-from_str_split}
use Rattle.kapi_transcripts.specs.Names.{is_name}
use Rattle.kapi_transcripts.proofs.form.are_names_in.Goals as goal

pub returns : goal.returns
returns c =
    all_from_yields_List (λ name. is_name name) _ _ _ c.all.ensures.ran
    (YieldsList-from_str_split 44 c.args.names.now (lit< tt) c.split.ensures.text c.split.ensures.has_more c.split.ensures.pattern)
    (λ x b q k. search (rules, tests))
