use Rattle.std.proofs.Common.{◌∙◌, sym}
use Rattle.kapi_missing.proofs.Placing.{if_ok}
use Rattle.kapi_missing.proofs.Entered.{listed_names, no_names}
use Rattle.kapi_missing.proofs.rows.names.Goals as goal

pub returns-then-is_empty : goal.returns-then-is_empty
returns-then-is_empty c = if_ok c.all_names.result (λ v is. is ∙ no_names c.args.entries.now (sym c.is_empty.ensures ∙ c.if-is_empty.true)) c.all_names.ensures

pub returns-else-is_empty : goal.returns-else-is_empty
returns-else-is_empty c = if_ok c.parts.result (λ v is. is ∙ listed_names c.args.entries.now (sym c.is_empty.ensures ∙ c.if-is_empty.false)) c.parts.ensures
