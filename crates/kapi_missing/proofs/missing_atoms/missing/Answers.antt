use Rattle.std.proofs.Common.{◌∙◌, sym}
use Rattle.kapi_rules.proofs.Law.{none_missing}
use Rattle.kapi_missing.proofs.missing_atoms.missing.Goals as goal

pub returns-clause-law : goal.returns-clause-law
returns-clause-law c = λ none. none_missing c.args.held.now c.args.wanted.now (sym (rw c.new-list.ensures.items at (c.in_ok-push_all.ensures c.in_ok-rules.ensures)) ∙ none)
