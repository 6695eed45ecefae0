use Rattle.std.proofs.Common.{None, lit<}
use Rattle.std.proofs.lemmas.Str.Pattern.{split_once_first}
use Rattle.kapi_escalation.proofs.Accounts.{no_account}
use Rattle.kapi_escalation.proofs.service_account.account_in.Goals as goal

pub returns-in-None : goal.returns-in-None
returns-in-None c = no_account c.args.text.now (split_once_first 58 c.args.text.now None c.in-None.ensures.cases (lit< tt))
