use Rattle.std.proofs.Common.{None, lit<}
use Rattle.std.proofs.lemmas.Str.Pattern.{split_once_first}
use Rattle.kapi_manifests.proofs.Groups.{core_group}
use Rattle.kapi_manifests.proofs.kinds.group_of.Goals as goal

pub returns-in-None : goal.returns-in-None
returns-in-None c = core_group c.args.version.now (split_once_first 47 c.args.version.now None c.in-None.ensures.cases (lit< tt))
