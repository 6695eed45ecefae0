use Rattle.std.proofs.Common.{◌∙◌, sym}
use Rattle.kapi_paths.specs.Rights.{group_of, is_of_kind}
use Rattle.kapi_paths.proofs.Parts.{any_of_views}
use Rattle.kapi_paths.proofs.right.has_kind.Goals as goal

pub returns : goal.returns
returns c = c.names_kind.ensures ∙ sym (any_of_views (is_of_kind c.args.word.now) group_of c.args.groups.now)
