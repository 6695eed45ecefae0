use Rattle.std.proofs.Common.{◌∙◌, ap, fold}
use Rattle.kapi_publishing.specs.Private.Copies.{absorbed}
use Rattle.kapi_publishing.proofs.Keeps.{opens}
use Rattle.kapi_publishing.proofs.desk.open.Goals as goal

pub publish_as-writer-requires : goal.publish_as-writer-requires
publish_as-writer-requires g c next is = let now = c.args.writer.desk.shown.value in opens _ _ now next (is ∙ ap (fold absorbed now) c.requires.none)
