use Rattle.kapi_publishing.proofs.Keeps.{publishes}
use Rattle.kapi_publishing.proofs.desk.shown.Goals as goal

pub publish_as-requires : goal.publish_as-requires
publish_as-requires g c next is =
    let noted = c.requires.noted in publishes _ _ c.args.writer.desk.shown.value next _ noted.0 c.requires.paged noted.1 noted.2 is
