use Rattle.kapi_object.proofs.Changes.{members_view_removed}
use Rattle.kapi_object.proofs.merge.remove.Goals as goal

pub returns : goal.returns
returns c = rw c.remove.ensures.entries (members_view_removed c.args.name.now c.args.members.now.entries)
