use Rattle.kapi_access.proofs.Noted.{group_noted, user_noted}
use Rattle.kapi_access.proofs.first_ways.note.Goals as goal

pub returns-in_ok-insert-in-User-clause-noted : goal.returns-in_ok-insert-in-User-clause-noted
returns-in_ok-insert-in-User-clause-noted c = λ n g.
    rw (c.in-User.is) (user_noted c.args.users.now c.insert.new.self c.in_ok-place_at-in-User.field-0 c.args.there.now c.in-User.name c.in_ok-place_at-in-User.ensures c.in_ok-insert-in-User.ensures.updates.0 c.args.groups.now n g)

pub returns-in_ok-insert-in-Group-clause-noted : goal.returns-in_ok-insert-in-Group-clause-noted
returns-in_ok-insert-in-Group-clause-noted c = λ n g.
    rw (c.in-Group.is) (group_noted c.args.groups.now c.insert-in-Group.new.self c.in_ok-place_at-in-Group.field-0 c.args.there.now c.in-Group.name c.in_ok-place_at-in-Group.ensures c.in_ok-insert-in-Group.ensures.updates.0 c.args.users.now n g)
