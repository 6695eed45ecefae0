use Rattle.std.proofs.Common.{◌∙◌, sym}
use Rattle.kapi_aggregation.proofs.Noting.{keeps_covers, note_covers}
use Rattle.kapi_aggregation.proofs.Unmoved.{unmoved_covers}
use Rattle.kapi_aggregation.proofs.tracker.Tracker.note_write.Goals as goal

pub returns-then-not-are_of_roles-clause-covers_after : goal.returns-then-not-are_of_roles-clause-covers_after
returns-then-not-are_of_roles-clause-covers_after c = unmoved_covers _ c.args.changes.now _ (sym c.are_of_roles.ensures ∙ c.if-not-are_of_roles.true)

pub returns-clause-covers_after : goal.returns-clause-covers_after
returns-clause-covers_after c =
    note_covers c.args.store.now c.args.changes.now c.args.self.now c.note.new.self c.revision-revision.ensures.store c.in_ok-note.ensures.noted

pub returns-in_err-note-clause-covers : goal.returns-in_err-note-clause-covers
returns-in_err-note-clause-covers c = λ roles. keeps_covers c.args.self.now c.note.new.self roles c.note.ensures.kept

pub returns-clause-covers : goal.returns-clause-covers
returns-clause-covers c = λ roles. keeps_covers c.args.self.now c.note.new.self roles c.note.ensures.kept
