use Rattle.std.proofs.Common.{sym, ◌∙◌}
use Rattle.kapi_store.proofs.FirstRows.{put_first}
use Rattle.kapi_store.proofs.rows.note.Goals as goal

pub returns-in_ok-insert : goal.returns-in_ok-insert
returns-in_ok-insert c = put_first c.args.first.now c.insert.new.self c.args.row.now.plural c.in_ok-copy.field-0 c.args.position c.in_ok-copy.ensures (sym c.contains_key.ensures ∙ c.if-not-contains_key.true) c.in_ok-insert.ensures.updates
