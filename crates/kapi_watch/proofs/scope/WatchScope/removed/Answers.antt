use Rattle.std.proofs.Common.{◌≡◌, None, sym}
use Rattle.kapi_store.specs.Stored.{stored_tree}
use Rattle.kapi_watch.proofs.Gone.{has_text}
use Rattle.kapi_watch.proofs.scope.WatchScope.removed.Goals as goal

pub returns-in_err-as_ref : goal.returns-in_err-as_ref
returns-in_err-as_ref c =
    let none : c.args.change.now.gone ≡ None = sym c.in_err-as_ref.ensures.value in
    absurd (has_text c.args.self.now c.args.change.now (stored_tree c.args.old.now) c.requires.was c.requires.watched c.requires.gone none)
