use Rattle.std.proofs.Common.{◌∙◌, sym, ap, Some, None, if◌then◌else◌}
use Rattle.kapi_store.specs.Stored.{stored_tree}
use Rattle.kapi_watch.proofs.Gone.{watched_alike}
use Rattle.kapi_watch.proofs.scope.WatchScope.selected_before.Goals as goal

pub returns-then-is_watched : goal.returns-then-is_watched
returns-then-is_watched c =
    ap (λ o. Some (stored_tree o)) c.get.ensures
    ∙ ap (λ b. if b then Some (stored_tree c.in_ok-old.old.now) else None) (sym c.if-is_watched.true)
    ∙ watched_alike c.args.self.now c.args.change.now c.args.is_watched c.in_ok-old.old.now (sym c.is_some.ensures ∙ c.if-is_some.false) c.requires.after
    (sym c.in_ok-old.ensures.value)

pub returns-else-is_watched : goal.returns-else-is_watched
returns-else-is_watched c =
    ap (λ b. if b then Some (stored_tree c.in_ok-old.old.now) else None) (sym c.if-is_watched.false)
    ∙ watched_alike c.args.self.now c.args.change.now c.args.is_watched c.in_ok-old.old.now (sym c.is_some.ensures ∙ c.if-is_some.false) c.requires.after
    (sym c.in_ok-old.ensures.value)
