use Rattle.std.proofs.Common.{◌≡◌, ℕ, List, Some, sym, ap, ◌∙◌}
use Rattle.std.specs.BTreeMap.{is_at}
use Rattle.std.specs.Map.{set_value}
use Rattle.std.specs.Option.{option_copied_mut}
use Rattle.std.specs.Ordering.{nat_cmp}
use Rattle.kapi_answer.specs.declared.watch.Watching.{Watching}
use Rattle.kapi_watch.specs.Running.{at_place}
use Rattle.kapi_watch.specs.declared.watch.Cursor.{Cursor}
use Rattle.kapi_core.specs.declared.connection.Connection.{Connection}
use Rattle.kapi_core.proofs.connections.move_at.Goals as goal

same_in : {X : Type 0} (x y : X) → Some x ≡ Some y → x ≡ y
same_in x y is = cc

abbrev moved_to : Cursor → Watching → Watching
moved_to place w = record w { watch = at_place w.watch place }

pub returns-in-Some-watching : goal.returns-in-Some-watching
returns-in-Some-watching c = λ linked w there runs.
    let was = c.in-Some.connection.now in
    let same : was ≡ linked = same_in was linked (sym (sym c.get_mut.ensures.value ∙ ap option_copied_mut c.in-Some.is) ∙ there) in
    let watched : c.in-Some-watching.watching ≡ w =
    same_in c.in-Some-watching.watching w (sym c.in-Some-watching.is ∙ ap (λ (x : Connection). x.watching) same ∙ runs) in
    let v : Watching = c.shown.new.self in
    let now : Connection = record { identity = was.identity; inbox = was.inbox; watching = Some v } in
    let put : Connection → Watching → List (ℕ × Connection) = λ x y. set_value (is_at (nat_cmp c.args.id)) c.args.connections.now.entries (record x { watching = Some y }) in
    let moved : v ≡ moved_to c.args.place w = c.shown.ensures ∙ ap (moved_to c.args.place) watched in
    (c.get_mut.follows.holds now).0 ∙ ap (λ x. put x v) same ∙ ap (put linked) moved
