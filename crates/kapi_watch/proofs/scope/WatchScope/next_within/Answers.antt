use Rattle.std.proofs.Common.{◌≡◌, Bool, Some, sym, ap, ◌∙◌, slice_get, option_copied, arith}
use Rattle.kapi_store.specs.Lent.{changes_of}
use Rattle.kapi_store.specs.declared.change.Change.{Change}
use Rattle.kapi_watch.proofs.Due.{place_here, place_behind}
use Rattle.kapi_watch.proofs.Scopes.{is_in_scope}
use Rattle.kapi_watch.proofs.scope.WatchScope.next_within.Goals as goal

pub returns-then-is_within : goal.returns-then-is_within
returns-then-is_within c =
    let cs = changes_of c.args.changes.now in
    let p : Change → Bool = λ x. is_in_scope c.args.self.now x.key in
    let at : slice_get cs c.loop-index.index ≡ Some c.unwrap.result.now = sym c.get.ensures ∙ ap option_copied c.unwrap.ensures in
    omega (arith, c.loop-index.invariant, place_here p cs c.loop-index.index c.unwrap.result.now at (sym c.is_within.ensures ∙ c.if-is_within.true))

pub loop-index-preserved : goal.loop-index-preserved
loop-index-preserved c =
    let cs = changes_of c.args.changes.now in
    let p : Change → Bool = λ x. is_in_scope c.args.self.now x.key in
    let at : slice_get cs c.loop-index.index ≡ Some c.unwrap.result.now = sym c.get.ensures ∙ ap option_copied c.unwrap.ensures in
    omega (arith, c.loop-index.invariant, place_behind p cs c.loop-index.index c.unwrap.result.now at (sym c.is_within.ensures ∙ c.if-is_within.false))
