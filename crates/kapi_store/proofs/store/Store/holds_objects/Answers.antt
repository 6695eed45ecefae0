use Rattle.std.proofs.Common.{◌≡◌, ap, sym, ◌∙◌}
use Rattle.std.specs.List.{list_any}
use Rattle.std.proofs.lemmas.Result.{IfOk-weaker}
use Rattle.kapi_store.specs.Plain.{holds_objects, plain_of}
use Rattle.kapi_store.specs.Private.Span.{row_holds}
use Rattle.kapi_store.specs.State.{objects}
use Rattle.kapi_store.specs.View.{state_of}
use Rattle.kapi_store.proofs.Seen.{seen_live}
use Rattle.kapi_store.proofs.Standing.{holds_by_rows}
use Rattle.kapi_store.proofs.store.Store.holds_objects.Goals as goal

pub returns : goal.returns
returns c =
    let now : state_of c.self.inside ≡ c.args.self.now = c.self.view_is in
    IfOk-weaker c.any_stands_in.result _ _
    (λ b is. is ∙ ap (λ os. list_any (row_holds os c.args.namespace.now) c.as_slice.result.now) (sym (seen_live c.self.inside.hidden c.self.inside.slots.entries))
    ∙ ap (list_any (row_holds (objects (state_of c.self.inside)) c.args.namespace.now)) c.as_slice.ensures
    ∙ holds_by_rows (state_of c.self.inside) c.args.namespace.now ∙ ap (λ s. holds_objects (plain_of s) c.args.namespace.now) now) c.any_stands_in.ensures
