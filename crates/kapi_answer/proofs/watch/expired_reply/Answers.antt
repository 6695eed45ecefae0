use Rattle.std.proofs.Common.{◌≡◌, ℕ, List, Some, IfOk, ap, sym, subst, ◌∙◌}
use Rattle.serde_json.specs.Data.{Data}
use Rattle.kapi_reply.specs.Refusals.{expired}
use Rattle.kapi_reply.specs.Status.{status_of}
use Rattle.kapi_store.specs.Plain.{window_start}
use Rattle.kapi_watch.specs.declared.scope.WatchScope.{WatchScope}
use Rattle.kapi_answer.specs.Watch.{ending_of, expired_status}
use Rattle.kapi_answer.specs.declared.watch.EventReply.{EventReply}
use Rattle.kapi_answer.proofs.watch.expired_reply.Goals as goal

-- the Status object by its parts
abbrev told_by : List ℕ → List ℕ → List ℕ → ℕ → ℕ → Data
told_by group resource name asked begins =
    status_of (Some (record { group = group; resource = resource; name = name })) (expired (record { asked = asked; begins = begins }))

pub returns : goal.returns
returns c = λ history s w stands is.
    let scope : c.scope-scope.result.now ≡ w.watch.scope = c.scope-scope.ensures ∙ sym is.0.scope in
    let group = c.as_str.ensures ∙ ap (λ (x : WatchScope). x.row.group) scope in
    let resource = c.as_str-2.ensures ∙ ap (λ (x : WatchScope). x.row.plural) scope in
    let name = c.as_str-3.ensures ∙ ap (λ (x : WatchScope). x.name) scope in
    let asked = c.position.ensures history s w.watch is.0 in
    let begins = c.window_start.ensures ∙ ap window_start stands.plain in
    let d = told_by c.as_str.result.now c.as_str-2.result.now c.as_str-3.result.now c.position.result c.window_start.result in
    let same : d ≡ expired_status s w.watch =
    ap (λ g. told_by g c.as_str-2.result.now c.as_str-3.result.now c.position.result c.window_start.result) group
    ∙ ap (λ r. told_by w.watch.scope.row.group r c.as_str-3.result.now c.position.result c.window_start.result) resource
    ∙ ap (λ n. told_by w.watch.scope.row.group w.watch.scope.row.plural n c.position.result c.window_start.result) name
    ∙ ap (λ a. told_by w.watch.scope.row.group w.watch.scope.row.plural w.watch.scope.name a c.window_start.result) asked
    ∙ ap (λ b. told_by w.watch.scope.row.group w.watch.scope.row.plural w.watch.scope.name w.watch.position b) begins in
    let P : EventReply → Type 0 = λ reply. IfOk c.ended_reply.result (λ r. r ≡ reply) in
    subst P (ap (λ x. ending_of c.args.watching.now.close x) same ∙ ap (λ b. ending_of b (expired_status s w.watch)) is.1)
    (c.ended_reply.ensures d (c.deref.ensures.value ∙ c.in_ok-status.ensures))
