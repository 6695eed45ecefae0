use Rattle.std.proofs.Common.{ℕ, List, map, ap, ◌∙◌}
use Rattle.serde_json.specs.Data.{Data}
use Rattle.kapi_model.specs.declared.selector.Selector.{Selector}
use Rattle.kapi_store.specs.Stored.{stored_tree}
use Rattle.kapi_store.specs.declared.key.Key.{Key}
use Rattle.kapi_store.specs.declared.listing.Listed.{Listed}
use Rattle.kapi_store.specs.Listing.{listed_trees}
use Rattle.kapi_store.specs.Plain.{plain_of}
use Rattle.kapi_watch.specs.Watches.{PlainWatch}
use Rattle.kapi_watch.proofs.Standing.{listed_second}
use Rattle.kapi_watch.proofs.watch.Watch.from_now.Goals as goal

pub returns-clause-gives : goal.returns-clause-gives
returns-clause-gives c =
    let scope = c.args.scope in
    let second : List (Key × Data) → List Data = λ es. map (λ e. e.1) es in
    let listed : List Listed → List Data = λ ls. map (λ l. stored_tree l.object.now) ls in
    let shown : Selector → List ℕ → List ℕ → List (Key × Data) → List Data = λ selector namespace name os. second (listed_trees scope.row namespace selector name os) in
    let objects : List (Key × Data) = (plain_of c.args.store.now).objects in
    let told : List Data → ℕ → PlainWatch = λ first revision. record { scope = scope; first = first; start = revision; shown = 0; position = revision } in
    let first =
    c.in_ok-first.ensures
    ∙ ap listed c.deref.ensures.value
    ∙ listed_second (λ l. l.key.now) (λ l. l.object.now) c.in_ok-listed.listed.items
    ∙ ap second c.in_ok-listed.ensures.trees
    ∙ ap (λ selector. shown selector c.as_str-namespace.result.now c.as_str-name.result.now objects) c.get.ensures
    ∙ ap (λ namespace. shown scope.selector namespace c.as_str-name.result.now objects) c.as_str-namespace.ensures
    ∙ ap (λ name. shown scope.selector scope.namespace name objects) c.as_str-name.ensures in
    ap (λ l. told l c.revision.result) first ∙ ap (told (shown scope.selector scope.namespace scope.name objects)) c.revision.ensures.number
