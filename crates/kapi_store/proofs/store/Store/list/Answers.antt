use Rattle.std.proofs.Common.{List, ◌∙◌, ap, sym, subst}
use Rattle.std.specs.List.{IsDistinct}
use Rattle.std.specs.Map.{keys_of}
use Rattle.std.proofs.lemmas.Result.{IfOk-weaker}
use Rattle.kapi_store.specs.declared.key.Key.{Key}
use Rattle.kapi_store.specs.declared.stored.StoredObject.{StoredObject}
use Rattle.kapi_store.specs.Keys.{is_key}
use Rattle.kapi_store.specs.Listing.{is_listed, listed_objects}
use Rattle.kapi_store.specs.Plain.{trees}
use Rattle.kapi_store.specs.Private.Hidden.{visible}
use Rattle.kapi_store.specs.State.{objects}
use Rattle.kapi_store.specs.Stored.{stored_tree}
use Rattle.kapi_store.proofs.Keys.{filter_distinct}
use Rattle.kapi_store.proofs.Seen.{seen_live}
use Rattle.kapi_store.proofs.SlotSteps.{visible_sorted}
use Rattle.kapi_store.proofs.Trees.{listed_objects_trees}
use Rattle.kapi_store.proofs.store.Store.list.Goals as goal

pub returns-clause-objects : goal.returns-clause-objects
returns-clause-objects c =
    let there = sym (seen_live c.self.inside.hidden c.self.inside.slots.entries) ∙ ap objects c.self.view_is in
    IfOk-weaker c.list_in.result _ _
    (λ v is. is ∙ ap (listed_objects c.args.resource.now c.args.namespace.now c.args.selector.now c.args.name.now) there) c.list_in.ensures

pub returns-clause-trees : goal.returns-clause-trees
returns-clause-trees c =
    let row = c.args.resource.now in
    let namespace = c.args.namespace.now in
    let selector = c.args.selector.now in
    let name = c.args.name.now in
    let there = sym (seen_live c.self.inside.hidden c.self.inside.slots.entries) ∙ ap objects c.self.view_is in
    IfOk-weaker c.list_in.result _ _
    (λ v is. ap trees (is ∙ ap (listed_objects row namespace selector name) there) ∙ listed_objects_trees row namespace selector name (objects c.args.self.now))
    c.list_in.ensures

pub returns-clause-distinct : goal.returns-clause-distinct
returns-clause-distinct c =
    let P : List (Key × StoredObject) → Type 0 = λ es. IsDistinct is_key (keys_of es) in
    let es = c.self.inside.slots.entries in
    let all : P _ = filter_distinct (λ e. is_listed c.args.resource.now c.args.namespace.now c.args.selector.now c.args.name.now e.0 (stored_tree e.1)) (visible c.self.inside.hidden es) (visible_sorted c.self.inside.hidden es c.self.invariant.2) in
    IfOk-weaker c.list_in.result _ _ (λ v is. subst P (sym is) all) c.list_in.ensures
