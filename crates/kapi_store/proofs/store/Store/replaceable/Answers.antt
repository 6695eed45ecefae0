use Rattle.std.proofs.Common.{◌≡◌, Option, Some, None, option_copied, option_map, sym, ◌∙◌, ap, subst}
use Rattle.serde_json.specs.Data.{Data}
use Rattle.std.specs.Map.{lookup}
use Rattle.std.proofs.lemmas.Result.{IfOk-weaker}
use Rattle.kapi_text.specs.ResultIs.{ResultIs}
use Rattle.kapi_store.specs.Stored.{stored_tree}
use Rattle.kapi_store.specs.Faults.{fault_of}
use Rattle.kapi_store.specs.Keys.{is_key}
use Rattle.kapi_store.specs.Plain.{admitted, trees}
use Rattle.kapi_store.specs.State.{objects}
use Rattle.kapi_store.specs.View.{state_of}
use Rattle.kapi_store.proofs.Seen.{seen_live}
use Rattle.kapi_store.proofs.Trees.{lookup_trees}
use Rattle.kapi_store.proofs.store.Store.replaceable.Goals as goal

pub returns-in-Some-clause-gives : goal.returns-in-Some-clause-gives
returns-in-Some-clause-gives c =
    let now : state_of c.self.inside ≡ c.args.self.now = c.self.view_is in
    let there : Some (stored_tree c.in-Some.object.now) ≡ lookup (is_key c.args.key.now) (trees (objects c.args.self.now))
    = ap (option_map stored_tree) (sym (ap option_copied c.in-Some.is) ∙ c.find.ensures)
    ∙ ap (λ os. option_map stored_tree (lookup (is_key c.args.key.now) os)) (sym (seen_live c.self.inside.hidden c.self.inside.slots.entries) ∙ ap objects now) ∙ sym (lookup_trees c.args.key.now (objects c.args.self.now)) in
    let P : Option Data → Type 0 = λ o. ResultIs fault_of (λ x. stored_tree x.now) c.admitted.result (admitted o c.args.given.now) in
    subst P there c.admitted.ensures.gives

pub returns-in-None-clause-gives : goal.returns-in-None-clause-gives
returns-in-None-clause-gives c =
    let now : state_of c.self.inside ≡ c.args.self.now = c.self.view_is in
    let absent : None ≡ lookup (is_key c.args.key.now) (trees (objects c.args.self.now))
    = ap (option_map stored_tree) (sym (ap option_copied c.in-None.is) ∙ c.find.ensures)
    ∙ ap (λ os. option_map stored_tree (lookup (is_key c.args.key.now) os)) (sym (seen_live c.self.inside.hidden c.self.inside.slots.entries) ∙ ap objects now) ∙ sym (lookup_trees c.args.key.now (objects c.args.self.now)) in
    sym (ap (λ o. admitted o c.args.given.now) absent)

pub returns-in-Some-clause-found : goal.returns-in-Some-clause-found
returns-in-Some-clause-found c =
    let now : state_of c.self.inside ≡ c.args.self.now = c.self.view_is in
    let there : Some (stored_tree c.in-Some.object.now) ≡ lookup (is_key c.args.key.now) (trees (objects c.args.self.now))
    = ap (option_map stored_tree) (sym (ap option_copied c.in-Some.is) ∙ c.find.ensures)
    ∙ ap (λ os. option_map stored_tree (lookup (is_key c.args.key.now) os)) (sym (seen_live c.self.inside.hidden c.self.inside.slots.entries) ∙ ap objects now) ∙ sym (lookup_trees c.args.key.now (objects c.args.self.now)) in
    IfOk-weaker c.admitted.result _ _ (λ o is. sym there ∙ ap (λ x. Some (stored_tree x)) (sym is)) c.admitted.ensures.same
