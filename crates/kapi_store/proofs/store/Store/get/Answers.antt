use Rattle.std.proofs.Common.{Some, option_copied, option_map, sym, ◌∙◌, ap}
use Rattle.std.specs.Map.{lookup}
use Rattle.kapi_store.specs.Keys.{is_key}
use Rattle.kapi_store.specs.State.{objects}
use Rattle.kapi_store.specs.Stored.{stored_tree}
use Rattle.kapi_store.proofs.Seen.{seen_live}
use Rattle.kapi_store.proofs.Trees.{lookup_trees}
use Rattle.kapi_store.proofs.store.Store.get.Goals as goal

pub returns-in-Some-clause-object : goal.returns-in-Some-clause-object
returns-in-Some-clause-object c =
    ap Some c.get.ensures ∙ sym (ap option_copied c.in-Some.is) ∙ c.find.ensures
    ∙ ap (lookup (is_key c.args.key.now)) (sym (seen_live c.self.inside.hidden c.self.inside.slots.entries) ∙ ap objects c.self.view_is)

pub returns-in-None-clause-object : goal.returns-in-None-clause-object
returns-in-None-clause-object c =
    sym (ap option_copied c.in-None.is) ∙ c.find.ensures
    ∙ ap (lookup (is_key c.args.key.now)) (sym (seen_live c.self.inside.hidden c.self.inside.slots.entries) ∙ ap objects c.self.view_is)

pub returns-in-Some-clause-tree : goal.returns-in-Some-clause-tree
returns-in-Some-clause-tree c =
    ap (λ o. Some (stored_tree o)) c.get.ensures ∙ ap (option_map stored_tree) (sym (ap option_copied c.in-Some.is) ∙ c.find.ensures
    ∙ ap (lookup (is_key c.args.key.now)) (sym (seen_live c.self.inside.hidden c.self.inside.slots.entries) ∙ ap objects c.self.view_is))
    ∙ sym (lookup_trees c.args.key.now (objects c.args.self.now))

pub returns-in-None-clause-tree : goal.returns-in-None-clause-tree
returns-in-None-clause-tree c =
    ap (option_map stored_tree) (sym (ap option_copied c.in-None.is) ∙ c.find.ensures
    ∙ ap (lookup (is_key c.args.key.now)) (sym (seen_live c.self.inside.hidden c.self.inside.slots.entries) ∙ ap objects c.self.view_is))
    ∙ sym (lookup_trees c.args.key.now (objects c.args.self.now))
