use Rattle.std.proofs.Common.{◌≡◌, ◌∙◌, ◌&&◌, true, ap, sym, codes}
use Rattle.kapi_model.specs.Selector.{matches}
use Rattle.kapi_object.specs.Tree.{in_metadata}
use Rattle.kapi_store.specs.Listing.{is_listed, is_within}
use Rattle.kapi_store.specs.Stored.{stored_tree}
use Rattle.kapi_store.proofs.listing.Selection.is_listed.Goals as goal

pub returns-then-is_within : goal.returns-then-is_within
unfolding is_listed
returns-then-is_within c =
    let selector = c.args.self.now.selector.now in
    let within : is_within c.args.self.now.row.now c.args.self.now.namespace.now c.args.self.now.name.now c.args.key.now ≡ true
    = sym c.is_within.ensures ∙ c.if-is_within.true in
    c.selects.ensures selector c.requires ∙ ap (λ o. matches selector (in_metadata (codes "labels") (stored_tree o))) c.get.ensures
    ∙ sym (ap (λ b. b && matches selector (in_metadata (codes "labels") (stored_tree c.args.object.now))) within)
