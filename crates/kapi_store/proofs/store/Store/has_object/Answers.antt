use Rattle.std.proofs.Common.{◌≡◌, Bor, Option, None, Some, option_copied, refl, sym, ◌∙◌, ap}
use Rattle.std.specs.Option.{is_some}
use Rattle.kapi_store.specs.Plain.{has_object}
use Rattle.kapi_store.specs.State.{objects}
use Rattle.kapi_store.proofs.Trees.{has_object_trees}
use Rattle.kapi_store.proofs.store.Store.has_object.Goals as goal

-- there is a value if there is a reference to it
is_some_copied : {X : Type 0} (o : Option (Bor X)) → is_some o ≡ is_some (option_copied o)
is_some_copied None = refl
is_some_copied (Some x) = refl

pub returns : goal.returns
unfolding has_object
returns c = c.is_some.ensures ∙ is_some_copied c.get.result ∙ ap is_some c.get.ensures.object ∙ sym (has_object_trees c.args.key.now (objects c.args.self.now))
