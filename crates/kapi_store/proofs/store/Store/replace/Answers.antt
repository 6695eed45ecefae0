use Rattle.std.proofs.Common.{◌≡◌, ◌↔◌, [], subst}
use Rattle.serde_json.specs.Data.{Data}
use Rattle.std.proofs.lemmas.Result.{IfOk-weaker}
use Rattle.kapi_object.specs.Object.{tree_of}
use Rattle.kapi_store.specs.Stored.{stored_tree}
use Rattle.kapi_store.specs.UidAndVersion.{with_stamps_of}
use Rattle.kapi_store.proofs.store.Store.replace.Goals as goal

pub returns-clause-unchanged : goal.returns-clause-unchanged
returns-clause-unchanged c =
    IfOk-weaker c.replace_old.result _ _ (λ r h old found.
    let P : Data → Type 0 = λ t. (r ≡ []) ↔ (with_stamps_of t (tree_of c.args.object) ≡ t) in
    let same : stored_tree c.in_ok-old.old.now ≡ old = cc (c.in_ok-old.ensures.found, found) in subst P same h) c.replace_old.ensures.unchanged
