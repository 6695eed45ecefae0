use Rattle.std.proofs.Common.{◌≡◌, ℕ, ◌∙◌, true, sym, ap}
use Rattle.serde_json.specs.Data.{Data}
use Rattle.serde_json.specs.Written.{compact_text}
use Rattle.kapi_object.specs.Object.{tree_of}
use Rattle.kapi_object.specs.Order.{is_ordered}
use Rattle.kapi_object.specs.declared.object.Object.{Object}
use Rattle.kapi_store.specs.declared.written.Written.{Written}
use Rattle.kapi_store.specs.Private.Cut.{is_near}
use Rattle.kapi_store.specs.UidAndVersion.{replaced_tree, with_stamps_of}
use Rattle.kapi_store.specs.Stored.{stored_tree}
use Rattle.kapi_store.proofs.Labelled.{told_ordered}
use Rattle.kapi_store.proofs.Restamped.{replaced_again, stamps_again}
use Rattle.kapi_store.proofs.VersionTexts.{replaced_near}
use Rattle.kapi_store.proofs.uid_and_version.replacing.Goals as goal

-- what was written at the version of a revision has, with the old stamps, the tree that the object has with them
with_old_stamps : (revision : ℕ) (old tree again : Data) (written : Written) (object : Object) → is_ordered tree ≡ true → stored_tree written.stored ≡ tree_of written.object
    → stored_tree written.stored ≡ replaced_tree revision old tree → object ≡ written.object → again ≡ with_stamps_of old (tree_of object) → again ≡ with_stamps_of old tree
with_old_stamps revision old tree again written object ordered same made taken is =
    is ∙ ap (λ o. with_stamps_of old (tree_of o)) taken ∙ ap (with_stamps_of old) (sym same ∙ made) ∙ stamps_again revision old tree ordered

-- the texts of an object that stays are near
pub returns-then-not-is_near-clause-other : goal.returns-then-not-is_near-clause-other
returns-then-not-is_near-clause-other c same =
    let old = c.args.old.now in
    let new : c.as_bytes.result.now ≡ compact_text (replaced_tree c.args.revision (stored_tree old) (tree_of c.args.object))
    = c.as_bytes.ensures.value ∙ c.text.ensures ∙ ap compact_text c.in_ok-written.ensures.tree in
    let before : c.as_bytes-2.result.now ≡ compact_text (stored_tree old) = c.as_bytes-2.ensures.value ∙ c.text-2.ensures ∙ ap (λ o. compact_text (stored_tree o)) c.get.ensures in
    let near : is_near c.as_bytes.result.now c.as_bytes-2.result.now ≡ true
    = ap (λ s. is_near s c.as_bytes-2.result.now) new ∙ ap (is_near (compact_text (replaced_tree c.args.revision (stored_tree old) (tree_of c.args.object)))) before
    ∙ replaced_near old.revision c.args.revision (stored_tree old) (tree_of c.args.object) (told_ordered old.text old.reads) old.versioned same in
    cc (c.is_near.ensures, near, c.if-not-is_near.true)

pub returns-then-branch-clause-none : goal.returns-then-branch-clause-none
returns-then-branch-clause-none c _ =
    let old = stored_tree c.args.old.now in
    let tree = tree_of c.args.object in
    let again : tree_of c.in_ok-object.object ≡ with_stamps_of old tree
    = with_old_stamps c.args.revision old tree (tree_of c.in_ok-object.object) c.in_ok-written.written c.into_object.result c.args.object.ordered c.in_ok-written.ensures.same c.in_ok-written.ensures.tree c.into_object.ensures c.in_ok-object.ensures in
    sym again ∙ c.in_ok-is_unchanged.ensures.decides.0 c.if-branch.true

pub returns-clause-other : goal.returns-clause-other
returns-clause-other c same =
    let old = stored_tree c.args.old.now in
    let tree = tree_of c.args.object in
    let again : tree_of c.in_ok-object.object ≡ with_stamps_of old tree
    = with_old_stamps c.args.revision old tree (tree_of c.in_ok-object.object) c.in_ok-written.written c.into_object.result c.args.object.ordered c.in_ok-written.ensures.same c.in_ok-written.ensures.tree c.into_object.ensures c.in_ok-object.ensures in
    cc (c.in_ok-is_unchanged.ensures.decides.1 (again ∙ same), c.if-branch.false)

pub returns-clause-tree : goal.returns-clause-tree
returns-clause-tree c =
    let old = stored_tree c.args.old.now in
    let tree = tree_of c.args.object in
    let again : tree_of c.in_ok-object.object ≡ with_stamps_of old tree
    = with_old_stamps c.args.revision old tree (tree_of c.in_ok-object.object) c.in_ok-written.written c.into_object.result c.args.object.ordered c.in_ok-written.ensures.same c.in_ok-written.ensures.tree c.into_object.ensures c.in_ok-object.ensures in
    c.in_ok-again.ensures.tree ∙ ap (replaced_tree c.args.revision old) again ∙ replaced_again c.args.revision old tree c.args.object.ordered
