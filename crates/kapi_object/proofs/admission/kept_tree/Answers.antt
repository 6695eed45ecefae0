use Rattle.std.proofs.Common.{◌≡◌, ◌∙◌, ℕ, List, Some, codes, ap}
use Rattle.serde_json.proofs.Views.{view-Object}
use Rattle.serde_json.specs.Data.{Data, object, put, string}
use Rattle.serde_json.specs.Find.{get_member}
use Rattle.serde_json.specs.View.{view, members_view}
use Rattle.serde_json.specs.declared.value.Value.TheVariants.{Object}
use Rattle.kapi_object.proofs.KeptMembers.{members_kept}
use Rattle.kapi_object.proofs.Moved.{content_beside}
use Rattle.kapi_object.specs.Admission.{filled, kept_metadata, kept_tree, version_of}
use Rattle.kapi_object.specs.Private.Kept.{kept_members}
use Rattle.kapi_object.proofs.SetTexts.{in_object}
use Rattle.kapi_object.specs.Contents.{content_of}
use Rattle.kapi_object.specs.Tree.{members_or_none, metadata_of, without}
use Rattle.kapi_object.proofs.admission.kept_tree.Goals as goal

pub returns : goal.returns
unfolding kept_tree
returns c =
    let tree : Data = view c.args.tree in
    let at : List ℕ = codes "metadata" in
    let taken : members_view c.in_ok-name.metadata.entries ≡ metadata_of tree
    = c.in_ok-name.ensures.taken ∙ ap (λ ms. members_or_none (get_member at ms)) c.into_members-rest.ensures ∙ ap members_or_none (in_object at tree) in
    let rest : view (Object c.take_metadata.new.members) ≡ object (without at (members_or_none (Some tree)))
    = view-Object c.take_metadata.new.members ∙ ap object (c.in_ok-name.ensures.left ∙ ap (without at) c.into_members-rest.ensures) in
    let kept : view (Object c.kept_metadata-kept.result) ≡ object (kept_metadata c.args.row.now tree)
    = view-Object c.kept_metadata-kept.result ∙ ap object (c.kept_metadata-kept.ensures ∙ ap (kept_members c.args.row.now) taken ∙ members_kept c.args.row.now tree c.requires.ordered) in
    let beside : members_view c.in_ok-members.members.entries
    ≡ put (codes "kind") (string c.args.row.now.kind) (put (codes "apiVersion") (string (version_of c.args.row.now)) (content_of c.args.row.now.schema (object (without at (members_or_none (Some tree))))))
    = ap (λ d. members_or_none (Some d)) (c.in_ok-members.ensures ∙ ap (filled c.args.row.now) rest) in
    view-Object c.put_entry.new.members ∙ ap object (c.in_ok-put_entry.ensures
    ∙ ap (λ k. put k (view (Object c.kept_metadata-kept.result)) (members_view c.in_ok-members.members.entries)) c.in_ok-name.ensures.key
    ∙ ap (λ d. put at d (members_view c.in_ok-members.members.entries)) kept
    ∙ ap (put at (object (kept_metadata c.args.row.now tree))) beside
    ∙ content_beside c.args.row.now.schema c.args.row.now.kind (version_of c.args.row.now) (object (kept_metadata c.args.row.now tree)) tree c.requires.ordered)
