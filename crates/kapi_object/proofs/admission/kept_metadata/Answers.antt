use Rattle.std.proofs.Common.{◌∙◌, ap, string_bytes, rules}
use Rattle.std.proofs.lemmas.Map.Made.{filter_same_pairs}
use Rattle.serde_json.specs.View.{view, members_view}
use Rattle.kapi_object.proofs.KeptMembers.{entries_kept}
use Rattle.kapi_object.specs.Private.Kept.{is_kept}
use Rattle.kapi_object.proofs.admission.kept_metadata.Goals as goal

pub returns : goal.returns
returns c =
    ap members_view (filter_same_pairs _ (λ e. is_kept c.args.row.now (string_bytes e.0) (view e.1)) _ (λ k v b w f' t. search rules) _ _ c.retain.ensures.filtered)
    ∙ entries_kept c.args.row.now c.args.metadata.entries
