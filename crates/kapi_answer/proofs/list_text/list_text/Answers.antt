use Rattle.std.proofs.Common.{◌++◌, codes, decimal, map}
use Rattle.serde_json.specs.View.{items_of}
use Rattle.kapi_object.specs.Admission.{version_of}
use Rattle.kapi_store.specs.Stored.{stored_tree}
use Rattle.kapi_answer.specs.List.{list_tree}
use Rattle.kapi_answer.proofs.Joined.{list_joined}
use Rattle.kapi_answer.proofs.list_text.list_text.Goals as goal

pub returns : goal.returns
unfolding list_tree
returns c =
    let row = c.args.row.now in
    rw (c.in_ok-extend_from_slice-2.ensures.items, c.in_ok-push_member-3.ensures, c.in_ok-push_member-2.ensures, c.in_ok-push_array.ensures, c.in_ok-extend_from_slice.ensures.items, c.in_ok-push_member.ensures, c.new-text.ensures.items)
    (rw (c.as_str.ensures.value, c.as_str-2.ensures.value, c.as_str-3.ensures.value, c.in_ok-version.ensures, c.in_ok-kind.ensures, c.in_ok-revision.ensures.ok)
    (list_joined (version_of row) (row.kind ++ codes "List") (decimal c.args.revision) (items_of (map (λ l. stored_tree l.object.now) c.args.listed.now))))
