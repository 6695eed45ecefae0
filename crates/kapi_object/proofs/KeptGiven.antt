-- The kept tree specifies what the body specifies.
use Rattle.std.proofs.Common.{◌≡◌, ◌∙◌, ℕ, List, Bool, true, false, if◌then◌else◌, Option, Some, None, refl, ap, codes, bytes_eq}
use Rattle.std.specs.Option.{option_and_then}
use Rattle.serde_json.proofs.Views.{get_member-put}
use Rattle.serde_json.specs.Data.{Data, object, Members, no_members, put}
use Rattle.serde_json.specs.Find.{get, get_member}
use Rattle.kapi_model.specs.declared.row.ResourceRow.{ResourceRow}
use Rattle.kapi_object.proofs.Puts.{put_other, put_if_other, put_if_here, there_once}
use Rattle.kapi_object.specs.Given.{text_given, given_of, given_on}
use Rattle.kapi_object.specs.Tree.{is_empty_object, members_or_none, in_metadata, metadata_member, put_if, unless_null}
use Rattle.kapi_object.specs.declared.body_fields.GivenText.TheVariants.{Absent}
use Rattle.kapi_object.specs.Admission.{put_entries, kept_entries, kept_names, kept_place, kept_metadata, filled, kept_tree}

put_unless_other : (b : Bool) (q k : List ℕ) (d : Data) (ms : Members) → bytes_eq q k ≡ false → get_member q (if b then ms else put k d ms) ≡ get_member q ms
put_unless_other true q k d ms h = refl
put_unless_other false q k d ms h = put_other q k d ms h

pub put_entries_other : (q k : List ℕ) (o : Option Data) (ms : Members) → bytes_eq q k ≡ false → get_member q (put_entries k o ms) ≡ get_member q ms
put_entries_other q k None ms h = refl
put_entries_other q k (Some d) ms h = put_unless_other (is_empty_object d) q k d ms h

-- labels and annotations hide no other member
entries_other : (q : List ℕ) (tree : Data) → bytes_eq q (codes "labels") ≡ false → bytes_eq q (codes "annotations") ≡ false → get_member q (kept_entries tree) ≡ None
entries_other q tree hl ha =
    put_entries_other q (codes "annotations") (metadata_member (codes "annotations") tree) (put_entries (codes "labels") (metadata_member (codes "labels") tree) no_members) ha
    ∙ put_entries_other q (codes "labels") (metadata_member (codes "labels") tree) no_members hl

names_other : (q : List ℕ) (tree : Data) → bytes_eq q (codes "labels") ≡ false → bytes_eq q (codes "annotations") ≡ false → bytes_eq q (codes "name") ≡ false
    → get_member q (kept_names tree) ≡ None
names_other q tree hl ha hn = put_if_other q (codes "name") (metadata_member (codes "name") tree) (kept_entries tree) hn ∙ entries_other q tree hl ha

place_other : (b : Bool) (q : List ℕ) (tree : Data) → bytes_eq q (codes "namespace") ≡ false
    → get_member q (if b then put_if (codes "namespace") (metadata_member (codes "namespace") tree) (kept_names tree) else kept_names tree) ≡ get_member q (kept_names tree)
place_other true q tree h = put_if_other q (codes "namespace") (metadata_member (codes "namespace") tree) (kept_names tree) h
place_other false q tree h = refl

place_here : (b : Bool) (tree : Data)
    → get_member (codes "namespace") (if b then put_if (codes "namespace") (metadata_member (codes "namespace") tree) (kept_names tree) else kept_names tree)
    ≡ (if b then metadata_member (codes "namespace") tree else None)
place_here true tree = put_if_here (codes "namespace") (metadata_member (codes "namespace") tree) (kept_names tree) (names_other (codes "namespace") tree refl refl refl)
place_here false tree = names_other (codes "namespace") tree refl refl refl

version_other : (q : List ℕ) (row : ResourceRow) (tree : Data) → bytes_eq q (codes "resourceVersion") ≡ false → get_member q (kept_metadata row tree) ≡ get_member q (kept_place row tree)
unfolding kept_metadata
version_other q row tree h = put_if_other q (codes "resourceVersion") (metadata_member (codes "resourceVersion") tree) (kept_place row tree) h

pub kept_name : (row : ResourceRow) (tree : Data) → get_member (codes "name") (kept_metadata row tree) ≡ metadata_member (codes "name") tree
kept_name row tree =
    version_other (codes "name") row tree refl
    ∙ place_other row.namespaced (codes "name") tree refl
    ∙ put_if_here (codes "name") (metadata_member (codes "name") tree) (kept_entries tree) (entries_other (codes "name") tree refl refl)

pub kept_namespace : (row : ResourceRow) (tree : Data) → get_member (codes "namespace") (kept_metadata row tree) ≡ (if row.namespaced then metadata_member (codes "namespace") tree else None)
kept_namespace row tree = version_other (codes "namespace") row tree refl ∙ place_here row.namespaced tree

pub kept_version : (row : ResourceRow) (tree : Data) → get_member (codes "resourceVersion") (kept_metadata row tree) ≡ metadata_member (codes "resourceVersion") tree
unfolding kept_metadata
kept_version row tree =
    put_if_here (codes "resourceVersion") (metadata_member (codes "resourceVersion") tree) (kept_place row tree)
    (place_other row.namespaced (codes "resourceVersion") tree refl ∙ names_other (codes "resourceVersion") tree refl refl refl)

-- nothing else is kept
pub none_else : (q : List ℕ) (row : ResourceRow) (tree : Data) → bytes_eq q (codes "labels") ≡ false → bytes_eq q (codes "annotations") ≡ false → bytes_eq q (codes "name") ≡ false
    → bytes_eq q (codes "namespace") ≡ false → bytes_eq q (codes "resourceVersion") ≡ false → get_member q (kept_metadata row tree) ≡ None
none_else q row tree hl ha hn hp hv = version_other q row tree hv ∙ place_other row.namespaced q tree hp ∙ names_other q tree hl ha hn

in_kept : (q : List ℕ) (row : ResourceRow) (tree : Data) → in_metadata q (kept_tree row tree) ≡ get_member q (kept_metadata row tree)
unfolding kept_tree
in_kept q row tree = ap (option_and_then (get q)) (get_member-put (codes "metadata") (object (kept_metadata row tree)) (members_or_none (Some (filled row tree))))

-- a member of the kept metadata, from the members of the metadata
pub metadata_kept : (q : List ℕ) (row : ResourceRow) (tree : Data) (o : Option Data) → get_member q (kept_metadata row tree) ≡ o → metadata_member q (kept_tree row tree) ≡ option_and_then unless_null o
metadata_kept q row tree o e = ap (option_and_then unless_null) (in_kept q row tree ∙ e)

-- labels and annotations, as they are in the kept metadata
pub kept_in_entries : (q : List ℕ) (row : ResourceRow) (tree : Data) → bytes_eq q (codes "resourceVersion") ≡ false → bytes_eq q (codes "namespace") ≡ false → bytes_eq q (codes "name") ≡ false
    → get_member q (kept_metadata row tree) ≡ get_member q (kept_entries tree)
kept_in_entries q row tree hv hp hn =
    version_other q row tree hv ∙ place_other row.namespaced q tree hp ∙ put_if_other q (codes "name") (metadata_member (codes "name") tree) (kept_entries tree) hn

given_by_row : (row : ResourceRow) (b : Bool) (tree : Data)
    → (record (given_of tree) { namespace = text_given (option_and_then unless_null (if b then metadata_member (codes "namespace") tree else None)) })
    ≡ (if b then given_of tree else record (given_of tree) { namespace = Absent })
given_by_row row true tree = rw (there_once (in_metadata (codes "namespace") tree)) refl
given_by_row row false tree = refl

pub given_of-kept_tree : (row : ResourceRow) (tree : Data) → given_of (kept_tree row tree) ≡ given_on row tree
unfolding given_on
given_of-kept_tree row tree =
    rw (
      metadata_kept (codes "name") row tree _ (kept_name row tree),
      metadata_kept (codes "namespace") row tree _ (kept_namespace row tree),
      metadata_kept (codes "resourceVersion") row tree _ (kept_version row tree),
      there_once (in_metadata (codes "name") tree),
      there_once (in_metadata (codes "resourceVersion") tree),
    ) (given_by_row row row.namespaced tree)
