-- What holds of texts, and of lists and objects of such parts, holds of what a resource type keeps of a body.
use Rattle.std.proofs.Common.{ℕ, suc, List, Bool, true, false, if◌then◌else◌, Option, Some, None, codes}
use Rattle.serde_json.specs.Data.{Data, string, object, Items, Members, no_members, put}
use Rattle.kapi_model.specs.declared.row.ResourceRow.{ResourceRow}
use Rattle.kapi_object.proofs.Closed.{Closed, IfThere, in_metadata_holds, present_holds, put_if_holds, content_holds}
use Rattle.kapi_object.specs.Contents.{content_of}
use Rattle.kapi_object.specs.Tree.{is_empty_object, members_or_none, in_metadata, metadata_member}
use Rattle.kapi_object.specs.Admission.{put_entries, kept_names, kept_place, kept_metadata, filled, kept_tree, version_of}

module _ {P : ℕ → Data → Type 0} {I : ℕ → Items → Type 0} {M : ℕ → Members → Type 0} (c : Closed P I M) where
  metadata_member_holds : (n : ℕ) (k : List ℕ) (d : Data) → P (suc (suc n)) d → IfThere c n (metadata_member k d)
  metadata_member_holds n k d h = present_holds c n (in_metadata k d) (in_metadata_holds c n k d h)

  either_holds : (n : ℕ) (b : Bool) (ms ns : Members) → M n ms → M n ns → M n (if b then ms else ns)
  either_holds n true ms ns hm hn = hm
  either_holds n false ms ns hm hn = hn

  put_entries_holds : (n : ℕ) (k : List ℕ) (o : Option Data) (ms : Members) → IfThere c n o → M n ms → M n (put_entries k o ms)
  put_entries_holds n k None ms ho hm = hm
  put_entries_holds n k (Some d) ms ho hm = either_holds n (is_empty_object d) ms (put k d ms) hm (c.with_member n k d ms ho hm)

  kept_names_hold : (n : ℕ) (d : Data) → P (suc (suc n)) d → M n (kept_names d)
  kept_names_hold n d h =
      put_if_holds c n (codes "name") (metadata_member (codes "name") d) _ (metadata_member_holds n (codes "name") d h)
      (put_entries_holds n (codes "annotations") (metadata_member (codes "annotations") d) _ (metadata_member_holds n (codes "annotations") d h)
      (put_entries_holds n (codes "labels") (metadata_member (codes "labels") d) no_members (metadata_member_holds n (codes "labels") d h) (c.no_member n)))

  kept_place_holds : (n : ℕ) (row : ResourceRow) (d : Data) → P (suc (suc n)) d → M n (kept_place row d)
  kept_place_holds n row d h =
      either_holds n row.namespaced _ (kept_names d)
      (put_if_holds c n (codes "namespace") (metadata_member (codes "namespace") d) (kept_names d) (metadata_member_holds n (codes "namespace") d h) (kept_names_hold n d h))
      (kept_names_hold n d h)

  pub kept_metadata_holds : (n : ℕ) (row : ResourceRow) (d : Data) → P (suc (suc n)) d → M n (kept_metadata row d)
  unfolding kept_metadata
  kept_metadata_holds n row d h =
      put_if_holds c n (codes "resourceVersion") (metadata_member (codes "resourceVersion") d) (kept_place row d)
      (metadata_member_holds n (codes "resourceVersion") d h) (kept_place_holds n row d h)

  pub kept_tree_holds : (n : ℕ) (row : ResourceRow) (d : Data) → P (suc (suc (suc (suc (suc (suc (suc n))))))) d
      → P (suc (suc (suc (suc (suc (suc (suc n))))))) (kept_tree row d)
  unfolding kept_tree
  kept_tree_holds n row d h =
      c.members (suc (suc (suc (suc (suc (suc n)))))) _
      (c.with_member (suc (suc (suc (suc (suc (suc n)))))) (codes "metadata") (object (kept_metadata row d)) (members_or_none (Some (filled row d)))
      (c.members (suc (suc (suc (suc (suc n))))) _ (kept_metadata_holds (suc (suc (suc (suc (suc n))))) row d h))
      (c.with_member (suc (suc (suc (suc (suc (suc n)))))) (codes "kind") (string row.kind) (put (codes "apiVersion") (string (version_of row)) (content_of row.schema d))
      (c.text (suc (suc (suc (suc (suc (suc n)))))) _)
      (c.with_member (suc (suc (suc (suc (suc (suc n)))))) (codes "apiVersion") (string (version_of row)) (content_of row.schema d)
      (c.text (suc (suc (suc (suc (suc (suc n)))))) _) (content_holds c n row.schema d h))))
