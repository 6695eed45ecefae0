-- What was admitted has no fault: the tree that a resource type keeps of a body without faults has no faults.
use Rattle.std.proofs.Common.{◌≡◌, ◌∙◌, ℕ, List, [], ◌∷◌, ◌++◌, true, false, Option, Some, None, refl, sym, ap, codes, length, ◌==◌, true≢false}
use Rattle.std.proofs.Math.Dec.{eqb-suc-zero}
use Rattle.std.specs.Option.{option_and_then}
use Rattle.serde_json.proofs.Views.{get_member-put}
use Rattle.serde_json.specs.Data.{Data, string, object, Members, no_members, member, put}
use Rattle.serde_json.specs.Find.{get_member}
use Rattle.kapi_model.specs.declared.row.ResourceRow.{ResourceRow}
use Rattle.kapi_model.specs.declared.row.Schema.{Schema}
use Rattle.kapi_model.specs.declared.row.Schema.TheVariants.{Open, Role, ClusterRole, RoleBinding, ClusterRoleBinding}
use Rattle.kapi_object.proofs.Puts.{put_other}
use Rattle.kapi_object.specs.Contents.{content_of}
use Rattle.kapi_object.specs.Tree.{member_of, members_or_none, metadata_member, unless_null}
use Rattle.kapi_object.proofs.CleanKinds.{Has, kept_of, is_object, found, role_found, cluster_role_found, binding_found}
use Rattle.kapi_object.proofs.CleanLists.{parts, both}
use Rattle.kapi_object.proofs.CleanTables.{level_clean, table_clean, Found}
use Rattle.kapi_object.proofs.KeptGiven.{put_entries_other, kept_in_entries, metadata_kept}
use Rattle.kapi_object.specs.Admission.{put_entries, kept_metadata, kept_tree, filled, version_of, faults_on}
use Rattle.kapi_object.specs.Faults.{entries_faults, faults_in, faults_of, metadata_faults, field_of}
use Rattle.kapi_object.specs.Shapes.{part_faults, rows_faults, table_faults, typed_faults}
use Rattle.kapi_object.specs.Tables.{rows_of}
use Rattle.kapi_object.specs.Typed.{object_faults}
use Rattle.kapi_object.specs.declared.metadata.Entries.{Entries}
use Rattle.kapi_object.specs.declared.metadata.Entries.TheVariants.{Labels, Annotations}
use Rattle.kapi_object.specs.declared.table.Table.{Table}
use Rattle.kapi_object.specs.declared.table.Table.TheVariants as table

-- ---- the metadata

-- entries without faults have none if they are kept
entries_kept : (sort : Entries) (field k : List ℕ) (o : Option Data) (ms : Members) → get_member k ms ≡ None → entries_faults sort field o ≡ []
    → entries_faults sort field (option_and_then unless_null (get_member k (put_entries k o ms))) ≡ []
unfolding entries_faults
entries_kept sort field k None ms none h = rw none refl
entries_kept sort field k (Some (object no_members)) ms none h = rw none refl
entries_kept sort field k (Some (object (member l d os))) ms none h = rw (get_member-put k (object (member l d os)) ms) h
entries_kept sort field k (Some _) ms none h = absurd (cc h)

labels_kept : (row : ResourceRow) (tree : Data) → faults_in Labels tree ≡ [] → faults_in Labels (kept_tree row tree) ≡ []
labels_kept row tree h =
    let labels : Members = put_entries (codes "labels") (metadata_member (codes "labels") tree) no_members in
    rw (metadata_kept (codes "labels") row tree _ (kept_in_entries (codes "labels") row tree refl refl refl
    ∙ put_entries_other (codes "labels") (codes "annotations") (metadata_member (codes "annotations") tree) labels refl))
    (entries_kept Labels (field_of Labels) (codes "labels") (metadata_member (codes "labels") tree) no_members refl h)

annotations_kept : (row : ResourceRow) (tree : Data) → faults_in Annotations tree ≡ [] → faults_in Annotations (kept_tree row tree) ≡ []
annotations_kept row tree h =
    let labels : Members = put_entries (codes "labels") (metadata_member (codes "labels") tree) no_members in
    rw (metadata_kept (codes "annotations") row tree _ (kept_in_entries (codes "annotations") row tree refl refl refl))
    (entries_kept Annotations (field_of Annotations) (codes "annotations") (metadata_member (codes "annotations") tree) labels
    (put_entries_other (codes "annotations") (codes "labels") (metadata_member (codes "labels") tree) no_members refl) h)

metadata_at : (row : ResourceRow) (tree : Data) → member_of (codes "metadata") (kept_tree row tree) ≡ Some (object (kept_metadata row tree))
unfolding kept_tree
metadata_at row tree = ap (option_and_then unless_null) (get_member-put (codes "metadata") (object (kept_metadata row tree)) (members_or_none (Some (filled row tree))))

metadata_clean : (row : ResourceRow) (tree : Data) → faults_of tree ≡ [] → faults_of (kept_tree row tree) ≡ []
unfolding faults_of
metadata_clean row tree h =
    let k : Data = kept_tree row tree in
    let outer : ((metadata_faults (member_of (codes "metadata") tree) ++ faults_in Labels tree) ≡ []) × (faults_in Annotations tree ≡ []) =
    parts (metadata_faults (member_of (codes "metadata") tree) ++ faults_in Labels tree) (faults_in Annotations tree) h in
    let inner : (metadata_faults (member_of (codes "metadata") tree) ≡ []) × (faults_in Labels tree ≡ []) =
    parts (metadata_faults (member_of (codes "metadata") tree)) (faults_in Labels tree) outer.0 in
    both (metadata_faults (member_of (codes "metadata") k) ++ faults_in Labels k) (faults_in Annotations k)
    (both (metadata_faults (member_of (codes "metadata") k)) (faults_in Labels k) (ap metadata_faults (metadata_at row tree)) (labels_kept row tree inner.1))
    (annotations_kept row tree outer.1)

-- ---- the content

-- the kept tree has the members of the content
has_content : (row : ResourceRow) (tree : Data) → Has (content_of row.schema tree) (kept_tree row tree)
unfolding kept_tree
has_content row tree q hm hk ha =
    ap (option_and_then unless_null) (
    put_other q (codes "metadata") (object (kept_metadata row tree)) (put (codes "kind") (string row.kind) (put (codes "apiVersion") (string (version_of row)) (content_of row.schema tree))) hm
    ∙ put_other q (codes "kind") (string row.kind) (put (codes "apiVersion") (string (version_of row)) (content_of row.schema tree)) hk
    ∙ put_other q (codes "apiVersion") (string (version_of row)) (content_of row.schema tree) ha
    )

below : (t : Table) (p : List ℕ) (d : Data) → object_faults (table_faults 3 t) p d ≡ [] → object_faults (table_faults 3 t) p (kept_of t d) ≡ []
below = table_clean (λ n. kept_of) (λ n. is_object) (λ n t p d h. found (table_faults n) t p d h) 3

top_clean : (t : Table) (tree kept : Data) → Found kept_of (rows_of t) kept tree → table_faults 4 t [] tree ≡ [] → table_faults 4 t [] kept ≡ []
top_clean t tree kept has h = level_clean (table_faults 3) kept_of is_object below t [] kept tree has h

typed_clean : (schema : Schema) (tree kept : Data) → Has (content_of schema tree) kept → typed_faults schema tree ≡ [] → typed_faults schema kept ≡ []
unfolding content_of rows_faults part_faults
typed_clean Open tree kept has h = refl
typed_clean Role tree kept has h = top_clean table.Role tree kept (role_found tree kept has) h
typed_clean ClusterRole tree kept has h = top_clean table.ClusterRole tree kept (cluster_role_found tree kept has) h
typed_clean RoleBinding tree kept has h = top_clean table.RoleBinding tree kept (binding_found (object_faults (table_faults 3 table.RoleRef)) (codes "roleRef") tree kept has (parts _ _ h).0) h
typed_clean ClusterRoleBinding tree kept has h = top_clean table.ClusterRoleBinding tree kept (binding_found (object_faults (table_faults 3 table.ClusterRoleRef)) (codes "roleRef") tree kept has (parts _ _ h).0) h

-- ---- the whole

pub kept_tree_has_no_fault : (row : ResourceRow) (tree : Data) → faults_on row.schema tree ≡ [] → faults_on row.schema (kept_tree row tree) ≡ []
unfolding faults_on
kept_tree_has_no_fault row tree h =
    let hs : (faults_of tree ≡ []) × (typed_faults row.schema tree ≡ []) = parts (faults_of tree) (typed_faults row.schema tree) h in
    both (faults_of (kept_tree row tree)) (typed_faults row.schema (kept_tree row tree)) (metadata_clean row tree hs.0)
    (typed_clean row.schema tree (kept_tree row tree) (has_content row tree) hs.1)

-- a list of length 0 is empty
pub none_if : {X : Type 0} (xs : List X) → (length xs == 0) ≡ true → xs ≡ []
none_if [] h = refl
none_if (x ∷ xs) h = absurd (true≢false (sym h ∙ eqb-suc-zero (length xs)))
