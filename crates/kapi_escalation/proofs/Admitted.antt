-- What a write sets in an object leaves it of its resource type and without faults.
use Rattle.std.proofs.Common.{◌≡◌, ◌∙◌, ℕ, List, [], ◌∷◌, ◌++◌, Bool, true, false, not, ◌||◌, Some, refl, sym, ap, true≢false, codes, length, ◌==◌, bytes_eq, if◌then◌else◌}
use Rattle.std.proofs.lemmas.Map.Text.{is_eq-slice_cmp}
use Rattle.std.proofs.lemmas.Slice.Eq.{bytes_eq-Decides}
use Rattle.std.specs.Cmp.Lexicographic.{slice_cmp}
use Rattle.std.specs.Option.{option_and_then}
use Rattle.std.specs.Ordering.{nat_cmp, is_eq, match_ordering}
use Rattle.std.specs.declared.cmp.Ordering.{Ordering}
use Rattle.std.specs.declared.cmp.Ordering.TheVariants.{Less, Equal, Greater}
use Rattle.serde_json.proofs.Views.{get_member-put}
use Rattle.serde_json.specs.Data.{Data, string, object, Members, no_members, member, put}
use Rattle.serde_json.specs.Find.{get, get_member}
use Rattle.kapi_model.specs.declared.row.ResourceRow.{ResourceRow}
use Rattle.kapi_model.specs.declared.row.Schema.{Schema}
use Rattle.kapi_model.specs.declared.row.Schema.TheVariants as schema
use Rattle.kapi_object.proofs.Puts.{put_other}
use Rattle.kapi_object.specs.Contents.{content_of, text_if}
use Rattle.kapi_object.specs.Object.{stamped_tree}
use Rattle.kapi_object.specs.Tree.{in_metadata, member_of, members_or_none, metadata_of, unless_null, with_text, without, without_member}
use Rattle.kapi_object.proofs.Clean.{kept_tree_has_no_fault}
use Rattle.kapi_object.proofs.CleanLists.{parts, both}
use Rattle.kapi_object.specs.Admission.{faults_on, kept_metadata, kept_tree, version_of}
use Rattle.kapi_object.specs.Faults.{entries_faults, faults_in, faults_of, field_of, key_of, metadata_faults}
use Rattle.kapi_object.specs.Shapes.{Says, chosen, part_faults, passes, row_faults, rows_faults, table_faults, typed_faults}
use Rattle.kapi_object.specs.Tables.{rows_of, word_text}
use Rattle.kapi_object.specs.Typed.{is_given, is_right, member_path}
use Rattle.kapi_object.specs.declared.metadata.Entries.{Entries}
use Rattle.kapi_object.specs.declared.metadata.Entries.TheVariants.{Labels, Annotations}
use Rattle.kapi_object.specs.declared.table.Choice.{Choice}
use Rattle.kapi_object.specs.declared.table.Choice.TheVariants.{One, Two, Three}
use Rattle.kapi_object.specs.declared.table.Row.{Row}
use Rattle.kapi_object.specs.declared.table.Table.TheVariants as table
use Rattle.kapi_object.specs.declared.table.When.{When}
use Rattle.kapi_object.specs.declared.table.When.TheVariants as when
use Rattle.kapi_object.specs.declared.word.Word.{Word}
use Rattle.kapi_object.specs.declared.word.Word.TheVariants as word
use Rattle.kapi_object.proofs.SetTexts.{beside_metadata, in_text}
use Rattle.kapi_escalation.specs.Admitted.{IsObjectOf}

-- ---- trees that have the same members of all words have the same faults

module _ (a b : Data) (same : (w : Word) → member_of (word_text w) a ≡ member_of (word_text w) b) where
  passes_same : (w : When) → passes w a ≡ passes w b
  passes_same (when.Given key) = ap is_given (same key)
  passes_same (when.Filled key) = ap (λ o. not (length (text_if o) == 0)) (same key)
  passes_same (when.Says key one other) = ap (λ o. bytes_eq (text_if o) (word_text one) || bytes_eq (text_if o) (word_text other)) (same key)
  passes_same (when.Keeps key rule) = ap (λ o. is_right rule (text_if o)) (same key)

  chosen_same : (c : Choice) → chosen c a ≡ chosen c b
  chosen_same (One p) = refl
  chosen_same (Two w p q) = ap (λ x. if x then p else q) (passes_same w)
  chosen_same (Three w p v q r) =
      ap (λ x. if x then p else (if passes v a then q else r)) (passes_same w) ∙ ap (λ x. if passes w b then p else (if x then q else r)) (passes_same v)

  row_same : (f : Says) (r : Row) (p : List ℕ) → row_faults f r p a ≡ row_faults f r p b
  row_same f r p =
      ap (λ c. part_faults f c (member_path p (word_text r.0)) (member_of (word_text r.0) a)) (chosen_same r.1)
      ∙ ap (part_faults f (chosen r.1 b) (member_path p (word_text r.0))) (same r.0)

  rows_same : (f : Says) (rs : List Row) (p : List ℕ) → rows_faults f rs p a ≡ rows_faults f rs p b
  unfolding rows_faults
  rows_same f [] p = refl
  rows_same f (r ∷ rs) p = ap (λ l. l ++ rows_faults f rs p a) (row_same f r p) ∙ ap (λ l. row_faults f r p b ++ l) (rows_same f rs p)

  typed_same : (s : Schema) → typed_faults s a ≡ typed_faults s b
  typed_same schema.Open = refl
  typed_same schema.Role = rows_same (table_faults 3) (rows_of table.Role) []
  typed_same schema.ClusterRole = rows_same (table_faults 3) (rows_of table.ClusterRole) []
  typed_same schema.RoleBinding = rows_same (table_faults 3) (rows_of table.RoleBinding) []
  typed_same schema.ClusterRoleBinding = rows_same (table_faults 3) (rows_of table.ClusterRoleBinding) []

-- ---- a text in the metadata

no_word : (w : Word) → bytes_eq (word_text w) (codes "metadata") ≡ false
no_word word.Rules = refl
no_word _ = refl

entries_same : (sort : Entries) (k t : List ℕ) (d : Data) → bytes_eq (key_of sort) k ≡ false → faults_in sort (with_text k t d) ≡ faults_in sort d
entries_same sort k t d h = ap (λ o. entries_faults sort (field_of sort) (option_and_then unless_null o)) (in_text (key_of sort) k t d h)

metadata_right : (k t : List ℕ) (d : Data) → metadata_faults (member_of (codes "metadata") (with_text k t d)) ≡ []
metadata_right k t d =
    ap (λ o. metadata_faults (option_and_then unless_null o)) (get_member-put (codes "metadata") (object (put k (string t) (metadata_of d))) (members_or_none (Some d)))

metadata_sound : (k t : List ℕ) (d : Data) → bytes_eq (codes "labels") k ≡ false → bytes_eq (codes "annotations") k ≡ false → faults_of d ≡ [] → faults_of (with_text k t d) ≡ []
unfolding faults_of
metadata_sound k t d labels annotations h =
    let outer : ((metadata_faults (member_of (codes "metadata") d) ++ faults_in Labels d) ≡ []) × (faults_in Annotations d ≡ []) =
    parts (metadata_faults (member_of (codes "metadata") d) ++ faults_in Labels d) (faults_in Annotations d) h in
    let inner : (metadata_faults (member_of (codes "metadata") d) ≡ []) × (faults_in Labels d ≡ []) =
    parts (metadata_faults (member_of (codes "metadata") d)) (faults_in Labels d) outer.0 in
    let e : Data = with_text k t d in
    both (metadata_faults (member_of (codes "metadata") e) ++ faults_in Labels e) (faults_in Annotations e)
    (both (metadata_faults (member_of (codes "metadata") e)) (faults_in Labels e) (metadata_right k t d) (entries_same Labels k t d labels ∙ inner.1))
    (entries_same Annotations k t d annotations ∙ outer.1)

pub text_sound : (s : Schema) (k t : List ℕ) (d : Data) → bytes_eq (codes "labels") k ≡ false → bytes_eq (codes "annotations") k ≡ false → faults_on s d ≡ [] → faults_on s (with_text k t d) ≡ []
unfolding faults_on
text_sound s k t d labels annotations h =
    let hs : (faults_of d ≡ []) × (typed_faults s d ≡ []) = parts (faults_of d) (typed_faults s d) h in
    both (faults_of (with_text k t d)) (typed_faults s (with_text k t d)) (metadata_sound k t d labels annotations hs.0)
    (typed_same (with_text k t d) d (λ w. ap (option_and_then unless_null) (beside_metadata (word_text w) k t d (no_word w))) s ∙ hs.1)

text_kept : (row : ResourceRow) (k t : List ℕ) (d : Data) → bytes_eq (codes "labels") k ≡ false → bytes_eq (codes "annotations") k ≡ false → IsObjectOf row d → IsObjectOf row (with_text k t d)
text_kept row k t d labels annotations h = record {
  kind = beside_metadata (codes "kind") k t d refl ∙ h.kind;
  version = beside_metadata (codes "apiVersion") k t d refl ∙ h.version;
  clean = text_sound row.schema k t d labels annotations h.clean;
}

pub stamps_sound : (s : Schema) (uid version : List ℕ) (d : Data) → faults_on s d ≡ [] → faults_on s (stamped_tree uid version d) ≡ []
stamps_sound s uid version d h =
    text_sound s (codes "resourceVersion") version (with_text (codes "uid") uid d) refl refl (text_sound s (codes "uid") uid d refl refl h)

pub stamps_kept : (row : ResourceRow) (uid version : List ℕ) (d : Data) → IsObjectOf row d → IsObjectOf row (stamped_tree uid version d)
stamps_kept row uid version d h =
    text_kept row (codes "resourceVersion") version (with_text (codes "uid") uid d) refl refl (text_kept row (codes "uid") uid d refl refl h)

pub place_kept : (row : ResourceRow) (namespace : List ℕ) (d : Data) → IsObjectOf row d → IsObjectOf row (with_text (codes "namespace") namespace d)
place_kept row namespace d h = text_kept row (codes "namespace") namespace d refl refl h

-- ---- a status

no_status : (w : Word) → bytes_eq (word_text w) (codes "status") ≡ false
no_status word.Rules = refl
no_status _ = refl

-- trees that differ in their status alone
module _ (a b : Data) (same : (q : List ℕ) → bytes_eq q (codes "status") ≡ false → get q a ≡ get q b) where
  in_same : (q : List ℕ) → in_metadata q a ≡ in_metadata q b
  in_same q = ap (option_and_then (get q)) (same (codes "metadata") refl)

  of_same : faults_of a ≡ faults_of b
  unfolding faults_of
  of_same =
      ap (λ o. (metadata_faults (option_and_then unless_null o) ++ faults_in Labels a) ++ faults_in Annotations a) (same (codes "metadata") refl)
      ∙ ap (λ o. (metadata_faults (member_of (codes "metadata") b) ++ entries_faults Labels (field_of Labels) (option_and_then unless_null o)) ++ faults_in Annotations a) (in_same (key_of Labels))
      ∙ ap (λ o. (metadata_faults (member_of (codes "metadata") b) ++ faults_in Labels b) ++ entries_faults Annotations (field_of Annotations) (option_and_then unless_null o)) (in_same (key_of Annotations))

  on_same : (s : Schema) → faults_on s a ≡ faults_on s b
  unfolding faults_on
  on_same s =
      ap (λ l. l ++ typed_faults s a) of_same
      ∙ ap (λ l. faults_of b ++ l) (typed_same a b (λ w. ap (option_and_then unless_null) (same (word_text w) (no_status w))) s)

  same_kept : (row : ResourceRow) → IsObjectOf row b → IsObjectOf row a
  same_kept row h = record {
    kind = same (codes "kind") refl ∙ h.kind;
    version = same (codes "apiVersion") refl ∙ h.version;
    clean = on_same row.schema ∙ h.clean;
  }

skips : (q k : List ℕ) (d : Data) (ms : Members) → bytes_eq q k ≡ false → get_member q (member k d ms) ≡ get_member q ms
skips q k d ms h =
    let P : Ordering → Type 0 = λ o. is_eq o ≡ false → match_ordering o (get_member q ms) (Some d) (get_member q ms) ≡ get_member q ms in
    let cases : P (slice_cmp nat_cmp q k) = elim (slice_cmp nat_cmp q k) as P [ Less ↦ λ i. refl | Equal ↦ λ i. absurd (true≢false i) | Greater ↦ λ i. refl ] in
    cases (is_eq-slice_cmp q k ∙ h)

other_than : (q k l : List ℕ) → bytes_eq q k ≡ false → bytes_eq k l ≡ true → bytes_eq q l ≡ false
other_than q k l h is = ap (bytes_eq q) (sym ((bytes_eq-Decides k l).0 is)) ∙ h

-- another member stays if one is taken out
pub without_other : (q k : List ℕ) (ms : Members) → bytes_eq q k ≡ false → get_member q (without k ms) ≡ get_member q ms
without_other q k no_members h = refl
without_other q k (member l d ms) h = by_case (bytes_eq k l) refl (without_other q k ms h)
  where
    by_case : (b : Bool) → bytes_eq k l ≡ b → get_member q (without k ms) ≡ get_member q ms
        → get_member q (if not b then member l d (without k ms) else without k ms) ≡ get_member q (member l d ms)
    by_case true is rest = rest ∙ sym (skips q l d ms (other_than q k l h is))
    by_case false is rest = ap (λ r. match_ordering (slice_cmp nat_cmp q l) r (Some d) r) rest

without_same : (d : Data) (q : List ℕ) → bytes_eq q (codes "status") ≡ false → get q (without_member (codes "status") d) ≡ get q d
without_same (object ms) q h = without_other q (codes "status") ms h
without_same _ q h = refl

pub without_kept : (row : ResourceRow) (d : Data) → IsObjectOf row d → IsObjectOf row (without_member (codes "status") d)
without_kept row d h = same_kept (without_member (codes "status") d) d (without_same d) row h

pub status_kept : (row : ResourceRow) (status : Data) (ms : Members) → IsObjectOf row (object ms) → IsObjectOf row (object (put (codes "status") status ms))
status_kept row status ms h = same_kept (object (put (codes "status") status ms)) (object ms) (λ q e. put_other q (codes "status") status ms e) row h

-- ---- what is admitted

pub admitted_is : (row : ResourceRow) (body : Data) → faults_on row.schema body ≡ [] → IsObjectOf row (kept_tree row body)
unfolding kept_tree
admitted_is row body h =
    let content : Members = content_of row.schema body in
    let versioned : Members = put (codes "apiVersion") (string (version_of row)) content in
    let named : Members = put (codes "kind") (string row.kind) versioned in
    record {
      kind = put_other (codes "kind") (codes "metadata") (object (kept_metadata row body)) named refl ∙ get_member-put (codes "kind") (string row.kind) versioned;
      version =
          put_other (codes "apiVersion") (codes "metadata") (object (kept_metadata row body)) named refl
          ∙ put_other (codes "apiVersion") (codes "kind") (string row.kind) versioned refl
          ∙ get_member-put (codes "apiVersion") (string (version_of row)) content;
      clean = kept_tree_has_no_fault row body h;
    }
