-- An object whose unique id and version are set over others.
use Rattle.std.proofs.Common.{◌≡◌, ◌∙◌, ℕ, List, Some, true, nat_cmp, refl, sym, ap, codes}
use Rattle.std.specs.Cmp.{tied_itself}
use Rattle.std.specs.Cmp.Lexicographic.{slice_cmp, nat_list_cmp_total}
use Rattle.std.specs.Fmt.{decimal}
use Rattle.std.specs.Ordering.{match_ordering}
use Rattle.std.specs.declared.cmp.Ordering.TheVariants.{Less, Equal, Greater}
use Rattle.serde_json.proofs.Views.{get_member-put}
use Rattle.serde_json.specs.Data.{Data, string, object, Members, no_members, member, put}
use Rattle.serde_json.specs.Find.{get_member}
use Rattle.kapi_object.proofs.Closed.{with_text_holds}
use Rattle.kapi_object.proofs.SetTexts.{text_set_again}
use Rattle.kapi_object.proofs.Ordered.{keys_in_order}
use Rattle.kapi_object.specs.Object.{stamped_tree}
use Rattle.kapi_object.specs.Order.{is_ordered}
use Rattle.kapi_object.specs.Tree.{in_metadata, members_or_none, metadata_of, with_text}
use Rattle.kapi_store.proofs.Stamped.{uid_there}
use Rattle.kapi_store.proofs.Versions.{text_there}
use Rattle.kapi_store.specs.UidAndVersion.{uid_in, version_in, with_stamps_of, replaced_tree}

-- a value that is put over another
put_over : (k : List ℕ) (d e : Data) (ms : Members) → put k d (put k e ms) ≡ put k d ms
put_over k d e no_members = rw (tied_itself nat_list_cmp_total k) refl
put_over k d e (member l f ms) =
    elim (slice_cmp nat_cmp k l) as (λ o. slice_cmp nat_cmp k l ≡ o → put k d (match_ordering o (member k e (member l f ms)) (member l e ms) (member l f (put k e ms)))
    ≡ match_ordering o (member k d (member l f ms)) (member l d ms) (member l f (put k d ms))) [
      | Less ↦ λ is. rw (tied_itself nat_list_cmp_total k) refl
      | Equal ↦ λ is. rw is refl
      | Greater ↦ λ is. rw is (ap (member l f) (put_over k d e ms))
    ] refl

metadata_put : (ms : Members) (o : Members) → members_or_none (get_member (codes "metadata") (put (codes "metadata") (object ms) o)) ≡ ms
metadata_put ms o = ap members_or_none (get_member-put (codes "metadata") (object ms) o)

-- a text that is set over another
text_over : (k s t : List ℕ) (d : Data) → with_text k s (with_text k t d) ≡ with_text k s d
text_over k s t d =
    let ms = metadata_of d in
    let all = members_or_none (Some d) in
    ap (λ inner. object (put (codes "metadata") (object (put k (string s) inner)) (put (codes "metadata") (object (put k (string t) ms)) all))) (metadata_put (put k (string t) ms) all)
    ∙ ap object (put_over (codes "metadata") (object (put k (string s) (put k (string t) ms))) (object (put k (string t) ms)) all)
    ∙ ap (λ inner. object (put (codes "metadata") (object inner) all)) (put_over k (string s) (string t) ms)

stamped_ordered : (uid version : List ℕ) (d : Data) → is_ordered d ≡ true → is_ordered (stamped_tree uid version d) ≡ true
stamped_ordered uid version d h = with_text_holds keys_in_order 0 (codes "resourceVersion") version (with_text (codes "uid") uid d) (with_text_holds keys_in_order 0 (codes "uid") uid d h)

-- another version over an object that has the unique id
stamped_over : (uid v w : List ℕ) (d : Data) → is_ordered d ≡ true → stamped_tree uid v (stamped_tree uid w d) ≡ stamped_tree uid v d
stamped_over uid v w d h =
    let there = text_there (in_metadata (codes "uid") (stamped_tree uid w d)) uid (uid_there uid w d) in
    ap (with_text (codes "resourceVersion") v) (text_set_again (codes "uid") uid (stamped_tree uid w d) (stamped_ordered uid w d h) there)
    ∙ text_over (codes "resourceVersion") v w (with_text (codes "uid") uid d)

-- a replacement is the object with the old one's unique id, and a new version
pub replaced_once : (n : ℕ) (old tree : Data) → is_ordered tree ≡ true → stamped_tree (uid_in old) (decimal n) tree ≡ replaced_tree n old tree
replaced_once n old tree h = sym (stamped_over (uid_in old) (decimal n) (version_in old) tree h)

-- what was replaced has the old one's stamps again
pub stamps_again : (n : ℕ) (old tree : Data) → is_ordered tree ≡ true → with_stamps_of old (replaced_tree n old tree) ≡ with_stamps_of old tree
stamps_again n old tree h =
    ap (with_stamps_of old) (sym (replaced_once n old tree h)) ∙ stamped_over (uid_in old) (version_in old) (decimal n) tree h

-- and it is replaced as it was
pub replaced_again : (n : ℕ) (old tree : Data) → is_ordered tree ≡ true → replaced_tree n old (with_stamps_of old tree) ≡ replaced_tree n old tree
replaced_again n old tree h = ap (stamped_tree (uid_in old) (decimal n)) (stamped_over (uid_in old) (version_in old) (version_in old) tree h)
