-- What stands in a tree where a text was set in its metadata.
use Rattle.std.proofs.Common.{◌≡◌, ◌∙◌, ℕ, List, Option, None, Some, true, false, bytes_eq, codes, refl, ap}
use Rattle.std.specs.Option.{option_and_then}
use Rattle.serde_json.proofs.Views.{get_member-put}
use Rattle.serde_json.specs.Data.{Data, string, object, Members, put}
use Rattle.serde_json.specs.Find.{get, get_member}
use Rattle.kapi_object.proofs.Closed.{metadata_hold}
use Rattle.kapi_object.proofs.Ordered.{keys_in_order}
use Rattle.kapi_object.proofs.Puts.{put_other, put_there}
use Rattle.kapi_object.specs.Order.{in_order, is_ordered}
use Rattle.kapi_object.specs.Tree.{in_metadata, members_or_none, metadata_of, with_text}

-- the members of an object have its values
pub in_object : (key : List ℕ) (d : Data) → get_member key (members_or_none (Some d)) ≡ get key d
in_object key (object ms) = refl
in_object key _ = refl

pub in_members : (key : List ℕ) (o : Option Data) → get_member key (members_or_none o) ≡ option_and_then (get key) o
in_members key None = refl
in_members key (Some d) = in_object key d

-- other members stay
pub beside_metadata : (key k t : List ℕ) (d : Data) → bytes_eq key (codes "metadata") ≡ false → get key (with_text k t d) ≡ get key d
beside_metadata key k t d h =
    put_other key (codes "metadata") (object (put k (string t) (metadata_of d))) (members_or_none (Some d)) h ∙ in_object key d

in_metadata_put : (key k t : List ℕ) (d : Data) → in_metadata key (with_text k t d) ≡ get_member key (put k (string t) (metadata_of d))
in_metadata_put key k t d =
    ap (option_and_then (get key)) (get_member-put (codes "metadata") (object (put k (string t) (metadata_of d))) (members_or_none (Some d)))

-- the text is there
pub text_set : (k t : List ℕ) (d : Data) → in_metadata k (with_text k t d) ≡ Some (string t)
text_set k t d = in_metadata_put k k t d ∙ get_member-put k (string t) (metadata_of d)

-- the metadata's other members stay
pub in_text : (key k t : List ℕ) (d : Data) → bytes_eq key k ≡ false → in_metadata key (with_text k t d) ≡ in_metadata key d
in_text key k t d h = in_metadata_put key k t d ∙ put_other key k (string t) (metadata_of d) h ∙ in_members key (get (codes "metadata") d)

put_again : (key text : List ℕ) (ms : Members) (o : Option Data) → get_member (codes "metadata") ms ≡ o → in_order ms ≡ true → in_order (members_or_none o) ≡ true
    → option_and_then (get key) o ≡ Some (string text) → put (codes "metadata") (object (put key (string text) (members_or_none o))) ms ≡ ms
put_again key text ms None is h ho there = absurd (cc there)
put_again key text ms (Some (object found)) is h ho there =
    rw (put_there key (string text) found ho there) (put_there (codes "metadata") (object found) ms h is)
put_again key text ms (Some _) is h ho there = absurd (cc there)

-- a text that is there already changes nothing
pub text_set_again : (key text : List ℕ) (d : Data) → is_ordered d ≡ true → in_metadata key d ≡ Some (string text) → with_text key text d ≡ d
text_set_again key text (object ms) h there =
    ap object (put_again key text ms (get_member (codes "metadata") ms) refl h (metadata_hold keys_in_order 0 (object ms) h) there)
text_set_again key text _ h there = absurd (cc there)
