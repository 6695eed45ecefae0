-- Lists and texts without faults have none as they are kept.
use Rattle.std.proofs.Common.{◌≡◌, ℕ, ◌+◌, List, [], ◌∷◌, ◌++◌, false, Option, Some, None, refl}
use Rattle.serde_json.specs.Data.{Data, string, array, Items, no_items, item}
use Rattle.kapi_object.specs.Contents.{items_if, list_value, read_items, write_items, text_of}
use Rattle.kapi_object.specs.Typed.{need_faults, is_given, items_faults, list_faults, text_faults, text_item_faults, item_path}
use Rattle.kapi_object.specs.Tree.{is_empty}
use Rattle.kapi_model.specs.declared.fault.FieldFault.{FieldFault}
use Rattle.kapi_object.specs.declared.text_rule.TextRule.{TextRule}
use Rattle.kapi_object.specs.declared.typed_list.Presence.{Presence as ListNeed}

-- two lists that are empty together, and each of them
pub parts : {A : Type 0} (xs ys : List A) → xs ++ ys ≡ [] → (xs ≡ []) × (ys ≡ [])
parts [] ys h = (refl, h)
parts (x ∷ xs) ys h = absurd (cc h)

pub both : {A : Type 0} (xs ys : List A) → xs ≡ [] → ys ≡ [] → xs ++ ys ≡ []
both xs ys hx hy = rw (hx, hy) refl

-- ---- lists

abbrev Faults : Type 0
Faults = List ℕ → Data → List FieldFault

module _ {X : Type 0} (r : Data → X) (w : X → Data) where
  pub items_clean : (f : Faults) → ((p : List ℕ) (d : Data) → f p d ≡ [] → f p (w (r d)) ≡ [])
      → (p : List ℕ) (i : ℕ) (ds : Items) → items_faults f p i ds ≡ [] → items_faults f p i (write_items w (read_items r ds)) ≡ []
  unfolding items_faults
  items_clean f c p i no_items h = refl
  items_clean f c p i (item d ds) h =
      let hs : (f (item_path p i) d ≡ []) × (items_faults f p (i + 1) ds ≡ []) = parts (f (item_path p i) d) (items_faults f p (i + 1) ds) h in
      both (f (item_path p i) (w (r d))) (items_faults f p (i + 1) (write_items w (read_items r ds))) (c (item_path p i) d hs.0) (items_clean f c p (i + 1) ds hs.1)

  same_length : (ds : Items) → is_empty (write_items w (read_items r ds)) ≡ is_empty ds
  same_length no_items = refl
  same_length (item d ds) = refl

-- what a list without faults says of itself and of its elements
pub list_parts : (f : Faults) (n : ListNeed) (p : List ℕ) (o : Option Data) → list_faults f n p o ≡ []
    → (need_faults n (is_empty (items_if o)) p ≡ []) × (items_faults f p 0 (items_if o) ≡ [])
unfolding list_faults items_faults
list_parts f n p None h = (h, refl)
list_parts f n p (Some (array ds)) h = parts (need_faults n (is_empty ds) p) (items_faults f p 0 ds) h
list_parts f n p (Some _) h = absurd (cc h)

pub listed_clean : (f : Faults) (n : ListNeed) (p : List ℕ) (ds : Items) → need_faults n (is_empty ds) p ≡ [] → items_faults f p 0 ds ≡ [] → list_faults f n p (list_value ds) ≡ []
unfolding list_faults
listed_clean f n p no_items hn hi = hn
listed_clean f n p (item d ds) hn hi = both (need_faults n false p) (items_faults f p 0 (item d ds)) hn hi

pub array_clean : (f : Faults) (n : ListNeed) (p : List ℕ) (ds : Items) → need_faults n (is_empty ds) p ≡ [] → items_faults f p 0 ds ≡ [] → list_faults f n p (Some (array ds)) ≡ []
unfolding list_faults
array_clean f n p ds hn hi = both (need_faults n (is_empty ds) p) (items_faults f p 0 ds) hn hi

-- the list as it is kept: read, and written
module _ {X : Type 0} (r : Data → X) (w : X → Data) where
  pub kept_clean : (f : Faults) (n : ListNeed) (p : List ℕ) (o : Option Data) → ((q : List ℕ) (d : Data) → f q d ≡ [] → f q (w (r d)) ≡ [])
      → list_faults f n p o ≡ [] → (need_faults n (is_empty (write_items w (read_items r (items_if o)))) p ≡ []) × (items_faults f p 0 (write_items w (read_items r (items_if o))) ≡ [])
  kept_clean f n p o c h =
      let hs : (need_faults n (is_empty (items_if o)) p ≡ []) × (items_faults f p 0 (items_if o) ≡ []) = list_parts f n p o h in
      (rw (same_length r w (items_if o)) hs.0, items_clean r w f c p 0 (items_if o) hs.1)

  -- whether a list is given stays as it is
  pub given_same : (f : Faults) (n : ListNeed) (p : List ℕ) (o : Option Data) → list_faults f n p o ≡ [] → is_given (list_value (write_items w (read_items r (items_if o)))) ≡ is_given o
  unfolding list_faults
  given_same f n p None h = refl
  given_same f n p (Some (array no_items)) h = refl
  given_same f n p (Some (array (item d ds))) h = refl
  given_same f n p (Some _) h = absurd (cc h)

-- ---- texts

pub text_clean : (r : TextRule) (p : List ℕ) (d : Data) → text_item_faults r p d ≡ [] → text_item_faults r p (string (text_of d)) ≡ []
unfolding text_faults
text_clean r p (string s) h = h
text_clean r p _ h = absurd (cc h)
