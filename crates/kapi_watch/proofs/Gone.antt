-- Objects with the same labels are watched alike, and an object that a watch sees go has its text in the change.
use Rattle.std.proofs.Common.{◌≡◌, ◌∙◌, ◌&&◌, ℕ, List, Bool, true, false, if◌then◌else◌, Option, None, Some, is_some, option_map, codes, refl, sym, ap, subst}
use Rattle.serde_json.specs.Data.{Data}
use Rattle.kapi_model.specs.Selector.{label_in, matches_values, value_in}
use Rattle.kapi_model.specs.declared.selector.Label.{Label}
use Rattle.kapi_object.specs.Tree.{in_metadata}
use Rattle.kapi_store.proofs.Labelled.{told_ordered, values_kept}
use Rattle.kapi_store.specs.Listing.{is_listed, is_within}
use Rattle.kapi_store.specs.Stored.{stored_tree}
use Rattle.kapi_store.specs.Labels.{labels_of}
use Rattle.kapi_store.specs.declared.change.Change.{Change}
use Rattle.kapi_store.specs.declared.key.Key.{Key}
use Rattle.kapi_store.specs.declared.stored.StoredObject.{StoredObject}
use Rattle.kapi_watch.specs.Shown.{selected}
use Rattle.kapi_watch.specs.declared.scope.WatchScope.{WatchScope}

-- the values of the labels that are kept are those of the object
labels_told : (o : StoredObject) → value_in (labels_of (stored_tree o)) ≡ label_in (in_metadata (codes "labels") (stored_tree o))
labels_told o = values_kept (stored_tree o) (told_ordered o.text o.reads)

-- objects with the same labels are watched alike
listed_alike : (s : WatchScope) (k : Key) (old new : StoredObject) → labels_of (stored_tree new) ≡ labels_of (stored_tree old)
    → is_listed s.row s.namespace s.selector s.name k (stored_tree new) ≡ is_listed s.row s.namespace s.selector s.name k (stored_tree old)
unfolding is_listed
listed_alike s k old new same =
    ap (λ at. is_within s.row s.namespace s.name k && matches_values s.selector at) (sym (labels_told new) ∙ ap value_in same ∙ labels_told old)

chosen : (b : Bool) (d e : Data) → (if b then Some d else None) ≡ (if is_some (if b then Some e else None) then Some d else None)
chosen true d e = refl
chosen false d e = refl

same_labels : (a b : List Label) → Some a ≡ Some b → a ≡ b
same_labels a b is = cc is

stays_watched : (s : WatchScope) (k : Key) (old : StoredObject) (new : Option StoredObject) → option_map (λ n. labels_of (stored_tree n)) new ≡ Some (labels_of (stored_tree old))
    → selected s k (Some (stored_tree old)) ≡ (if is_some (selected s k (option_map stored_tree new)) then Some (stored_tree old) else None)
stays_watched s k old None same = absurd (cc same)
stays_watched s k old (Some new) same =
    rw (listed_alike s k old new (same_labels _ _ same)) (chosen _ (stored_tree old) (stored_tree new))

no_text : (o : Option (List ℕ)) → is_some o ≡ false → o ≡ None
no_text None h = refl
no_text (Some t) h = absurd (cc h)

-- the object before a change by which labels stay was watched if the one after it is
pub watched_alike : (s : WatchScope) (c : Change) (b : Bool) (old : StoredObject) → is_some c.gone ≡ false → b ≡ is_some (selected s c.key (option_map stored_tree c.new))
    → c.old ≡ Some old → (if b then Some (stored_tree old) else None) ≡ selected s c.key (option_map stored_tree c.old)
watched_alike s c b old none after was = rw (was, after) (sym (stays_watched s c.key old c.new (c.stays old was (no_text c.gone none))))

-- what is selected is listed, and what is not is not
is_chosen : (b : Bool) (d : Data) → (if b then Some d else None) ≡ Some d → b ≡ true
is_chosen true d h = refl
is_chosen false d h = absurd (cc h)

is_passed : (b : Bool) (d : Data) → (if b then Some d else None) ≡ None → b ≡ false
is_passed true d h = absurd (cc h)
is_passed false d h = refl

apart : (a b : Bool) → a ≡ true → b ≡ false → b ≡ a → ⊥
apart a b h g e = cc (h, g, e)

-- what stays with its labels is no less watched
still_there : (s : WatchScope) (k : Key) (old : StoredObject) (new : Option StoredObject) → selected s k (Some (stored_tree old)) ≡ Some (stored_tree old) → selected s k (option_map stored_tree new) ≡ None
    → option_map (λ n. labels_of (stored_tree n)) new ≡ Some (labels_of (stored_tree old)) → ⊥
still_there s k old None was gone same = cc same
still_there s k old (Some new) was gone same =
    apart _ _ (is_chosen _ (stored_tree old) was) (is_passed _ (stored_tree new) gone) (listed_alike s k old new (same_labels _ _ same))

-- the object before a change
was_there : (o : Option StoredObject) (d : Data) → option_map stored_tree o ≡ Some d → (s : StoredObject) × (o ≡ Some s) × (stored_tree s ≡ d)
was_there None d h = absurd (cc h)
was_there (Some s) d h = (s, refl, inside _ _ h)
  where
    inside : (a b : Data) → Some a ≡ Some b → a ≡ b
    inside a b is = cc is

-- a change that a watch sees an object go by has the object's text
pub has_text : (s : WatchScope) (c : Change) (old : Data) → option_map stored_tree c.old ≡ Some old → selected s c.key (Some old) ≡ Some old → selected s c.key (option_map stored_tree c.new) ≡ None
    → c.gone ≡ None → ⊥
has_text s c old was watched gone none =
    let before = was_there c.old old was in
    let P : Data → Type 0 = λ d. selected s c.key (Some d) ≡ Some d in
    still_there s c.key before.0 c.new (subst P (sym before.2) watched) gone (c.stays before.0 before.1 none)
