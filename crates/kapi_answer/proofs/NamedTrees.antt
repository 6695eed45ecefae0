-- What is written at a place has the namespace and the name of that place.
use Rattle.std.proofs.Common.{◌≡◌, ℕ, Bool, true, false, List, [], ◌∷◌, Option, None, Some, Ok, codes, bytes_eq, if◌then◌else◌, refl, sym, ap, ◌∙◌, subst}
use Rattle.std.specs.Option.{option_and_then, unwrap_or}
use Rattle.serde_json.proofs.Views.{get_member-put}
use Rattle.serde_json.specs.Data.{Data, null, boolean, number, string, array, object, put}
use Rattle.serde_json.specs.Find.{as_str, get}
use Rattle.kapi_model.specs.declared.row.ResourceRow.{ResourceRow}
use Rattle.kapi_object.proofs.Puts.{put_if_other}
use Rattle.kapi_object.specs.Given.{given_of, text_given}
use Rattle.kapi_object.specs.Tree.{in_metadata, members_or_none, metadata_of, unless_null, with_member_of, with_text, without, without_member}
use Rattle.kapi_object.specs.declared.body_fields.GivenText.TheVariants as given
use Rattle.kapi_escalation.proofs.Admitted.{without_other}
use Rattle.kapi_answer.specs.declared.route.ObjectPart.{ObjectPart}
use Rattle.kapi_answer.specs.declared.route.ObjectPart.TheVariants as part
use Rattle.kapi_store.specs.UidAndVersion.{metadata_text}
use Rattle.kapi_store.specs.declared.key.Key.{Key}
use Rattle.kapi_object.proofs.SetTexts.{in_object, in_text}
use Rattle.kapi_watch.specs.Histories.{IsNamedBy}
use Rattle.kapi_answer.specs.Create.{with_namespace_on, in_namespace, in_place, key_of, without_status}
use Rattle.kapi_answer.specs.Update.{keeping_status, replacing}

-- ---- what the metadata gives is what it tells

text_told : (d : Data) (t : List ℕ) → text_given (unless_null d) ≡ given.Text t → unwrap_or (as_str d) [] ≡ t
text_told (string s) t is = let same : s ≡ t = cc in same
text_told null t is = absurd (cc is)
text_told (boolean b) t is = absurd (cc is)
text_told (number n) t is = absurd (cc is)
text_told (array ds) t is = absurd (cc is)
text_told (object ms) t is = absurd (cc is)

given_told : (o : Option Data) (t : List ℕ) → text_given (option_and_then unless_null o) ≡ given.Text t → unwrap_or (option_and_then as_str o) [] ≡ t
given_told None t is = absurd (cc is)
given_told (Some d) t is = text_told d t is

empty_told : (name s : List ℕ) → in_namespace [] name (given.Text s) ≡ Ok tt → s ≡ []
unfolding in_namespace
empty_told name [] is = refl
empty_told name (b ∷ bs) is = absurd (cc is)

none_given : (name : List ℕ) (d : Data) → in_namespace [] name (text_given (unless_null d)) ≡ Ok tt → unwrap_or (as_str d) [] ≡ []
unfolding in_namespace
none_given name (string s) is = empty_told name s is
none_given name null is = refl
none_given name (boolean b) is = absurd (cc is)
none_given name (number n) is = absurd (cc is)
none_given name (array ds) is = absurd (cc is)
none_given name (object ms) is = absurd (cc is)

-- if only the empty namespace may be given, the metadata has none
none_told : (name : List ℕ) (o : Option Data) → in_namespace [] name (text_given (option_and_then unless_null o)) ≡ Ok tt → unwrap_or (option_and_then as_str o) [] ≡ []
none_told name None is = refl
none_told name (Some d) is = none_given name d is

-- ---- a text that is put, and what stays beside it

text_here : (k t : List ℕ) (d : Data) → metadata_text k (with_text k t d) ≡ t
text_here k t d =
    ap (λ o. unwrap_or (option_and_then as_str (option_and_then (get k) o)) []) (get_member-put (codes "metadata") (object (put k (string t) (metadata_of d))) (members_or_none (Some d)))
    ∙ ap (λ o. unwrap_or (option_and_then as_str o) []) (get_member-put k (string t) (metadata_of d))

text_there : (q k t : List ℕ) (d : Data) → bytes_eq q k ≡ false → metadata_text q (with_text k t d) ≡ metadata_text q d
text_there q k t d apart = ap (λ o. unwrap_or (option_and_then as_str o) []) (in_text q k t d apart)

-- trees with the same metadata have the same texts there
text_same : (q : List ℕ) (a b : Data) → get (codes "metadata") a ≡ get (codes "metadata") b → metadata_text q a ≡ metadata_text q b
text_same q a b same = ap (λ o. unwrap_or (option_and_then as_str (option_and_then (get q) o)) []) same

pub named_same : (k : Key) (a b : Data) → get (codes "metadata") a ≡ get (codes "metadata") b → IsNamedBy k b → IsNamedBy k a
named_same k a b same h = (text_same (codes "namespace") a b same ∙ h.0, text_same (codes "name") a b same ∙ h.1)

-- ---- a status leaves the metadata as it is

beside_status : (d : Data) → get (codes "metadata") (without_member (codes "status") d) ≡ get (codes "metadata") d
beside_status (object ms) = without_other (codes "metadata") (codes "status") ms refl
beside_status null = refl
beside_status (boolean b) = refl
beside_status (number n) = refl
beside_status (string s) = refl
beside_status (array ds) = refl

with_status : (other tree : Data) → get (codes "metadata") (with_member_of (codes "status") other tree) ≡ get (codes "metadata") tree
with_status other tree =
    put_if_other (codes "metadata") (codes "status") (get (codes "status") other) (without (codes "status") (members_or_none (Some tree))) refl
    ∙ without_other (codes "metadata") (codes "status") (members_or_none (Some tree)) refl
    ∙ in_object (codes "metadata") tree

unreported_same : (b : Bool) (tree : Data) → get (codes "metadata") (if b then without_member (codes "status") tree else tree) ≡ get (codes "metadata") tree
unreported_same true tree = beside_status tree
unreported_same false tree = refl

keeping_same : (b : Bool) (old tree : Data) → get (codes "metadata") (if b then with_member_of (codes "status") old tree else tree) ≡ get (codes "metadata") tree
keeping_same true old tree = with_status old tree
keeping_same false old tree = refl

-- ---- the place

-- a namespace is one that places of the resource type have: none where its objects live in none
abbrev pub IsHome : ResourceRow → List ℕ → Type 0
IsHome row namespace = (if row.namespaced then namespace else []) ≡ namespace

-- the namespace of a place is one of its resource type's
home_of : (b : Bool) (namespace : List ℕ) → (if b then (if b then namespace else []) else []) ≡ (if b then namespace else [])
home_of true namespace = refl
home_of false namespace = refl

pub is_home : (row : ResourceRow) (namespace name : List ℕ) → IsHome row (key_of row namespace name).namespace
is_home row namespace name = home_of row.namespaced namespace

no_home : (b : Bool) (namespace : List ℕ) → (if b then namespace else []) ≡ namespace → b ≡ false → namespace ≡ []
no_home true namespace home is = absurd (cc is)
no_home false namespace home is = sym home

-- a tree of that name, with the namespace of its place
housed_by : (b : Bool) (k : Key) (namespace : List ℕ) (tree : Data) → metadata_text (codes "name") tree ≡ k.name → k.namespace ≡ (if b then namespace else [])
    → (b ≡ false → metadata_text (codes "namespace") tree ≡ []) → IsNamedBy k (if b then with_text (codes "namespace") namespace tree else tree)
housed_by true k namespace tree name is none = (text_here (codes "namespace") namespace tree ∙ sym is, text_there (codes "name") (codes "namespace") namespace tree refl ∙ name)
housed_by false k namespace tree name is none = (none refl ∙ sym is, name)

-- if a tree may only give the resource type's namespace, it gives none for a resource type without
none_outside : (row : ResourceRow) (namespace name : List ℕ) (tree : Data) → IsHome row namespace → in_namespace namespace name (given_of tree).namespace ≡ Ok tt
    → row.namespaced ≡ false → metadata_text (codes "namespace") tree ≡ []
none_outside row namespace name tree home same is =
    let P : List ℕ → Type 0 = λ n. in_namespace n name (given_of tree).namespace ≡ Ok tt in
    none_told name (in_metadata (codes "namespace") tree) (subst P (no_home row.namespaced namespace home is) same)

-- a new tree is named by its place
pub new_named : (row : ResourceRow) (namespace name : List ℕ) (tree : Data) → IsHome row namespace → (given_of tree).name ≡ given.Text name
    → in_namespace namespace name (given_of tree).namespace ≡ Ok tt → IsNamedBy (key_of row namespace name) (in_place row namespace tree)
new_named row namespace name tree home called same =
    let kept : get (codes "metadata") (without_status row tree) ≡ get (codes "metadata") tree = unreported_same row.has_status tree in
    housed_by row.namespaced (key_of row namespace name) namespace (without_status row tree)
    (text_same (codes "name") (without_status row tree) tree kept ∙ given_told (in_metadata (codes "name") tree) name called) refl
    (λ is. text_same (codes "namespace") (without_status row tree) tree kept ∙ none_outside row namespace name tree home same is)

-- a tree that is put in place of another is named by its place
pub other_named : (of : ObjectPart) (row : ResourceRow) (k : Key) (old tree : Data) → IsHome row k.namespace → in_namespace k.namespace k.name (given_of tree).namespace ≡ Ok tt
    → IsNamedBy k old → IsNamedBy k (replacing of row k old tree)
unfolding replacing
other_named part.Object row k old tree home same h =
    let called : Data = with_text (codes "name") k.name tree in
    named_same k (keeping_status row old (with_namespace_on row k.namespace called)) (with_namespace_on row k.namespace called) (keeping_same row.has_status old (with_namespace_on row k.namespace called))
    (housed_by row.namespaced k k.namespace called (text_here (codes "name") k.name tree) (sym home)
    (λ is. text_there (codes "namespace") (codes "name") k.name tree refl ∙ none_outside row k.namespace k.name tree home same is))
other_named part.Status row k old tree home same h = named_same k (with_member_of (codes "status") tree old) old (with_status tree old) h
