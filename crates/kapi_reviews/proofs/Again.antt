-- A question that is written as the `spec` of a review is read back unchanged.
use Rattle.std.proofs.Common.{◌≡◌, ◌∙◌, ℕ, List, [], ◌∷◌, true, false, if◌then◌else◌, None, codes, bytes_eq, refl, ap, sym, length, ◌==◌}
use Rattle.std.proofs.Math.Dec.{eqb-suc-zero}
use Rattle.std.specs.Option.{option_and_then}
use Rattle.serde_json.specs.Data.{Data, string, object, Members, no_members, put}
use Rattle.serde_json.specs.Find.{get_member}
use Rattle.kapi_object.proofs.Puts.{put_if_here, put_if_other, put_other, text_there, text_round, list_there, listed_round}
use Rattle.kapi_object.specs.Contents.{list_value, put_text, put_texts, text_at, text_if, text_value, texts_at, write_items}
use Rattle.kapi_object.specs.Tree.{unless_null}
use Rattle.kapi_model.specs.declared.identity.Identity.{Identity}
use Rattle.kapi_rules.specs.declared.point.ResourcePoint.{ResourcePoint}
use Rattle.kapi_rules.specs.declared.point.UrlPoint.{UrlPoint}
use Rattle.kapi_rules.specs.declared.point.Point.TheVariants as point
use Rattle.kapi_reviews.specs.declared.kind.ReviewKind.{ReviewKind}
use Rattle.kapi_reviews.specs.Answers.{attributes_members, subject_members}
use Rattle.kapi_reviews.specs.Attributes.{after_slash, before_slash}
use Rattle.kapi_reviews.specs.Kinds.{tells_subject}
use Rattle.kapi_reviews.specs.Questions.{asked_identity, resource_point, url_point}

-- ---- texts

-- a text that was put at a key without a value
pub here : (k s : List ℕ) (ms : Members) → get_member k ms ≡ None → text_at k (object (put_text k s ms)) ≡ s
here k s ms h = ap (λ o. text_if (option_and_then unless_null o)) (put_if_here k (text_value s) ms h) ∙ ap text_if (text_there s) ∙ text_round s

-- a text under another
under : (q k s : List ℕ) (ms : Members) → bytes_eq q k ≡ false → text_at q (object (put_text k s ms)) ≡ text_at q (object ms)
under q k s ms h = ap (λ o. text_if (option_and_then unless_null o)) (put_if_other q k (text_value s) ms h)

-- a key without a value, also when another text was put
still_none : (q k s : List ℕ) (ms : Members) → bytes_eq q k ≡ false → get_member q ms ≡ None → get_member q (put_text k s ms) ≡ None
still_none q k s ms h e = put_if_other q k (text_value s) ms h ∙ e

-- ---- attributes of a resource

abbrev with_namespace : List ℕ → Members
with_namespace ns = put_text (codes "namespace") ns no_members

abbrev with_verb : List ℕ → ResourcePoint → Members
with_verb ns p = put_text (codes "verb") p.verb (with_namespace ns)

abbrev with_group : List ℕ → ResourcePoint → Members
with_group ns p = put_text (codes "group") p.group (with_verb ns p)

abbrev with_resource : List ℕ → ResourcePoint → Members
with_resource ns p = put_text (codes "resource") p.resource (with_group ns p)

abbrev with_subresource : List ℕ → ResourcePoint → Members
with_subresource ns p = put_text (codes "subresource") p.subresource (with_resource ns p)

abbrev whole : List ℕ → ResourcePoint → Members
whole ns p = put_text (codes "name") p.name (with_subresource ns p)

-- the members below the resource are found in the whole
under_resource : (q : List ℕ) (ns : List ℕ) (p : ResourcePoint) → bytes_eq q (codes "name") ≡ false → bytes_eq q (codes "subresource") ≡ false
    → text_at q (object (whole ns p)) ≡ text_at q (object (with_resource ns p))
under_resource q ns p h k = under q (codes "name") p.name (with_subresource ns p) h ∙ under q (codes "subresource") p.subresource (with_resource ns p) k

namespace_again : (ns : List ℕ) (p : ResourcePoint) → text_at (codes "namespace") (object (whole ns p)) ≡ ns
namespace_again ns p =
    under_resource (codes "namespace") ns p refl refl
    ∙ under (codes "namespace") (codes "resource") p.resource (with_group ns p) refl
    ∙ under (codes "namespace") (codes "group") p.group (with_verb ns p) refl
    ∙ under (codes "namespace") (codes "verb") p.verb (with_namespace ns) refl
    ∙ here (codes "namespace") ns no_members refl

no_text_in_namespace : (q ns : List ℕ) → bytes_eq q (codes "namespace") ≡ false → get_member q (with_namespace ns) ≡ None
no_text_in_namespace q ns h = still_none q (codes "namespace") ns no_members h refl

verb_again : (ns : List ℕ) (p : ResourcePoint) → text_at (codes "verb") (object (whole ns p)) ≡ p.verb
verb_again ns p =
    under_resource (codes "verb") ns p refl refl
    ∙ under (codes "verb") (codes "resource") p.resource (with_group ns p) refl
    ∙ under (codes "verb") (codes "group") p.group (with_verb ns p) refl
    ∙ here (codes "verb") p.verb (with_namespace ns) (no_text_in_namespace (codes "verb") ns refl)

no_text_in_verb : (q ns : List ℕ) (p : ResourcePoint) → bytes_eq q (codes "namespace") ≡ false → bytes_eq q (codes "verb") ≡ false → get_member q (with_verb ns p) ≡ None
no_text_in_verb q ns p h k = still_none q (codes "verb") p.verb (with_namespace ns) k (no_text_in_namespace q ns h)

group_again : (ns : List ℕ) (p : ResourcePoint) → text_at (codes "group") (object (whole ns p)) ≡ p.group
group_again ns p =
    under_resource (codes "group") ns p refl refl
    ∙ under (codes "group") (codes "resource") p.resource (with_group ns p) refl
    ∙ here (codes "group") p.group (with_verb ns p) (no_text_in_verb (codes "group") ns p refl refl)

no_text_in_group : (q ns : List ℕ) (p : ResourcePoint) → bytes_eq q (codes "namespace") ≡ false → bytes_eq q (codes "verb") ≡ false → bytes_eq q (codes "group") ≡ false
    → get_member q (with_group ns p) ≡ None
no_text_in_group q ns p h k l = still_none q (codes "group") p.group (with_verb ns p) l (no_text_in_verb q ns p h k)

resource_again : (ns : List ℕ) (p : ResourcePoint) → text_at (codes "resource") (object (whole ns p)) ≡ p.resource
resource_again ns p =
    under_resource (codes "resource") ns p refl refl
    ∙ here (codes "resource") p.resource (with_group ns p) (no_text_in_group (codes "resource") ns p refl refl refl)

subresource_again : (ns : List ℕ) (p : ResourcePoint) → text_at (codes "subresource") (object (whole ns p)) ≡ p.subresource
subresource_again ns p =
    under (codes "subresource") (codes "name") p.name (with_subresource ns p) refl
    ∙ here (codes "subresource") p.subresource (with_resource ns p)
    (still_none (codes "subresource") (codes "resource") p.resource (with_group ns p) refl (no_text_in_group (codes "subresource") ns p refl refl refl))

name_again : (ns : List ℕ) (p : ResourcePoint) → text_at (codes "name") (object (whole ns p)) ≡ p.name
name_again ns p =
    here (codes "name") p.name (with_subresource ns p)
    (still_none (codes "name") (codes "subresource") p.subresource (with_resource ns p) refl
    (still_none (codes "name") (codes "resource") p.resource (with_group ns p) refl (no_text_in_group (codes "name") ns p refl refl refl)))

-- there is no text behind the slash, so the subresource is the one that is named as such
told_subresource : (s after : List ℕ) → after ≡ [] → (if length s == 0 then after else s) ≡ s
told_subresource [] after h = h
told_subresource (x ∷ s) after h = rw (eqb-suc-zero (length s)) refl

pub resource_point_again : (ns : List ℕ) (p : ResourcePoint) → before_slash p.resource ≡ p.resource → after_slash p.resource ≡ []
    → resource_point (object (attributes_members ns (point.Resource p))) ≡ point.Resource p
unfolding attributes_members
resource_point_again ns p h k =
    rw (verb_again ns p, group_again ns p, resource_again ns p, subresource_again ns p, name_again ns p, h, told_subresource p.subresource (after_slash p.resource) k) refl

pub namespace_told_again : (ns : List ℕ) (p : ResourcePoint) → text_at (codes "namespace") (object (attributes_members ns (point.Resource p))) ≡ ns
unfolding attributes_members
namespace_told_again ns p = namespace_again ns p

-- ---- attributes of a path

abbrev with_path : UrlPoint → Members
with_path p = put_text (codes "path") p.path no_members

pub url_point_again : (ns : List ℕ) (p : UrlPoint) → url_point (object (attributes_members ns (point.Url p))) ≡ point.Url p
unfolding attributes_members
url_point_again ns p =
    let verb : text_at (codes "verb") (object (put_text (codes "verb") p.verb (with_path p))) ≡ p.verb = here (codes "verb") p.verb (with_path p) (still_none (codes "verb") (codes "path") p.path no_members refl refl) in
    let path : text_at (codes "path") (object (put_text (codes "verb") p.verb (with_path p))) ≡ p.path = under (codes "path") (codes "verb") p.verb (with_path p) refl ∙ here (codes "path") p.path no_members refl in
    rw (verb, path) refl

-- ---- user and groups

abbrev with_user : Identity → Members
with_user i = put_text (codes "user") i.user no_members

abbrev told : Identity → Members
told i = put_texts (codes "groups") i.groups (with_user i)

pub subject_absent : (kind : ReviewKind) (i : Identity) (q : List ℕ) → bytes_eq q (codes "user") ≡ false → bytes_eq q (codes "groups") ≡ false → get_member q (subject_members kind i) ≡ None
subject_absent kind i q h k =
    elim (tells_subject kind) as (λ b. get_member q (if b then told i else no_members) ≡ None) [
      | true ↦ put_if_other q (codes "groups") (list_value (write_items string i.groups)) (with_user i) k ∙ still_none q (codes "user") i.user no_members h refl
      | false ↦ refl
    ]

user_again : (key : List ℕ) (d : Data) (i : Identity) → bytes_eq (codes "user") key ≡ false → text_at (codes "user") (object (put key d (told i))) ≡ i.user
user_again key d i h =
    ap (λ o. text_if (option_and_then unless_null o)) (put_other (codes "user") key d (told i) h ∙ put_if_other (codes "user") (codes "groups") (list_value (write_items string i.groups)) (with_user i) refl)
    ∙ here (codes "user") i.user no_members refl

groups_again : (key : List ℕ) (d : Data) (i : Identity) → bytes_eq (codes "groups") key ≡ false → texts_at (codes "groups") (object (put key d (told i))) ≡ i.groups
groups_again key d i h =
    listed_round _ i.groups
    (ap (option_and_then unless_null) (put_other (codes "groups") key d (told i) h
    ∙ put_if_here (codes "groups") (list_value (write_items string i.groups)) (with_user i) (still_none (codes "groups") (codes "user") i.user no_members refl refl))
    ∙ list_there (write_items string i.groups))

pub identity_again : (kind : ReviewKind) (caller : Identity) (key : List ℕ) (d : Data) (i : Identity) → bytes_eq (codes "user") key ≡ false → bytes_eq (codes "groups") key ≡ false
    → (tells_subject kind ≡ false → i ≡ caller) → asked_identity kind caller (object (put key d (subject_members kind i))) ≡ i
identity_again kind caller key d i h k own =
    elim (tells_subject kind) as (λ b. (b ≡ false → i ≡ caller)
    → (if b
    then record { user = text_at (codes "user") (object (put key d (if b then told i else no_members))); groups = texts_at (codes "groups") (object (put key d (if b then told i else no_members))) }
    else caller) ≡ i) [
      | true ↦ λ e. rw (user_again key d i h, groups_again key d i k) refl
      | false ↦ λ e. sym (e refl)
    ] own
