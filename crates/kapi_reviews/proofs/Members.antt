-- What is decided depends on which groups there are, and not on how they are listed.
use Rattle.std.proofs.Common.{◌≡◌, ℕ, Bool, if◌then◌else◌, List, [], None, refl, sym, subst, ◌∙◌}
use Rattle.std.specs.Prelude.{codes}
use Rattle.std.specs.Option.{unwrap_or}
use Rattle.std.specs.List.{list_any, position}
use Rattle.std.specs.List.Sorted.{IsPermutation}
use Rattle.std.specs.Str.{bytes_eq}
use Rattle.std.proofs.lemmas.List.Sorted.{list_any-IsPermutation}
use Rattle.kapi_model.specs.declared.identity.Identity.{Identity}
use Rattle.kapi_model.specs.declared.subject.Subject.{Subject}
use Rattle.kapi_model.specs.declared.subject.Subject.TheVariants.{User, Group, ServiceAccount}
use Rattle.kapi_model.specs.Identities.{is_in, is_master}
use Rattle.kapi_model.specs.Subjects.{subject_matches}
use Rattle.kapi_rules.specs.declared.point.Point.{Point}
use Rattle.kapi_rules.specs.Rules.{allows}
use Rattle.kapi_policy.specs.Decided.{Binding, Decided, allowed_if, bindings_in, decided, first_some, given, granted, granted_at, granted_by, masters, rules_of}
use Rattle.kapi_policy.specs.Objects.{PolicyObjects}

module _ (identity : Identity) (groups : List (List ℕ)) (moved : IsPermutation identity.groups groups) where
  abbrev moved_identity : Identity
  moved_identity = record identity { groups = groups }

  listed_alike : (name : List ℕ) → is_in name moved_identity ≡ is_in name identity
  listed_alike name = sym (list_any-IsPermutation (λ g. bytes_eq g name) identity.groups groups moved)

  matched_alike : (s : Subject) (namespace : List ℕ) → subject_matches s namespace moved_identity ≡ subject_matches s namespace identity
  matched_alike (User name) namespace = refl
  matched_alike (Group name) namespace = listed_alike name
  matched_alike (ServiceAccount account) namespace = refl

-- the decision, by whether each subject matches and whether everything is allowed
decided_by : (Subject → List ℕ → Bool) → Bool → PolicyObjects → List ℕ → Point → Decided
decided_by matches is_master objects namespace point =
    let rules = λ (b : Binding). if list_any (λ s. matches s b.namespace) b.subjects then rules_of objects b.role b.namespace else None in
    let grant = λ (b : Binding). granted_at b (position (λ rule. allows rule point) (unwrap_or (rules b) [])) in
    if is_master then masters else allowed_if (first_some grant (bindings_in objects namespace))

decided_by_matches : (objects : PolicyObjects) (identity : Identity) (namespace : List ℕ) (point : Point)
    → decided objects identity namespace point ≡ decided_by (λ s n. subject_matches s n identity) (is_master identity) objects namespace point
unfolding decided granted granted_by given decided_by
decided_by_matches objects identity namespace point = refl

pub decided_in_order : (identity : Identity) (items groups : List (List ℕ)) → items ≡ identity.groups → IsPermutation items groups
    → (objects : PolicyObjects) (namespace : List ℕ) (point : Point) → decided objects (record identity { groups = groups }) namespace point ≡ decided objects identity namespace point
decided_in_order identity items groups same moved objects namespace point =
    let moved_groups = subst (λ gs. IsPermutation gs groups) same moved in
    decided_by_matches objects (record identity { groups = groups }) namespace point
    ∙ (λ i. decided_by (λ s n. matched_alike identity groups moved_groups s n i) (listed_alike identity groups moved_groups (codes "system:masters") i) objects namespace point)
    ∙ sym (decided_by_matches objects identity namespace point)
