-- What gave the same before is passed over.
use Rattle.std.proofs.Common.{◌≡◌, inl, inr, Bool, true, false, if◌then◌else◌, List, [], ◌∷◌, ◌++◌, refl, sym, ap, subst, ◌∙◌}
use Rattle.std.proofs.lemmas.Bool.{and_parts}
use Rattle.std.specs.Str.{bytes_eq}
use Rattle.kapi_model.specs.declared.subject.Subject.{Subject}
use Rattle.kapi_model.specs.declared.subject.Subject.TheVariants.{User, Group, ServiceAccount}
use Rattle.kapi_rules.proofs.Covers.{same}
use Rattle.kapi_policy.specs.All.{all_bindings}
use Rattle.kapi_policy.specs.Decided.{Binding}
use Rattle.kapi_policy.specs.Objects.{PolicyObjects}
use Rattle.kapi_aggregation.proofs.Equal.{same_rules_are}
use Rattle.kapi_aggregation.specs.Members.{Has}
use Rattle.kapi_access.specs.declared.identities.Identities.{Identities}
use Rattle.kapi_access.specs.Gained.{Gained, gained_from}
use Rattle.kapi_access.specs.Grantees.{role_of}
use Rattle.kapi_access.specs.Earlier.{AreAmong, comes_before, first_gives_same, from_place, gives_same, same_subject, same_subjects}
use Rattle.kapi_access.proofs.Reported.{bindings_alike}

same_subject_is : (a b : Subject) → same_subject a b ≡ true → a ≡ b
same_subject_is (User a) (User b) h = ap User (same a b h)
same_subject_is (User a) (Group b) h = absurd (cc h)
same_subject_is (User a) (ServiceAccount b) h = absurd (cc h)
same_subject_is (Group a) (User b) h = absurd (cc h)
same_subject_is (Group a) (Group b) h = ap Group (same a b h)
same_subject_is (Group a) (ServiceAccount b) h = absurd (cc h)
same_subject_is (ServiceAccount a) (User b) h = absurd (cc h)
same_subject_is (ServiceAccount a) (Group b) h = absurd (cc h)
same_subject_is (ServiceAccount a) (ServiceAccount b) h =
    let parts = and_parts (bytes_eq a.namespace b.namespace) (bytes_eq a.name b.name) h in
    ap ServiceAccount (λ i. record { namespace = same a.namespace b.namespace parts.0 i; name = same a.name b.name parts.1 i })

same_subjects_are : (xs ys : List Subject) → same_subjects xs ys ≡ true → xs ≡ ys
same_subjects_are [] [] h = refl
same_subjects_are [] (y ∷ ys) h = absurd (cc h)
same_subjects_are (x ∷ xs) [] h = absurd (cc h)
same_subjects_are (x ∷ xs) (y ∷ ys) h =
    let parts = and_parts (same_subject x y) (same_subjects xs ys) h in
    ap (λ (z : Subject). z ∷ xs) (same_subject_is x y parts.0) ∙ ap (λ (zs : List Subject). y ∷ zs) (same_subjects_are xs ys parts.1)

same_gain_nothing : (who : Identities) (before after : PolicyObjects) (s b : Binding) → Has (all_bindings before) s → gives_same before after s b ≡ true → gained_from who before after b ≡ []
same_gain_nothing who before after s b stands h =
    let one = and_parts (bytes_eq s.namespace b.namespace) _ h in
    let two = and_parts (same_subjects s.subjects b.subjects) _ one.1 in
    bindings_alike who before after s b stands (same s.namespace b.namespace one.0) (same_subjects_are s.subjects b.subjects two.0) (same_rules_are (role_of before s) (role_of after b) two.1)

-- if the first of those before gives the same, nothing is gained
pub first_gains_nothing : (who : Identities) (before after : PolicyObjects) (earlier : List Binding) (b : Binding) → AreAmong earlier (all_bindings before) → first_gives_same before after earlier b ≡ true
    → gained_from who before after b ≡ []
first_gains_nothing who before after [] b among h = absurd (cc h)
first_gains_nothing who before after (s ∷ rest) b among h = same_gain_nothing who before after s b (among s (inl refl)) h

pub nothing_more : (list lines : List Gained) → lines ≡ [] → list ≡ list ++ lines
nothing_more [] lines none = sym none
nothing_more (line ∷ list) lines none = ap (λ (l : List Gained). line ∷ l) (nothing_more list lines none)

-- the bindings from a place on are among all
places_among : (b : Binding) (list : List Binding) → AreAmong (from_place b list) list
places_among b [] = λ x has. has
places_among b (s ∷ rest) = by_case (comes_before s b) (places_among b rest)
  where
    by_case : (t : Bool) → AreAmong (from_place b rest) rest → AreAmong (if t then from_place b rest else s ∷ rest) (s ∷ rest)
    by_case true more = λ x has. inr (more x has)
    by_case false more = λ x has. has

-- entries of equal lists are equal
pub still_among : (b : Binding) (some list all : List Binding) → some ≡ from_place b list → AreAmong list all → AreAmong some all
still_among b some list all is among = λ x has. among x (places_among b list x (subst (λ l. Has l x) is has))
