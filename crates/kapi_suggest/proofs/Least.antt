-- Whatever the uses give, every policy gives that allows them all.
use Rattle.std.proofs.Common.{◌≡◌, ◌⊎◌, inl, inr, ℕ, Bool, true, false, ◌||◌, ◌==◌, if◌then◌else◌, List, [], ◌∷◌, ◌++◌, length, Some, None, refl, sym, subst, ◌∙◌}
use Rattle.std.proofs.Math.Dec.{eqb-suc-zero}
use Rattle.std.proofs.lemmas.Bool.{and_from, and_parts, not-true, or_cases, or_left, or_right}
use Rattle.std.specs.List.{list_any}
use Rattle.std.specs.Option.{unwrap_or}
use Rattle.std.specs.Str.{bytes_eq}
use Rattle.kapi_model.specs.Identities.{is_in, is_master}
use Rattle.kapi_model.specs.Subjects.{subject_matches}
use Rattle.kapi_model.specs.declared.identity.Identity.{Identity}
use Rattle.kapi_model.specs.declared.policy_rule.PolicyRule.{PolicyRule}
use Rattle.kapi_model.specs.declared.subject.Subject.{Subject}
use Rattle.kapi_model.specs.declared.subject.Subject.TheVariants.{User, Group, ServiceAccount}
use Rattle.kapi_rules.proofs.Covers.{implies_allows, itself, same}
use Rattle.kapi_rules.proofs.Law.{any_weaker}
use Rattle.kapi_rules.proofs.Parts.{allowed_by_atom, rule_implies_resource, rule_implies_url}
use Rattle.kapi_rules.specs.Atoms.{after_slash, atom_allows, atoms, implies, listed_cover, names_allow, resource_covers}
use Rattle.kapi_rules.specs.Entries.{names_match, resource_matches, star, subresource_matches, word_matches}
use Rattle.kapi_rules.specs.Missing.{rule_implies}
use Rattle.kapi_rules.specs.Points.{HasPlainResource}
use Rattle.kapi_rules.specs.Rules.{allows}
use Rattle.kapi_rules.specs.declared.atom.Atom.{Atom}
use Rattle.kapi_rules.specs.declared.point.Point.{Point}
use Rattle.kapi_rules.specs.declared.point.Point.TheVariants as point
use Rattle.kapi_policy.proofs.Decisions.{cluster_wide_first}
use Rattle.kapi_policy.specs.Decided.{Binding, bindings_in, given, held, rules_of}
use Rattle.kapi_policy.specs.Objects.{PolicyObjects}
use Rattle.kapi_aggregation.specs.Members.{Has}
use Rattle.kapi_escalation_laws.proofs.Elements.{has_left, has_part, part_of, passing}
use Rattle.kapi_escalation_laws.specs.Access.{may}
use Rattle.kapi_access.proofs.Held.{masters_may, may_by, rule_of_may}
use Rattle.kapi_reviews.specs.declared.question.Question.{Question}
use Rattle.kapi_suggest.specs.Uses.{Allows, ArePlain, HasItsGroups, ListsNoEmptyName, atom_used, counts, entry_of, given_by, gives, names_used}

-- ---- a rule that allows a request implies its atom

slash_joined : (r s : List ℕ) → list_any (λ b. b == 47) r ≡ false → after_slash (r ++ 47 ∷ s) ≡ Some s
slash_joined [] s plain = refl
slash_joined (b ∷ r) s plain = by_byte (b == 47) plain (slash_joined r s)
  where
    by_byte : (t : Bool) → (t || list_any (λ b. b == 47) r) ≡ false → (list_any (λ b. b == 47) r ≡ false → after_slash (r ++ 47 ∷ s) ≡ Some s) → (if t then Some (r ++ 47 ∷ s) else after_slash (r ++ 47 ∷ s)) ≡ Some s
    by_byte true none more = absurd (cc none)
    by_byte false none more = more none

entry_covered : (e r s : List ℕ) → list_any (λ b. b == 47) r ≡ false → resource_matches e r s ≡ true → resource_covers e (entry_of r s) ≡ true
entry_covered e r [] plain h = or_left _ _ h
entry_covered e r (c ∷ s) plain h =
    let some = eqb-suc-zero (length s) in
    let parts : subresource_matches e r (c ∷ s) ≡ true = (let p = rw some at h in p) in
    rw (some, slash_joined r (c ∷ s) plain) parts

names_covered : (listed : List (List ℕ)) (name : List ℕ) → list_any (λ n. bytes_eq n []) listed ≡ false → names_match listed name ≡ true → listed_cover listed (names_used name) ≡ true
names_covered listed [] none h = without (length listed == 0) (let is = rw none at h in is)
  where
    without : (b : Bool) → (b || false) ≡ true → (b || false) ≡ true
    without b h = h
names_covered listed (c ∷ name) none h = rw (eqb-suc-zero (length name)) h

used_implied : (rule : PolicyRule) (p : Point) → HasPlainResource p → list_any (λ n. bytes_eq n []) rule.resource_names ≡ false → allows rule p ≡ true → rule_implies rule (atom_used p) ≡ true
used_implied rule (point.Resource p) plain none h =
    let one = and_parts _ _ h in
    let two = and_parts _ _ one.1 in
    let three = and_parts _ _ two.1 in
    rule_implies_resource rule _
    ∙ and_from _ _ one.0 (and_from _ _ two.0 (and_from _ _ (any_weaker (λ e. resource_matches e p.resource p.subresource) (λ e. resource_covers e (entry_of p.resource p.subresource)) rule.resources
    (λ e m. entry_covered e p.resource p.subresource plain m) three.0) (names_covered rule.resource_names p.name none three.1)))
used_implied rule (point.Url p) plain none h = rule_implies_url rule _ ∙ h

-- and a rule that implies an atom allows what the atom does
allows_more : (rule : PolicyRule) (a : Atom) (p : Point) → HasPlainResource p → atom_allows a p ≡ true → rule_implies rule a ≡ true → allows rule p ≡ true
unfolding rule_implies
allows_more rule a p plain h implied =
    sym (allowed_by_atom rule p) ∙ any_weaker (λ b. implies b a) (λ b. atom_allows b p) (atoms rule) (λ b i. implies_allows b a p plain i h) implied

-- ---- who is in more groups, and anywhere, holds more

module _ (objects : PolicyObjects) (user identity : Identity) (alike : user.user ≡ identity.user)
    (within : (group : List ℕ) → is_in group user ≡ true → is_in group identity ≡ true) where
  matched : (namespace : List ℕ) (s : Subject) → subject_matches s namespace user ≡ true → subject_matches s namespace identity ≡ true
  matched namespace (User name) h = let m = rw alike at h in m
  matched namespace (Group name) h = within name h
  matched namespace (ServiceAccount account) h = let m = rw alike at h in m

  given_more : (b : Binding) (rule : PolicyRule) → Has (unwrap_or (given objects user b) []) rule → Has (unwrap_or (given objects identity b) []) rule
  unfolding given
  given_more b rule has = by_meant (list_any (λ s. subject_matches s b.namespace user) b.subjects) refl has
    where
      by_meant : (m : Bool) → list_any (λ s. subject_matches s b.namespace user) b.subjects ≡ m → Has (unwrap_or (if m then rules_of objects b.role b.namespace else None) []) rule
          → Has (unwrap_or (given objects identity b) []) rule
      by_meant true is there =
          rw (any_weaker (λ s. subject_matches s b.namespace user) (λ s. subject_matches s b.namespace identity) b.subjects (matched b.namespace) is) there
      by_meant false is never = absurd never

  held_more : (namespace : List ℕ) (rule : PolicyRule) → Has (held objects user namespace) rule → Has (held objects identity namespace) rule
  unfolding held
  held_more namespace rule has =
      let b = part_of (λ b. unwrap_or (given objects user b) []) (bindings_in objects namespace) rule has in
      has_part (λ b. unwrap_or (given objects identity b) []) (bindings_in objects namespace) b.0 rule b.1.0 (given_more b.0 rule b.1.1)

empty : (text : List ℕ) → (length text == 0) ≡ true → text ≡ []
empty [] h = refl
empty (c ∷ text) h = absurd (let never = rw (eqb-suc-zero (length text)) at h in cc)

held_there : (objects : PolicyObjects) (identity : Identity) (given namespace : List ℕ) (rule : PolicyRule) → counts given namespace ≡ true → Has (held objects identity given) rule
    → Has (held objects identity namespace) rule
held_there objects identity given namespace rule h has = by_case (or_cases (length given == 0) (bytes_eq given namespace) h)
  where
    by_case : ((length given == 0) ≡ true) ⊎ (bytes_eq given namespace ≡ true) → Has (held objects identity namespace) rule
    by_case (inl none) =
        let more = cluster_wide_first objects identity namespace in
        let P : List ℕ → Type 0 = λ n. Has (held objects identity n) rule in
        let Q : List PolicyRule → Type 0 = λ l. Has l rule in
        subst Q (sym more.1) (has_left (held objects identity []) more.0 rule (subst P (empty given none) has))
    by_case (inr is) = let P : List ℕ → Type 0 = λ n. Has (held objects identity n) rule in subst P (same given namespace is) has

-- ---- the law

pub least : (uses : List Question) (other : PolicyObjects) (identity : Identity) (namespace : List ℕ) (p : Point)
    → ArePlain uses → Allows other uses → ListsNoEmptyName other → HasItsGroups uses identity → HasPlainResource p
    → given_by uses identity namespace p ≡ true → may other identity namespace p ≡ true
least uses other identity namespace p are_plain allowed no_empty groups plain h = by_case (or_cases (is_master identity) _ h)
  where
    by_use : (u : Question) → Has uses u → gives identity namespace p u ≡ true → may other identity namespace p ≡ true
    by_use u has given =
        let one = and_parts _ _ given in
        let two = and_parts _ _ one.1 in
        let three = and_parts _ _ two.1 in
        let plain_user = not-true (is_master u.identity) one.0 in
        let rule = rule_of_may other u.identity u.namespace u.point (allowed u has) plain_user in
        let there = held_more other u.identity identity (same u.identity.user identity.user two.0) (λ group is. groups u group has plain_user two.0 is) u.namespace rule.0 rule.1.0 in
        may_by other identity namespace p rule.0 (held_there other identity u.namespace namespace rule.0 three.0 there)
        (allows_more rule.0 (atom_used u.point) p plain three.1
        (used_implied rule.0 u.point (are_plain u has) (no_empty u.identity u.namespace rule.0 rule.1.0) rule.1.1))

    by_case : (is_master identity ≡ true) ⊎ (list_any (gives identity namespace p) uses ≡ true) → may other identity namespace p ≡ true
    by_case (inl master) = masters_may other identity namespace p master
    by_case (inr some) = let u = passing (gives identity namespace p) uses some in by_use u.0 u.1.0 u.1.1

-- ---- every use is given to its user

names_own : (name : List ℕ) → names_allow (names_used name) name ≡ true
names_own [] = refl
names_own (c ∷ name) = rw (eqb-suc-zero (length name)) (itself (c ∷ name))

entry_own : (r s : List ℕ) → resource_matches (entry_of r s) r s ≡ true
entry_own r [] = or_right (bytes_eq r star) (bytes_eq r r) (itself r)
entry_own r (c ∷ s) =
    rw (eqb-suc-zero (length s)) (or_left _ _ (or_right (bytes_eq (r ++ 47 ∷ c ∷ s) star) _ (itself (r ++ 47 ∷ c ∷ s))))

word_own : (x : List ℕ) → word_matches x x ≡ true
word_own x = or_right (bytes_eq x star) (bytes_eq x x) (itself x)

pub atom_own : (p : Point) → atom_allows (atom_used p) p ≡ true
atom_own (point.Resource p) =
    and_from _ _ (word_own p.verb) (and_from _ _ (word_own p.group) (and_from _ _ (entry_own p.resource p.subresource) (names_own p.name)))
atom_own (point.Url p) = and_from _ _ (word_own p.verb) (or_left _ _ (itself p.path))
