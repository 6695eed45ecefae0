-- The request that an atom asks for, and what implies the atom.
use Rattle.std.proofs.Common.{◌≡◌, ◌⊎◌, inl, inr, ℕ, Bool, true, false, not, ◌||◌, ◌==◌, if◌then◌else◌, List, [], ◌∷◌, ◌++◌, length, Option, Some, None, refl, ap, ◌∙◌}
use Rattle.std.proofs.Math.Dec.{eqb-suc-zero}
use Rattle.std.proofs.lemmas.Bool.{and_parts, or_cases, or_left, or_right, not-true, and_from}
use Rattle.std.proofs.lemmas.Bool.Decides.{Decides-eqb}
use Rattle.std.specs.List.{list_any}
use Rattle.std.specs.Str.{bytes_eq}
use Rattle.kapi_model.specs.declared.policy_rule.PolicyRule.{PolicyRule}
use Rattle.kapi_rules.proofs.Covers.{itself, same}
use Rattle.kapi_rules.proofs.Law.{any_weaker}
use Rattle.kapi_rules.proofs.Parts.{rule_implies_resource, rule_implies_url}
use Rattle.kapi_rules.specs.Atoms.{after_slash, atom_allows, is_any_with, listed_cover, names_allow, resource_covers}
use Rattle.kapi_rules.specs.Entries.{names_match, resource_matches, star, subresource_matches, word_matches}
use Rattle.kapi_rules.specs.Missing.{rule_implies}
use Rattle.kapi_rules.specs.Points.{HasPlainResource}
use Rattle.kapi_rules.specs.Rules.{allows}
use Rattle.kapi_rules.specs.declared.atom.Atom.{Atom}
use Rattle.kapi_rules.specs.declared.atom.Atom.TheVariants as atom
use Rattle.kapi_rules.specs.declared.atom.Names.{Names}
use Rattle.kapi_rules.specs.declared.atom.Names.TheVariants as names
use Rattle.kapi_rules.specs.declared.point.Point.{Point}
use Rattle.kapi_rules.specs.declared.point.Point.TheVariants as point
use Rattle.kapi_object.proofs.Clean.{none_if}
use Rattle.kapi_access.specs.Gained.{can_match, is_nothing}
use Rattle.kapi_access.specs.Who.{IsRequest}

-- ---- the parts of a resource

-- what stands before the first slash
pub before_slash : List ℕ → List ℕ
before_slash [] = []
before_slash (b ∷ text) = if b == 47 then [] else b ∷ before_slash text

-- what stands behind it
abbrev pub behind : Option (List ℕ) → List ℕ
behind None = []
behind (Some text) = text

plain_before : (text : List ℕ) → list_any (λ b. b == 47) (before_slash text) ≡ false
unfolding before_slash
plain_before [] = refl
plain_before (b ∷ text) = by_byte (b == 47) refl (plain_before text)
  where
    by_byte : (t : Bool) → (b == 47) ≡ t → list_any (λ b. b == 47) (before_slash text) ≡ false → list_any (λ b. b == 47) (if t then [] else b ∷ before_slash text) ≡ false
    by_byte true t more = refl
    by_byte false t more = rw t more

whole_before : (text : List ℕ) → after_slash text ≡ None → before_slash text ≡ text
unfolding before_slash
whole_before [] none = refl
whole_before (b ∷ text) none = by_byte (b == 47) none (whole_before text)
  where
    by_byte : (t : Bool) → (if t then Some text else after_slash text) ≡ None → (after_slash text ≡ None → before_slash text ≡ text) → (if t then [] else b ∷ before_slash text) ≡ b ∷ text
    by_byte true none more = absurd (cc none)
    by_byte false none more = ap (λ r. b ∷ r) (more none)

joined : (text s : List ℕ) → after_slash text ≡ Some s → before_slash text ++ 47 ∷ s ≡ text
unfolding before_slash
joined [] s some = absurd (cc some)
joined (b ∷ text) s some = by_byte (b == 47) refl some (joined text s)
  where
    by_byte : (t : Bool) → (b == 47) ≡ t → (if t then Some text else after_slash text) ≡ Some s → (after_slash text ≡ Some s → before_slash text ++ 47 ∷ s ≡ text)
        → (if t then [] else b ∷ before_slash text) ++ 47 ∷ s ≡ b ∷ text
    by_byte true is some more = let byte : b ≡ 47 = (Decides-eqb b 47).0 is in let rest : text ≡ s = cc some in rw (byte, rest) refl
    by_byte false is some more = ap (λ r. b ∷ r) (more some)

-- an entry matches its own two parts
own_parts : (r : List ℕ) (o : Option (List ℕ)) → after_slash r ≡ o → is_nothing o ≡ false → resource_matches r (before_slash r) (behind o) ≡ true
own_parts r None is some = rw (whole_before r is) (or_right (bytes_eq r star) (bytes_eq r r) (itself r))
own_parts r (Some []) is some = absurd (cc some)
own_parts r (Some (c ∷ s)) is some =
    rw (eqb-suc-zero (length s)) (or_left _ (bytes_eq r (42 ∷ 47 ∷ c ∷ s)) (or_right (bytes_eq r star) _ (rw (joined r (c ∷ s) is) (itself r))))

-- what matches them covers the entry
covers_whole : (e r : List ℕ) (o : Option (List ℕ)) → after_slash r ≡ o → is_nothing o ≡ false → resource_matches e (before_slash r) (behind o) ≡ true → (word_matches e r || is_any_with e o) ≡ true
covers_whole e r None is some h = or_left _ _ (let w = rw (whole_before r is) at h in w)
covers_whole e r (Some []) is some h = absurd (cc some)
covers_whole e r (Some (c ∷ s)) is some h =
    let parts : subresource_matches e (before_slash r) (c ∷ s) ≡ true = (let p = rw (eqb-suc-zero (length s)) at h in p) in
    let whole = rw (joined r (c ∷ s) is) at parts in whole

-- ---- the request

-- the name that an atom asks for, or the other one if it asks for all
pub name_in : List ℕ → Names → List ℕ
name_in other names.All = other
name_in other (names.One name) = name

-- the request that has the parts of an atom
pub request_of : List ℕ → Atom → Point
request_of other (atom.Resource a) =
    point.Resource (record { verb = a.verb; group = a.group; resource = before_slash a.resource; subresource = behind (after_slash a.resource); name = name_in other a.names })
request_of other (atom.Url a) = point.Url (record { verb = a.verb; path = a.url })

pub plain_request : (other : List ℕ) (a : Atom) → HasPlainResource (request_of other a)
unfolding request_of
plain_request other (atom.Resource a) = plain_before a.resource
plain_request other (atom.Url a) = tt

pub asked_request : (other namespace : List ℕ) (a : Atom) → can_match namespace a ≡ true → IsRequest namespace (request_of other a)
unfolding request_of
asked_request other namespace (atom.Resource a) can = tt
asked_request other namespace (atom.Url a) can = none_if namespace can

own_name : (other : List ℕ) (n : Names) → names_allow n (name_in other n) ≡ true
unfolding name_in
own_name other names.All = refl
own_name other (names.One name) = itself name

pub allows_own : (other namespace : List ℕ) (a : Atom) → can_match namespace a ≡ true → atom_allows a (request_of other a) ≡ true
unfolding request_of
allows_own other namespace (atom.Resource a) can =
    and_from _ _ (or_right (bytes_eq a.verb star) (bytes_eq a.verb a.verb) (itself a.verb))
    (and_from _ _ (or_right (bytes_eq a.group star) (bytes_eq a.group a.group) (itself a.group))
    (and_from _ _ (own_parts a.resource (after_slash a.resource) refl (not-true _ can)) (own_name other a.names)))
allows_own other namespace (atom.Url a) can =
    and_from _ _ (or_right (bytes_eq a.verb star) (bytes_eq a.verb a.verb) (itself a.verb)) (or_left (bytes_eq a.url a.url) _ (itself a.url))

names_back : (other : List ℕ) (listed : List (List ℕ)) (n : Names) → list_any (λ x. bytes_eq x other) listed ≡ false → names_match listed (name_in other n) ≡ true → listed_cover listed n ≡ true
unfolding name_in
names_back other listed names.All none h = by_length (length listed == 0) (let is = rw none at h in is)
  where
    by_length : (b : Bool) → (b || false) ≡ true → (b || false) ≡ true
    by_length b h = h
names_back other listed (names.One name) none h = h

-- a rule that allows the request of an atom implies the atom, if the rule does not list the name
pub implies_back : (other namespace : List ℕ) (rule : PolicyRule) (a : Atom) → list_any (λ x. bytes_eq x other) rule.resource_names ≡ false → can_match namespace a ≡ true
    → allows rule (request_of other a) ≡ true → rule_implies rule a ≡ true
unfolding request_of
implies_back other namespace rule (atom.Resource a) none can h =
    let one = and_parts _ _ h in
    let two = and_parts _ _ one.1 in
    let three = and_parts _ _ two.1 in
    rule_implies_resource rule a
    ∙ and_from _ _ one.0 (and_from _ _ two.0 (and_from _ _ (any_weaker (λ e. resource_matches e (before_slash a.resource) (behind (after_slash a.resource))) (λ e. resource_covers e a.resource) rule.resources
    (λ e m. covers_whole e a.resource (after_slash a.resource) refl (not-true _ can) m) three.0) (names_back other rule.resource_names a.names none three.1)))
implies_back other namespace rule (atom.Url a) none can h = rule_implies_url rule a ∙ h

-- ---- what requests match

slash_joined : (r s : List ℕ) → list_any (λ b. b == 47) r ≡ false → after_slash (r ++ 47 ∷ s) ≡ Some s
slash_joined [] s plain = refl
slash_joined (b ∷ r) s plain = by_byte (b == 47) plain (slash_joined r s)
  where
    by_byte : (t : Bool) → (t || list_any (λ b. b == 47) r) ≡ false → (list_any (λ b. b == 47) r ≡ false → after_slash (r ++ 47 ∷ s) ≡ Some s) → (if t then Some (r ++ 47 ∷ s) else after_slash (r ++ 47 ∷ s)) ≡ Some s
    by_byte true none more = absurd (cc none)
    by_byte false none more = more none

no_slash : (r : List ℕ) → list_any (λ b. b == 47) r ≡ false → after_slash r ≡ None
no_slash [] plain = refl
no_slash (b ∷ r) plain = by_byte (b == 47) plain (no_slash r)
  where
    by_byte : (t : Bool) → (t || list_any (λ b. b == 47) r) ≡ false → (list_any (λ b. b == 47) r ≡ false → after_slash r ≡ None) → (if t then Some r else after_slash r) ≡ None
    by_byte true none more = absurd (cc none)
    by_byte false none more = more none

matched_word : (e w : List ℕ) (o : Option (List ℕ)) → word_matches e w ≡ true → after_slash w ≡ o → is_nothing o ≡ false → is_nothing (after_slash e) ≡ false
matched_word e w o h is some = by_case (or_cases (bytes_eq e star) (bytes_eq e w) h)
  where
    by_case : (bytes_eq e star ≡ true) ⊎ (bytes_eq e w ≡ true) → is_nothing (after_slash e) ≡ false
    by_case (inl all) = rw (same e star all) refl
    by_case (inr one) = rw (same e w one, is) some

matched : (e r s : List ℕ) → list_any (λ b. b == 47) r ≡ false → resource_matches e r s ≡ true → is_nothing (after_slash e) ≡ false
matched e r [] plain h = matched_word e r None h (no_slash r plain) refl
matched e r (c ∷ s) plain h = by_case (or_cases (word_matches e (r ++ 47 ∷ c ∷ s)) (bytes_eq e (42 ∷ 47 ∷ c ∷ s)) (let p = rw (eqb-suc-zero (length s)) at h in p))
  where
    by_case : (word_matches e (r ++ 47 ∷ c ∷ s) ≡ true) ⊎ (bytes_eq e (42 ∷ 47 ∷ c ∷ s) ≡ true) → is_nothing (after_slash e) ≡ false
    by_case (inl w) = matched_word e (r ++ 47 ∷ c ∷ s) (Some (c ∷ s)) w (slash_joined r (c ∷ s) plain) refl
    by_case (inr any) = rw (same e (42 ∷ 47 ∷ c ∷ s) any) refl

pub matched_can : (scope namespace : List ℕ) (a : Atom) (p : Point) → HasPlainResource p → IsRequest namespace p → (scope ≡ []) ⊎ (scope ≡ namespace) → atom_allows a p ≡ true → can_match scope a ≡ true
matched_can scope namespace (atom.Resource a) (point.Resource p) plain asked there h =
    let one = and_parts _ _ h in
    let two = and_parts _ _ one.1 in
    let three = and_parts _ _ two.1 in
    ap not (matched a.resource p.resource p.subresource plain three.0)
matched_can scope namespace (atom.Resource a) (point.Url p) plain asked there h = absurd cc
matched_can scope namespace (atom.Url a) (point.Resource p) plain asked there h = absurd cc
matched_can scope namespace (atom.Url a) (point.Url p) plain asked (inl wide) h = ap (λ (n : List ℕ). length n == 0) wide
matched_can scope namespace (atom.Url a) (point.Url p) plain asked (inr one) h = ap (λ (n : List ℕ). length n == 0) (one ∙ asked)
