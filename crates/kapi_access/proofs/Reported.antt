-- Every gain is reported, each line is a gain, and nothing is reported of what stood.
use Rattle.std.proofs.Common.{◌≡◌, ◌⊎◌, inl, inr, ℕ, ◌+◌, Bool, true, false, not, if◌then◌else◌, List, [], ◌∷◌, ◌++◌, refl, sym, ap, subst, codes, ◌∙◌}
use Rattle.std.proofs.lemmas.Bool.{and_parts, false_from_ne_true, and_from}
use Rattle.std.specs.List.{enumerate_from, flat_map, list_any}
use Rattle.kapi_model.specs.declared.policy_rule.PolicyRule.{PolicyRule}
use Rattle.kapi_model.specs.Identities.{is_master}
use Rattle.kapi_model.specs.declared.identity.Identity.{Identity}
use Rattle.kapi_rules.proofs.Covers.{implies_allows, implies_itself}
use Rattle.kapi_rules.proofs.Law.{any_weaker}
use Rattle.kapi_rules.proofs.Listed.{listed_exactly, same_decides}
use Rattle.kapi_rules.proofs.Parts.{allowed_by_atom}
use Rattle.kapi_rules.specs.Atoms.{atom_allows, atoms, implies}
use Rattle.kapi_rules.specs.Missing.{is_missing, missing, rule_implies, same_atom}
use Rattle.kapi_rules.specs.Points.{HasPlainResource}
use Rattle.kapi_rules.specs.Rules.{allows}
use Rattle.kapi_rules.specs.declared.atom.Atom.{Atom}
use Rattle.kapi_rules.specs.declared.point.Point.{Point}
use Rattle.kapi_policy.specs.All.{all_bindings}
use Rattle.kapi_policy.specs.Decided.{Binding, held}
use Rattle.kapi_policy.specs.Objects.{PolicyObjects}
use Rattle.kapi_access.proofs.Fresh.{fresh, none_lists}
use Rattle.kapi_access.proofs.Held.{HoldsBy, holds, holds_by, masters_may, may_by, rule_of_may}
use Rattle.kapi_access.proofs.Points.{allows_own, asked_request, implies_back, matched_can, plain_request, request_of}
use Rattle.kapi_aggregation.proofs.Lists.{has_kept, has_mapped, kept_of, mapped_of, some_at}
use Rattle.kapi_escalation_laws.proofs.Elements.{has_part, part_of, passing}
use Rattle.kapi_escalation_laws.specs.Access.{may}
use Rattle.kapi_aggregation.specs.Members.{Has}
use Rattle.kapi_access.specs.declared.grantee.Grantee.{Grantee}
use Rattle.kapi_access.specs.declared.identities.Identities.{Identities}
use Rattle.kapi_access.specs.Usual.{IsMeant}
use Rattle.kapi_access.proofs.Usual.{alone_is_meant, alone_matches, in_too, matches_too}
use Rattle.kapi_access.specs.Gained.{Gained, GivesNothingTo, IsGained, IsReported, can_match, gained, gained_by, gained_from, lines_by, lines_of, new_atoms}
use Rattle.kapi_access.specs.Grantees.{alone, grantees, matches, role_of, unbound_user, whom}
use Rattle.kapi_access.specs.Who.{IsRequest}

-- ---- lists

numbered_of : (n : ℕ) (rules : List PolicyRule) (e : ℕ × PolicyRule) → Has (enumerate_from n rules) e → Has rules e.1
numbered_of n [] e has = absurd has
numbered_of n (r ∷ rules) e (inl is) = inl (ap (λ (x : ℕ × PolicyRule). x.1) is)
numbered_of n (r ∷ rules) e (inr has) = inr (numbered_of (n + 1) rules e has)

has_number : (n : ℕ) (rules : List PolicyRule) (rule : PolicyRule) → Has rules rule → (i : ℕ) × Has (enumerate_from n rules) (i, rule)
has_number n [] rule has = absurd has
has_number n (r ∷ rules) rule (inl is) = (n, inl (ap (λ x. (n, x)) is))
has_number n (r ∷ rules) rule (inr has) = let rest = has_number (n + 1) rules rule has in (rest.0, inr rest.1)

none_has : {X : Type 0} (list : List X) → ((x : X) → Has list x → ⊥) → list ≡ []
none_has [] never = refl
none_has (x ∷ list) never = absurd (never x (inl refl))

-- ---- what is missing

not_true : (b : Bool) → not b ≡ true → b ≡ true → ⊥
not_true true h k = absurd cc
not_true false h k = absurd cc

not_false : (b : Bool) → (b ≡ true → ⊥) → not b ≡ true
not_false true never = absurd (never refl)
not_false false never = refl

atoms_alone : (rule : PolicyRule) → flat_map atoms (rule ∷ []) ≡ atoms rule
atoms_alone rule = nil_right (atoms rule)
  where
    nil_right : (xs : List Atom) → xs ++ [] ≡ xs
    nil_right [] = refl
    nil_right (x ∷ xs) = ap (λ l. x ∷ l) (nil_right xs)

has_same : (list : List Atom) (a : Atom) → list_any (same_atom a) list ≡ true → Has list a
has_same list a some =
    let b = passing (same_atom a) list some in
    subst (λ x. Has list x) (sym ((same_decides a b.0).0 b.1.1)) b.1.0

-- what is new is of the rule, and missing
new_of : (namespace : List ℕ) (own : List PolicyRule) (rule : PolicyRule) (a : Atom) → Has (new_atoms namespace own rule) a → (can_match namespace a ≡ true) × ((is_missing own a ≡ true) × Has (atoms rule) a)
unfolding new_atoms
new_of namespace own rule a has =
    let kept = kept_of (can_match namespace) (missing own (rule ∷ [])) a has in
    let there = some_at (same_atom a) (missing own (rule ∷ [])) a kept.0 ((same_decides a a).1 refl) in
    let parts = and_parts _ _ (sym (listed_exactly own (rule ∷ []) a) ∙ there) in
    (kept.1, (parts.0, subst (λ l. Has l a) (atoms_alone rule) (has_same (flat_map atoms (rule ∷ [])) a parts.1)))

is_new : (namespace : List ℕ) (own : List PolicyRule) (rule : PolicyRule) (a : Atom) → can_match namespace a ≡ true → is_missing own a ≡ true → Has (atoms rule) a → Has (new_atoms namespace own rule) a
unfolding new_atoms
is_new namespace own rule a can lacks has =
    has_kept (can_match namespace) (missing own (rule ∷ [])) a
    (has_same (missing own (rule ∷ [])) a (listed_exactly own (rule ∷ []) a ∙ and_from _ _ lacks (some_at (same_atom a) (flat_map atoms (rule ∷ [])) a (subst (λ l. Has l a) (sym (atoms_alone rule)) has) ((same_decides a a).1 refl)))) can

-- a rule allows all that an atom does which it implies
implied_allows : (rule : PolicyRule) (a : Atom) (p : Point) → HasPlainResource p → rule_implies rule a ≡ true → atom_allows a p ≡ true → allows rule p ≡ true
unfolding rule_implies
implied_allows rule a p plain implied h =
    sym (allowed_by_atom rule p) ∙ any_weaker (λ x. implies x a) (λ x. atom_allows x p) (atoms rule) (λ x i. implies_allows x a p plain i h) implied

own_is_implied : (rule : PolicyRule) (a : Atom) → Has (atoms rule) a → rule_implies rule a ≡ true
unfolding rule_implies
own_is_implied rule a has = some_at (λ x. implies x a) (atoms rule) a has (implies_itself a)

-- ---- the identity of a grantee alone

-- where one scope is the other's or cluster-wide
within : (n scope namespace : List ℕ) → (scope ≡ []) ⊎ (scope ≡ namespace) → (n ≡ []) ⊎ (n ≡ scope) → (n ≡ []) ⊎ (n ≡ namespace)
within n scope namespace there (inl wide) = inl wide
within n scope namespace (inl wide) (inr one) = inl (one ∙ wide)
within n scope namespace (inr other) (inr one) = inr (one ∙ other)

-- what the grantee alone holds where a binding counts is held there by each identity that it is
held_too : (who : Identities) (objects : PolicyObjects) (to : Grantee) (identity : Identity) (scope namespace : List ℕ) (rule : PolicyRule) → IsMeant who identity → matches to identity ≡ true
    → (scope ≡ []) ⊎ (scope ≡ namespace) → Has (held objects (alone who (unbound_user objects) to) scope) rule → Has (held objects identity namespace) rule
held_too who objects to identity scope namespace rule among meant there has =
    let h = holds_by objects (alone who (unbound_user objects) to) scope rule has in
    holds objects identity namespace rule
    (record {
      by = h.by;
      stands = h.stands;
      there = within h.by.namespace scope namespace there h.there;
      to = h.to;
      bound = h.bound;
      meant = matches_too who objects h.by h.to to identity h.stands h.bound among meant h.meant;
      listed = h.listed;
    })

module _ (who : Identities) (before after : PolicyObjects) where
  -- ---- lines

  line_of : (b : Binding) (to : Grantee) (n : ℕ) (rule : PolicyRule) (a : Atom) → Has (all_bindings after) b → Has (grantees b) to → Has (enumerate_from 0 (role_of after b)) (n, rule)
      → is_master (alone who (unbound_user before) to) ≡ false → Has (new_atoms b.namespace (held before (alone who (unbound_user before) to) b.namespace) rule) a
      → Has (gained who before after) (record { to = to; binding = b; rule = n; gain = a })
  unfolding gained gained_from
  line_of b to n rule a stands bound numbered plain new =
      has_part (gained_from who before after) (all_bindings after) b _ stands
      (has_part (gained_by who before after b) (grantees b) to _ bound
      (rw plain (has_part (lines_by (held before (alone who (unbound_user before) to) b.namespace) to b) (enumerate_from 0 (role_of after b)) (n, rule) _ numbered
      (has_mapped (λ (a : Atom). record { to = to; binding = b; rule = n; gain = a }) (new_atoms b.namespace (held before (alone who (unbound_user before) to) b.namespace) rule) a new))))

  -- what stands behind a line
  record Behind (line : Gained) : Type 0 where
    pub stands : Has (all_bindings after) line.binding
    pub bound : Has (grantees line.binding) line.to
    pub plain : is_master (alone who (unbound_user before) line.to) ≡ false
    pub rule : PolicyRule
    pub listed : Has (role_of after line.binding) rule
    pub new : Has (new_atoms line.binding.namespace (held before (alone who (unbound_user before) line.to) line.binding.namespace) rule) line.gain

  behind : (line : Gained) → Has (gained who before after) line → Behind line
  unfolding gained gained_from
  behind line has = by_master (is_master (alone who (unbound_user before) to.0)) refl to.1.1
    where
      b : (b : Binding) × (Has (all_bindings after) b × Has (gained_from who before after b) line)
      b = part_of (gained_from who before after) (all_bindings after) line has

      to : (to : Grantee) × (Has (grantees b.0) to × Has (gained_by who before after b.0 to) line)
      to = part_of (gained_by who before after b.0) (grantees b.0) line b.1.1

      by_master : (m : Bool) → is_master (alone who (unbound_user before) to.0) ≡ m
          → Has (if m then [] else lines_of (held before (alone who (unbound_user before) to.0) b.0.namespace) to.0 b.0 (role_of after b.0)) line → Behind line
      by_master true is never = absurd never
      by_master false is there =
          let numbered = part_of (lines_by (held before (alone who (unbound_user before) to.0) b.0.namespace) to.0 b.0) (enumerate_from 0 (role_of after b.0)) line there in
          let a = mapped_of (λ (a : Atom). record { to = to.0; binding = b.0; rule = numbered.0.0; gain = a }) (new_atoms b.0.namespace (held before (alone who (unbound_user before) to.0) b.0.namespace) numbered.0.1) line numbered.1.1 in
          subst (λ (l : Gained). Behind l) a.1.1 (record { stands = b.1.0; bound = to.1.0; plain = is; rule = numbered.0.1; listed = numbered_of 0 (role_of after b.0) numbered.0 numbered.1.0; new = a.1.0 })

  -- ---- every gain is reported

  pub every_gain_is_reported : (identity : Identity) (namespace : List ℕ) (p : Point) → IsMeant who identity → HasPlainResource p → IsRequest namespace p → may after identity namespace p ≡ true → may before identity namespace p ≡ false
      → IsReported (gained who before after) identity namespace p
  every_gain_is_reported identity namespace p among plain asked now not_before =
      record {
        line = record { to = h.to; binding = h.by; rule = numbered.0; gain = a.0 };
        listed = line_of h.by h.to numbered.0 r.0 a.0 h.stands h.bound numbered.1 (false_from_ne_true _ (λ is. absurd (let allowed = masters_may before identity namespace p (in_too who (unbound_user before) h.to identity (codes "system:masters") among h.meant is) in cc)))
            (is_new h.by.namespace _ r.0 a.0 (matched_can h.by.namespace namespace a.0 p plain asked h.there a.1.1) lacks a.1.0);
        meant = h.meant;
        there = h.there;
        allowed = a.1.1;
      }
    where
      no_master : is_master identity ≡ false
      no_master = false_from_ne_true _ (λ is. absurd (let allowed = masters_may before identity namespace p is in cc))

      r : (rule : PolicyRule) × (Has (held after identity namespace) rule × (allows rule p ≡ true))
      r = rule_of_may after identity namespace p now no_master

      h : HoldsBy after identity namespace r.0
      h = holds_by after identity namespace r.0 r.1.0

      numbered : (i : ℕ) × Has (enumerate_from 0 (role_of after h.by)) (i, r.0)
      numbered = has_number 0 (role_of after h.by) r.0 h.listed

      a : (a : Atom) × (Has (atoms r.0) a × (atom_allows a p ≡ true))
      a = passing (λ a. atom_allows a p) (atoms r.0) (allowed_by_atom r.0 p ∙ r.1.1)

      lacks : is_missing (held before (alone who (unbound_user before) h.to) h.by.namespace) a.0 ≡ true
      lacks = not_false _ (λ implied.
          let own = passing (λ rule. rule_implies rule a.0) (held before (alone who (unbound_user before) h.to) h.by.namespace) implied in
          absurd (let allowed = may_by before identity namespace p own.0 (held_too who before h.to identity h.by.namespace namespace own.0 among h.meant h.there own.1.0) (implied_allows own.0 a.0 p plain own.1.1 a.1.1) in cc))

  -- ---- each line is a gain

  pub each_line_is_a_gain : (line : Gained) → Has (gained who before after) line → IsGained who before after line
  each_line_is_a_gain line has =
      record {
        identity = own_identity;
        among = alone_is_meant who before line.to;
        request = request;
        plain = plain_request (fresh own) line.gain;
        asked = asked_request (fresh own) line.binding.namespace line.gain new.0;
        meant = alone_matches who (unbound_user before) line.to;
        by_atom = by_atom;
        now = now;
        not_before = false_from_ne_true _ (λ allowed. never (rule_of_may before own_identity line.binding.namespace request allowed by.plain));
      }
    where
      by : Behind line
      by = behind line has

      own_identity : Identity
      own_identity = alone who (unbound_user before) line.to

      own : List PolicyRule
      own = held before own_identity line.binding.namespace

      request : Point
      request = request_of (fresh own) line.gain

      new : (can_match line.binding.namespace line.gain ≡ true) × ((is_missing own line.gain ≡ true) × Has (atoms by.rule) line.gain)
      new = new_of line.binding.namespace own by.rule line.gain by.new

      by_atom : atom_allows line.gain request ≡ true
      by_atom = allows_own (fresh own) line.binding.namespace line.gain new.0

      now : may after own_identity line.binding.namespace request ≡ true
      now = may_by after own_identity line.binding.namespace request by.rule
          (holds after own_identity line.binding.namespace by.rule (record { by = line.binding; stands = by.stands; there = inr refl; to = line.to; bound = by.bound; meant = alone_matches who (unbound_user before) line.to; listed = by.listed }))
          (sym (allowed_by_atom by.rule request) ∙ some_at (λ a. atom_allows a request) (atoms by.rule) line.gain new.1.1 by_atom)

      never : ((rule : PolicyRule) × (Has own rule × (allows rule request ≡ true))) → ⊥
      never r =
          not_true _ new.1.0 (some_at (λ rule. rule_implies rule line.gain) own r.0 r.1.0 (implies_back (fresh own) line.binding.namespace r.0 line.gain (none_lists own r.0 r.1.0) new.0 r.1.1))

  -- ---- nothing is listed exactly if nobody gains

  by_list : (list : List Gained) → list ≡ [] → (identity : Identity) (namespace : List ℕ) (p : Point) → IsReported list identity namespace p → ⊥
  by_list list none identity namespace p r = subst (λ l. Has l r.line) none r.listed

  -- what one of them may do now it could do before
  had : gained who before after ≡ [] → (identity : Identity) (namespace : List ℕ) (p : Point) → IsMeant who identity → HasPlainResource p → IsRequest namespace p → may after identity namespace p ≡ true → may before identity namespace p ≡ true
  had none identity namespace p among plain asked now = by_case (may before identity namespace p) refl
    where
      by_case : (m : Bool) → may before identity namespace p ≡ m → m ≡ true
      by_case true is = refl
      by_case false is = absurd (by_list (gained who before after) none identity namespace p (every_gain_is_reported identity namespace p among plain asked now is))

  pub nothing_listed : gained who before after ≡ [] → GivesNothingTo who before after
  nothing_listed none = had none

  pub nobody_gains_anything : GivesNothingTo who before after → gained who before after ≡ []
  nobody_gains_anything nothing = none_has (gained who before after) (λ line has.
      let g = each_line_is_a_gain line has in
      absurd (let had = nothing g.identity line.binding.namespace g.request g.among g.plain g.asked g.now in let not_had = g.not_before in cc))

-- ---- what stood

-- a rule that a binding gives has nothing new for its grantees
pub rules_that_stood : (who : Identities) (before : PolicyObjects) (b : Binding) (to : Grantee) (rule : PolicyRule) → Has (all_bindings before) b → Has (grantees b) to → Has (role_of before b) rule
    → new_atoms b.namespace (held before (alone who (unbound_user before) to) b.namespace) rule ≡ []
rules_that_stood who before b to rule stands bound listed = none_has _ (λ a has.
    let own = holds before (alone who (unbound_user before) to) b.namespace rule (record { by = b; stands = stands; there = inr refl; to = to; bound = bound; meant = alone_matches who (unbound_user before) to; listed = listed }) in
    let new = new_of b.namespace (held before (alone who (unbound_user before) to) b.namespace) rule a has in
    not_true _ new.1.0 (some_at (λ rule. rule_implies rule a) (held before (alone who (unbound_user before) to) b.namespace) rule own (own_is_implied rule a new.1.1)))

-- a binding gives nobody anything new where one that stood gave its subjects its role's rules in its namespace
pub bindings_alike : (who : Identities) (before after : PolicyObjects) (s b : Binding) → Has (all_bindings before) s → s.namespace ≡ b.namespace → s.subjects ≡ b.subjects → role_of before s ≡ role_of after b
    → gained_from who before after b ≡ []
unfolding gained_from
bindings_alike who before after s b stands same_namespace same_subjects same_rules = none_has _ (λ line has.
    let to = part_of (gained_by who before after b) (grantees b) line has in
    by_master to.0 (subst (λ l. Has l to.0) (sym same_grantees) to.1.0) (is_master (alone who (unbound_user before) to.0)) line to.1.1)
  where
    same_grantees : grantees s ≡ grantees b
    same_grantees = ap (λ n. flat_map (whom n) s.subjects) same_namespace ∙ ap (λ l. flat_map (whom b.namespace) l) same_subjects

    by_master : (to : Grantee) → Has (grantees s) to → (m : Bool) (line : Gained) → Has (if m then [] else lines_of (held before (alone who (unbound_user before) to) b.namespace) to b (role_of after b)) line → ⊥
    by_master to bound true line never = never
    by_master to bound false line there =
        let numbered = part_of (lines_by (held before (alone who (unbound_user before) to) b.namespace) to b) (enumerate_from 0 (role_of after b)) line there in
        let listed = subst (λ l. Has l numbered.0.1) (sym same_rules) (numbered_of 0 (role_of after b) numbered.0 numbered.1.0) in
        let none : new_atoms b.namespace (held before (alone who (unbound_user before) to) b.namespace) numbered.0.1 ≡ [] =
        subst (λ n. new_atoms n (held before (alone who (unbound_user before) to) n) numbered.0.1 ≡ []) same_namespace (rules_that_stood who before s to numbered.0.1 stands bound listed) in
        let a = mapped_of (λ (a : Atom). record { to = to; binding = b; rule = numbered.0.0; gain = a }) (new_atoms b.namespace (held before (alone who (unbound_user before) to) b.namespace) numbered.0.1) line numbered.1.1 in
        subst (λ l. Has l a.0) none a.1.0

-- a binding that stood with its role's rules gives nothing new
pub bindings_that_stood : (who : Identities) (before after : PolicyObjects) (b : Binding) → Has (all_bindings before) b → role_of after b ≡ role_of before b → gained_from who before after b ≡ []
bindings_that_stood who before after b stands same_rules = bindings_alike who before after b b stands refl refl (sym same_rules)
