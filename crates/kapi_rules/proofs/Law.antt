-- What an empty list of missing atoms says.
use Rattle.std.proofs.Common.{◌≡◌, Bool, true, false, not, ◌||◌, ◌⊎◌, inl, inr, List, [], ◌∷◌, ◌++◌, refl, sym, ◌∙◌}
use Rattle.std.proofs.lemmas.Bool.{or_cases, or_right}
use Rattle.std.specs.List.{filter, flat_map, fold, list_any}
use Rattle.kapi_model.specs.declared.policy_rule.PolicyRule.{PolicyRule}
use Rattle.kapi_rules.proofs.Covers.{implies_allows}
use Rattle.kapi_rules.proofs.Parts.{allowed_by_atom, any_flat_map, any_same}
use Rattle.kapi_rules.specs.Atoms.{atom_allows, atoms, implies}
use Rattle.kapi_rules.specs.Missing.{CoversAll, each_once, is_missing, missing, rule_implies, same_atom, with_atom}
use Rattle.kapi_rules.specs.Points.{HasPlainResource}
use Rattle.kapi_rules.specs.Rules.{allows}
use Rattle.kapi_rules.specs.declared.atom.Atom.{Atom}
use Rattle.kapi_rules.specs.declared.point.Point.{Point}

-- ---- some element of a list

-- a weaker test is passed too
pub any_weaker : {X : Type 0} (p q : X → Bool) (xs : List X) → ((x : X) → p x ≡ true → q x ≡ true) → list_any p xs ≡ true → list_any q xs ≡ true
any_weaker p q [] weaker h = h
any_weaker p q (x ∷ xs) weaker h = by_case (or_cases (p x) (list_any p xs) h) (any_weaker p q xs weaker)
  where
    by_case : (p x ≡ true) ⊎ (list_any p xs ≡ true) → (list_any p xs ≡ true → list_any q xs ≡ true) → (q x || list_any q xs) ≡ true
    by_case (inl here) more = rw (weaker x here) refl
    by_case (inr there) more = or_right (q x) (list_any q xs) (more there)

-- if no element passes the one test, what each that passes the other leads to
any_leads : {X : Type 0} (p q : X → Bool) (c : Bool) (xs : List X) → ((x : X) → p x ≡ false → q x ≡ true → c ≡ true)
    → list_any p xs ≡ false → list_any q xs ≡ true → c ≡ true
any_leads p q c [] leads none some = absurd cc
any_leads p q c (x ∷ xs) leads none some = by_case (p x) refl (any_leads p q c xs leads)
  where
    by_case : (b : Bool) → p x ≡ b → (list_any p xs ≡ false → list_any q xs ≡ true → c ≡ true) → c ≡ true
    by_case true b more = absurd (let passes = rw b at none in cc)
    by_case false b more = by_other (or_cases (q x) (list_any q xs) some)
      where
        by_other : (q x ≡ true) ⊎ (list_any q xs ≡ true) → c ≡ true
        by_other (inl here) = leads x b here
        by_other (inr there) = let rest = rw b at none in more rest there

-- ---- empty lists

-- a list that was begun does not become empty
kept : (f : Atom) (found list : List Atom) → fold with_atom (f ∷ found) list ≡ [] → f ∷ found ≡ []
kept f found [] none = none
kept f found (a ∷ list) none = by_case (list_any (λ g. same_atom g a) (f ∷ found)) refl (λ grown. kept f grown list)
  where
    by_case : (b : Bool) → list_any (λ g. same_atom g a) (f ∷ found) ≡ b
        → ((grown : List Atom) → fold with_atom (f ∷ grown) list ≡ [] → f ∷ grown ≡ []) → f ∷ found ≡ []
    by_case true b more = let still = rw b at none in more found still
    by_case false b more = let longer = rw b at none in absurd (let never = more (found ++ a ∷ []) longer in cc)

once_none : (list : List Atom) → each_once list ≡ [] → list ≡ []
unfolding each_once
once_none [] none = refl
once_none (a ∷ list) none = absurd (let never = kept a [] list none in cc)

filter_none : (p : Atom → Bool) (list : List Atom) → filter p list ≡ [] → list_any p list ≡ false
filter_none p [] none = refl
filter_none p (a ∷ list) none = by_case (p a) refl (filter_none p list)
  where
    by_case : (b : Bool) → p a ≡ b → (filter p list ≡ [] → list_any p list ≡ false) → (p a || list_any p list) ≡ false
    by_case true b more = absurd (let kept = rw b at none in cc)
    by_case false b more = let rest = rw b at none in rw b (more rest)

-- ---- the law

-- no atom of the wanted rules is missing
pub all_implied : (held wanted : List PolicyRule) → missing held wanted ≡ [] → list_any (is_missing held) (flat_map atoms wanted) ≡ false
unfolding missing
all_implied held wanted none =
    filter_none (is_missing held) (flat_map atoms wanted) (once_none (filter (is_missing held) (flat_map atoms wanted)) none)

-- rules allow what their atoms do
rules_by_atoms : (rules : List PolicyRule) (p : Point) → list_any (λ a. atom_allows a p) (flat_map atoms rules) ≡ list_any (λ rule. allows rule p) rules
rules_by_atoms rules p =
    any_flat_map (λ a. atom_allows a p) atoms rules ∙ any_same _ _ rules (λ rule. allowed_by_atom rule p)

-- a rule that implies an atom allows what the atom allows
rule_allows : (rule : PolicyRule) (b : Atom) (p : Point) → HasPlainResource p → atom_allows b p ≡ true → rule_implies rule b ≡ true → allows rule p ≡ true
unfolding rule_implies
rule_allows rule b p plain h implied =
    sym (allowed_by_atom rule p)
    ∙ any_weaker (λ a. implies a b) (λ a. atom_allows a p) (atoms rule) (λ a i. implies_allows a b p plain i h) implied

pub none_missing : (held wanted : List PolicyRule) → missing held wanted ≡ [] → CoversAll held wanted
none_missing held wanted none = λ p plain allowed.
    any_leads (is_missing held) (λ a. atom_allows a p) (list_any (λ rule. allows rule p) held) (flat_map atoms wanted)
    (λ b implied h. any_weaker (λ rule. rule_implies rule b) (λ rule. allows rule p) held (λ rule i. rule_allows rule b p plain h i) (double (list_any (λ rule. rule_implies rule b) held) implied))
    (all_implied held wanted none) (rules_by_atoms wanted p ∙ allowed)
  where
    double : (b : Bool) → not b ≡ false → b ≡ true
    double true e = refl
    double false e = absurd cc
