-- Nothing is missing exactly if each atom is implied.
use Rattle.std.proofs.Common.{◌≡◌, ◌==◌, Bool, true, false, not, ◌&&◌, ◌⊎◌, inl, inr, List, [], ◌∷◌, ◌++◌, length, refl, sym, ap, ◌∙◌}
use Rattle.std.proofs.Math.Dec.{eqb-suc-zero}
use Rattle.std.proofs.lemmas.Bool.{and_parts, or_cases, or_left, and_from}
use Rattle.std.proofs.lemmas.Grind.{flat_map-append}
use Rattle.std.proofs.lemmas.List.Folds.{list_all-append, list_any-append}
use Rattle.std.specs.List.{filter, flat_map, fold, list_all, list_any}
use Rattle.kapi_model.specs.declared.policy_rule.PolicyRule.{PolicyRule}
use Rattle.kapi_rules.proofs.Covers.{implies_onward}
use Rattle.kapi_rules.proofs.Law.{any_weaker}
use Rattle.kapi_rules.proofs.Parts.{any_flat_map}
use Rattle.kapi_rules.specs.Atoms.{atoms, implies}
use Rattle.kapi_rules.specs.Missing.{each_once, is_missing, missing, rule_implies, same_atom, with_atom}
use Rattle.kapi_rules.specs.declared.atom.Atom.{Atom}
use Rattle.kapi_escalation.specs.Checks.{holds_all, implies_each}

-- ---- empty lists

-- a list that was begun does not become empty
begun : (f : Atom) (found list : List Atom) → (length (fold with_atom (f ∷ found) list) == 0) ≡ false
begun f found [] = eqb-suc-zero (length found)
begun f found (a ∷ list) = by_case (list_any (λ g. same_atom g a) (f ∷ found)) refl (λ grown. begun f grown list)
  where
    by_case : (b : Bool) → list_any (λ g. same_atom g a) (f ∷ found) ≡ b
        → ((grown : List Atom) → (length (fold with_atom (f ∷ grown) list) == 0) ≡ false)
        → (length (fold with_atom (f ∷ found) (a ∷ list)) == 0) ≡ false
    by_case true b more = rw b (more found)
    by_case false b more = rw b (more (found ++ a ∷ []))

empty_once : (list : List Atom) → (length (each_once list) == 0) ≡ (length list == 0)
unfolding each_once
empty_once [] = refl
empty_once (a ∷ list) = begun a [] list ∙ sym (eqb-suc-zero (length list))

empty_filter : (p : Atom → Bool) (list : List Atom) → (length (filter p list) == 0) ≡ list_all (λ a. not (p a)) list
empty_filter p [] = refl
empty_filter p (a ∷ list) = by_case (p a) refl (empty_filter p list)
  where
    by_case : (b : Bool) → p a ≡ b → (length (filter p list) == 0) ≡ list_all (λ x. not (p x)) list
        → (length (filter p (a ∷ list)) == 0) ≡ (not (p a) && list_all (λ x. not (p x)) list)
    by_case true b more = rw b (eqb-suc-zero (length (filter p list)))
    by_case false b more = rw b more

all_same : {X : Type 0} (p q : X → Bool) (xs : List X) → ((x : X) → p x ≡ q x) → list_all p xs ≡ list_all q xs
all_same p q [] same = refl
all_same p q (x ∷ xs) same = rw (same x, all_same p q xs same) refl

-- an atom is not missing exactly if a held atom implies it
held_or_missing : (own : List PolicyRule) (a : Atom) → not (is_missing own a) ≡ list_any (λ h. implies h a) (flat_map atoms own)
unfolding rule_implies
held_or_missing own a =
    double (list_any (λ rule. rule_implies rule a) own) ∙ sym (any_flat_map (λ h. implies h a) atoms own)
  where
    double : (b : Bool) → not (not b) ≡ b
    double true = refl
    double false = refl

pub none_is_missing : (own rules : List PolicyRule) → holds_all own rules ≡ implies_each own rules
unfolding missing
none_is_missing own rules =
    empty_once (filter (is_missing own) (flat_map atoms rules))
    ∙ empty_filter (is_missing own) (flat_map atoms rules)
    ∙ all_same _ _ (flat_map atoms rules) (held_or_missing own)

-- ---- what is implied onward, in parts, and by more

all_weaker : {X : Type 0} (p q : X → Bool) (xs : List X) → ((x : X) → p x ≡ true → q x ≡ true) → list_all p xs ≡ true → list_all q xs ≡ true
all_weaker p q [] weaker h = h
all_weaker p q (x ∷ xs) weaker h =
    let parts = and_parts _ _ h in and_from _ _ (weaker x parts.0) (all_weaker p q xs weaker parts.1)

-- if some of the first imply one of the middle, which each of the middle leads on from
onward_from : (b : Atom) (own middle : List Atom) → list_all (λ m. list_any (λ h. implies h m) own) middle ≡ true
    → list_any (λ m. implies m b) middle ≡ true → list_any (λ h. implies h b) own ≡ true
onward_from b own [] each some = absurd cc
onward_from b own (m ∷ middle) each some = by_case (or_cases (implies m b) _ some) (onward_from b own middle (and_parts first rest each).1)
  where
    first : Bool
    first = list_any (λ h. implies h m) own

    rest : Bool
    rest = list_all (λ m. list_any (λ h. implies h m) own) middle

    by_case : (implies m b ≡ true) ⊎ (list_any (λ m. implies m b) middle ≡ true)
        → (list_any (λ m. implies m b) middle ≡ true → list_any (λ h. implies h b) own ≡ true) → list_any (λ h. implies h b) own ≡ true
    by_case (inl here) more = any_weaker (λ h. implies h m) (λ h. implies h b) own (λ h i. implies_onward h m b i here) (and_parts first rest each).0
    by_case (inr there) more = more there

pub implied_onward : (own rules less : List PolicyRule) → implies_each rules less ≡ true → implies_each own rules ≡ true → implies_each own less ≡ true
implied_onward own rules less down each =
    all_weaker _ _ (flat_map atoms less) (λ a some. onward_from a (flat_map atoms own) (flat_map atoms rules) each some) down

pub implied_in_parts : (own before part after : List PolicyRule) → implies_each own (before ++ (part ++ after)) ≡ true → implies_each own part ≡ true
implied_in_parts own before part after each = (and_parts (list_all test (flat_map atoms part)) (list_all test (flat_map atoms after)) later).0
  where
    test : Atom → Bool
    test a = list_any (λ h. implies h a) (flat_map atoms own)

    in_two : (xs ys : List PolicyRule) → list_all test (flat_map atoms (xs ++ ys)) ≡ (list_all test (flat_map atoms xs) && list_all test (flat_map atoms ys))
    in_two xs ys = ap (list_all test) (flat_map-append atoms xs ys) ∙ list_all-append test (flat_map atoms xs) (flat_map atoms ys)

    later : (list_all test (flat_map atoms part) && list_all test (flat_map atoms after)) ≡ true
    later = sym (in_two part after) ∙ (and_parts (list_all test (flat_map atoms before)) (list_all test (flat_map atoms (part ++ after))) (sym (in_two before (part ++ after)) ∙ each)).1

pub implied_by_more : (own more rules : List PolicyRule) → implies_each own rules ≡ true → implies_each (own ++ more) rules ≡ true
implied_by_more own more rules each =
    all_weaker _ _ (flat_map atoms rules) (λ a some.
    ap (list_any (λ h. implies h a)) (flat_map-append atoms own more)
    ∙ list_any-append (λ h. implies h a) (flat_map atoms own) (flat_map atoms more)
    ∙ or_left (list_any (λ h. implies h a) (flat_map atoms own)) _ some) each
