-- Texts that are longer than others.
use Rattle.std.proofs.Common.{◌≡◌, inl, inr, ℕ, suc, ◌≤◌, Bool, true, false, ◌==◌, if◌then◌else◌, List, [], ◌∷◌, ◌++◌, length, sym, ap, codes, ◌∙◌, arith}
use Rattle.std.proofs.lemmas.List.{length-append}
use Rattle.std.specs.List.{flat_map, list_any}
use Rattle.std.specs.Str.{bytes_eq}
use Rattle.std.proofs.lemmas.Bool.{false_from_ne_true}
use Rattle.kapi_model.specs.declared.policy_rule.PolicyRule.{PolicyRule}
use Rattle.kapi_model.specs.declared.subject.Subject.{Subject}
use Rattle.kapi_model.specs.declared.subject.Subject.TheVariants.{User, Group, ServiceAccount}
use Rattle.kapi_model.specs.Subjects.{colon, namespace_of}
use Rattle.kapi_rules.proofs.Covers.{same}
use Rattle.kapi_policy.specs.All.{all_bindings}
use Rattle.kapi_policy.specs.Decided.{Binding}
use Rattle.kapi_policy.specs.Objects.{PolicyObjects}
use Rattle.kapi_escalation_laws.proofs.Elements.{part_of, passing}
use Rattle.kapi_aggregation.specs.Members.{Has}
use Rattle.kapi_access.specs.declared.grantee.Grantee.TheVariants as grantee
use Rattle.kapi_access.specs.Grantees.{grantees, unbound_user, user_in, users_in, whom}

-- a part is not longer than the whole
part_fits : {X : Type 0} (f : X → List ℕ) (xs : List X) (x : X) → Has xs x → length (f x) ≤ length (flat_map f xs)
part_fits f [] x has = absurd has
part_fits f (y ∷ xs) x (inl is) = let long = length-append (f y) (flat_map f xs) in let here : length (f y) ≡ length (f x) = ap (λ z. length (f z)) is in omega arith
part_fits f (y ∷ xs) x (inr has) = let long = length-append (f y) (flat_map f xs) in let there = part_fits f xs x has in omega arith

-- no text is one that is longer
apart : (long short : List ℕ) → length short ≤ length long → 120 ∷ long ≡ short → ⊥
apart long short fits is = let lengths : suc (length long) ≡ length short = ap length is in absurd (omega arith)

fits_twice : (l m n : ℕ) → l ≤ m → m ≤ n → l ≤ n
fits_twice l m n h k = omega arith

abbrev begins_so : List ℕ → Bool
begins_so [] = false
begins_so (b ∷ text) = b == 120

-- no binding names the unbound user
pub nobody_is_unbound_user : (objects : PolicyObjects) (b : Binding) (name : List ℕ) → Has (all_bindings objects) b → Has (grantees b) (grantee.User name) → bytes_eq (unbound_user objects) name ≡ false
nobody_is_unbound_user objects b name stands bound = false_from_ne_true _ (λ h. by_subject s.0 s.1.0 s.1.1 (same (unbound_user objects) name h))
  where
    s : (s : Subject) × (Has b.subjects s × Has (whom b.namespace s) (grantee.User name))
    s = part_of (whom b.namespace) b.subjects (grantee.User name) bound

    by_account : (rest : List ℕ) (c : Bool) → Has (if c then [] else grantee.User (codes "system:serviceaccount:" ++ rest) ∷ []) (grantee.User name) → unbound_user objects ≡ name → ⊥
    by_account rest true never is = absurd never
    by_account rest false (inr never) is = absurd never
    by_account rest false (inl named) is =
        let user : codes "system:serviceaccount:" ++ rest ≡ name = cc named in
        let first : true ≡ false = ap begins_so (is ∙ sym user) in absurd (cc first)

    by_subject : (s : Subject) → Has b.subjects s → Has (whom b.namespace s) (grantee.User name) → unbound_user objects ≡ name → ⊥
    by_subject (User n) has (inl named) is =
        let user : n ≡ name = cc named in
        apart (users_in (all_bindings objects)) n
        (fits_twice _ _ _ (part_fits user_in b.subjects (User n) has) (part_fits (λ (x : Binding). flat_map user_in x.subjects) (all_bindings objects) b stands))
        (is ∙ sym user)
    by_subject (User n) has (inr never) is = absurd never
    by_subject (Group n) has (inl named) is = absurd (cc named)
    by_subject (Group n) has (inr never) is = absurd never
    by_subject (ServiceAccount a) has there is =
        by_account (namespace_of a b.namespace ++ colon ∷ a.name) (length (namespace_of a b.namespace) == 0) there is

-- ---- names

-- a name that none of the rules lists
pub fresh : List PolicyRule → List ℕ
fresh rules = 120 ∷ flat_map (λ rule. flat_map (λ name. name) rule.resource_names) rules

pub none_lists : (rules : List PolicyRule) (rule : PolicyRule) → Has rules rule → list_any (λ n. bytes_eq n (fresh rules)) rule.resource_names ≡ false
unfolding fresh
none_lists rules rule has = false_from_ne_true _ (λ some.
    let n = passing (λ n. bytes_eq n (fresh rules)) rule.resource_names some in
    apart (flat_map (λ (r : PolicyRule). flat_map (λ name. name) r.resource_names) rules) n.0
    (fits_twice _ _ _ (part_fits (λ name. name) rule.resource_names n.0 n.1.0) (part_fits (λ (r : PolicyRule). flat_map (λ name. name) r.resource_names) rules rule has))
    (sym (same n.0 (fresh rules) n.1.1)))
