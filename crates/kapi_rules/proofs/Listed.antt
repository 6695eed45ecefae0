-- What the missing list holds: just the wanted atoms that no held rule implies, each once.
use Rattle.std.proofs.Common.{◌≡◌, ℕ, ◌<◌, Bool, true, false, ◌&&◌, ◌||◌, List, [], ◌∷◌, ◌++◌, length, get_or, refl, sym, ap, ◌∙◌, arith, Decides}
use Rattle.std.proofs.lemmas.Bool.{and_parts, and_from}
use Rattle.std.proofs.lemmas.List.Folds.{list_any-append, list_any_at}
use Rattle.std.proofs.lemmas.List.Quantifiers.{all_pairs_push}
use Rattle.std.specs.List.{AllPairs, filter, flat_map, fold, list_any}
use Rattle.kapi_text.proofs.Booleans.{or_false, and_false, absorbed, regrouped, passing, failing}
use Rattle.kapi_model.specs.declared.policy_rule.PolicyRule.{PolicyRule}
use Rattle.kapi_rules.proofs.Covers.{itself, same}
use Rattle.kapi_rules.proofs.Law.{any_weaker}
use Rattle.kapi_rules.specs.Atoms.{atoms, resource_atom, url_atom}
use Rattle.kapi_rules.specs.Missing.{each_once, is_missing, missing, same_atom, same_names, with_atom}
use Rattle.kapi_rules.specs.declared.atom.Atom.{Atom}
use Rattle.kapi_rules.specs.declared.atom.Atom.TheVariants as atom
use Rattle.kapi_rules.specs.declared.atom.Names.{Names}
use Rattle.kapi_rules.specs.declared.atom.Names.TheVariants as names

-- ---- atoms that are the same are equal

same_names_are : (a b : Names) → same_names a b ≡ true → a ≡ b
same_names_are names.All names.All h = refl
same_names_are names.All (names.One y) h = absurd cc
same_names_are (names.One x) names.All h = absurd cc
same_names_are (names.One x) (names.One y) h = ap names.One (same x y h)

same_names_itself : (a : Names) → same_names a a ≡ true
same_names_itself names.All = refl
same_names_itself (names.One x) = itself x

same_are : (a b : Atom) → same_atom a b ≡ true → a ≡ b
same_are (atom.Resource a) (atom.Resource b) h =
    let first = and_parts _ _ h in
    let second = and_parts _ _ first.1 in
    let third = and_parts _ _ second.1 in
    ap (λ (v : List ℕ). resource_atom v a.group a.resource a.names) (same a.verb b.verb first.0)
    ∙ ap (λ (g : List ℕ). resource_atom b.verb g a.resource a.names) (same a.group b.group second.0)
    ∙ ap (λ (r : List ℕ). resource_atom b.verb b.group r a.names) (same a.resource b.resource third.0)
    ∙ ap (λ (n : Names). resource_atom b.verb b.group b.resource n) (same_names_are a.names b.names third.1)
same_are (atom.Resource a) (atom.Url b) h = absurd cc
same_are (atom.Url a) (atom.Resource b) h = absurd cc
same_are (atom.Url a) (atom.Url b) h =
    let parts = and_parts _ _ h in
    ap (λ (v : List ℕ). url_atom v a.url) (same a.verb b.verb parts.0) ∙ ap (λ (u : List ℕ). url_atom b.verb u) (same a.url b.url parts.1)

same_itself : (a : Atom) → same_atom a a ≡ true
same_itself (atom.Resource a) =
    and_from _ _ (itself a.verb) (and_from _ _ (itself a.group) (and_from _ _ (itself a.resource) (same_names_itself a.names)))
same_itself (atom.Url a) = and_from _ _ (itself a.verb) (itself a.url)

pub same_decides : (a b : Atom) → Decides (same_atom a b) (a ≡ b)
same_decides a b = (same_are a b, λ e. rw e (same_itself b))

-- ---- what is listed

-- a list grows by what is not in it yet
grown : (b : Atom) (found list : List Atom)
    → list_any (same_atom b) (fold with_atom found list) ≡ (list_any (same_atom b) found || list_any (same_atom b) list)
grown b found [] = sym (or_false (list_any (same_atom b) found))
grown b found (a ∷ list) = by_case (list_any (λ f. same_atom f a) found) refl (λ longer. grown b longer list)
  where
    there : list_any (λ f. same_atom f a) found ≡ true → same_atom b a ≡ true → list_any (same_atom b) found ≡ true
    there t e =
        any_weaker (λ f. same_atom f a) (same_atom b) found (λ f i. rw (same_are f a i) e) t

    by_case : (t : Bool) → list_any (λ f. same_atom f a) found ≡ t
        → ((longer : List Atom) → list_any (same_atom b) (fold with_atom longer list) ≡ (list_any (same_atom b) longer || list_any (same_atom b) list))
        → list_any (same_atom b) (fold with_atom (with_atom found a) list) ≡ (list_any (same_atom b) found || (same_atom b a || list_any (same_atom b) list))
    by_case true t more =
        rw t (more found ∙ absorbed (list_any (same_atom b) found) (same_atom b a) (list_any (same_atom b) list) (there t))
    by_case false t more =
        rw t (more (found ++ a ∷ []) ∙ ap (λ x. x || list_any (same_atom b) list) (list_any-append (same_atom b) found (a ∷ []))
        ∙ regrouped (list_any (same_atom b) found) (same_atom b a) (list_any (same_atom b) list))

-- what a filter keeps of an atom
kept_by : (p : Atom → Bool) (b : Atom) (list : List Atom) → list_any (same_atom b) (filter p list) ≡ (p b && list_any (same_atom b) list)
kept_by p b [] = sym (and_false (p b))
kept_by p b (a ∷ list) = by_case (p a) refl (kept_by p b list)
  where
    by_case : (t : Bool) → p a ≡ t → list_any (same_atom b) (filter p list) ≡ (p b && list_any (same_atom b) list)
        → list_any (same_atom b) (filter p (a ∷ list)) ≡ (p b && (same_atom b a || list_any (same_atom b) list))
    by_case true t more =
        rw (t, more) (passing (p b) (same_atom b a) (list_any (same_atom b) list) (λ e. ap p (same_are b a e) ∙ t))
    by_case false t more =
        rw (t, more) (failing (p b) (same_atom b a) (list_any (same_atom b) list) (λ e. ap p (same_are b a e) ∙ t))

pub listed_exactly : (held wanted : List PolicyRule) (b : Atom)
    → list_any (same_atom b) (missing held wanted) ≡ (is_missing held b && list_any (same_atom b) (flat_map atoms wanted))
unfolding missing each_once
listed_exactly held wanted b =
    grown b [] (filter (is_missing held) (flat_map atoms wanted)) ∙ kept_by (is_missing held) b (flat_map atoms wanted)

-- ---- each once

apart : (list : List Atom) (a : Atom) → list_any (λ f. same_atom f a) list ≡ false
    → (k : ℕ) (d : Atom) → k < length list → same_atom (get_or list k d) a ≡ false
apart list a none k d within = by_case (same_atom (get_or list k d) a) refl
  where
    by_case : (t : Bool) → same_atom (get_or list k d) a ≡ t → same_atom (get_or list k d) a ≡ false
    by_case true t = absurd (let some = list_any_at (λ f. same_atom f a) list k d within t in cc)
    by_case false t = t

stays_apart : (found list : List Atom) → AllPairs (λ a b. same_atom a b ≡ false) found → AllPairs (λ a b. same_atom a b ≡ false) (fold with_atom found list)
stays_apart found [] pairs = pairs
stays_apart found (a ∷ list) pairs = by_case (list_any (λ f. same_atom f a) found) refl (λ longer. stays_apart longer list)
  where
    by_case : (t : Bool) → list_any (λ f. same_atom f a) found ≡ t
        → ((longer : List Atom) → AllPairs (λ x y. same_atom x y ≡ false) longer → AllPairs (λ x y. same_atom x y ≡ false) (fold with_atom longer list))
        → AllPairs (λ x y. same_atom x y ≡ false) (fold with_atom (with_atom found a) list)
    by_case true t more = rw t (more found pairs)
    by_case false t more = rw t (more (found ++ a ∷ []) (all_pairs_push (λ x y. same_atom x y ≡ false) found a pairs (apart found a t)))

pub listed_once : (held wanted : List PolicyRule) → AllPairs (λ a b. same_atom a b ≡ false) (missing held wanted)
unfolding missing each_once
listed_once held wanted = stays_apart [] (filter (is_missing held) (flat_map atoms wanted)) (λ i j d less within. absurd (omega arith))
