-- Lines by rules cover what lines by atoms cover.
use Rattle.std.proofs.Common.{◌≡◌, ◌⊎◌, inl, inr, ℕ, Bool, true, false, cond, not, ◌&&◌, ◌||◌, ◌==◌, if◌then◌else◌, List, [], ◌∷◌, ◌++◌, length, refl, sym, ap, subst, ◌∙◌}
use Rattle.std.proofs.lemmas.Bool.{and_from, and_parts, or_cases, or_left, or_right}
use Rattle.std.proofs.lemmas.List.Folds.{list_any-append}
use Rattle.std.specs.List.{filter, flat_map, fold, list_any}
use Rattle.std.specs.Str.{bytes_eq}
use Rattle.kapi_text.proofs.Booleans.{or_assoc, or_false}
use Rattle.kapi_model.specs.declared.policy_rule.PolicyRule.{PolicyRule}
use Rattle.kapi_model.specs.declared.identity.Identity.{Identity}
use Rattle.kapi_rules.proofs.Covers.{itself, same}
use Rattle.kapi_rules.proofs.Parts.{any_flat_map, any_map, any_same}
use Rattle.kapi_rules.specs.Atoms.{atom_allows}
use Rattle.kapi_rules.specs.Rules.{allows}
use Rattle.kapi_rules.specs.declared.point.Point.{Point}
use Rattle.kapi_policy.specs.Decided.{Binding}
use Rattle.kapi_aggregation.proofs.Lists.{some_at}
use Rattle.kapi_escalation_laws.proofs.Elements.{passing}
use Rattle.kapi_object.proofs.Clean.{none_if}
use Rattle.kapi_access.specs.Answers.{grave_first}
use Rattle.kapi_access.specs.Gained.{Gained, GainedAtoms, GainedRule, IsReported, IsReportedByRule, by_rule, is_alike, rules_gained, with_gain}
use Rattle.kapi_access.specs.Grantees.{matches}
use Rattle.kapi_access.specs.Risks.{is_grave}
use Rattle.kapi_access.specs.Together.{together}
use Rattle.kapi_access.specs.Who.{counts, same_grantee}
use Rattle.kapi_access.proofs.First.{same_is}
use Rattle.kapi_access.proofs.Joined.{together_allows}

-- ---- tests

alone_once : (m c a : Bool) → ((m && (c && (a || false))) || false) ≡ (m && (c && a))
alone_once true true true = refl
alone_once true true false = refl
alone_once true false a = refl
alone_once false c a = refl

one_later : (x y : Bool) → (x || (y || false)) ≡ ((x || false) || y)
one_later true y = refl
one_later false true = refl
one_later false false = refl

one_within : (m c x a : Bool) → ((m && (c && (x || (a || false)))) || false) ≡ (((m && (c && x)) || false) || (m && (c && a)))
one_within true true true a = refl
one_within true true false true = refl
one_within true true false false = refl
one_within true false x a = refl
one_within false c x a = refl

out_of_any : {X : Type 0} (m : Bool) (f : X → Bool) (xs : List X) → list_any (λ x. m && f x) xs ≡ (m && list_any f xs)
out_of_any true f [] = refl
out_of_any true f (x ∷ xs) = ap (λ t. f x || t) (out_of_any true f xs)
out_of_any false f [] = refl
out_of_any false f (x ∷ xs) = out_of_any false f xs

-- the elements that pass a test, and then the others, are all of them
parted : {X : Type 0} (f test : X → Bool) (xs : List X) → (list_any f (filter test xs) || list_any f (filter (λ x. not (test x)) xs)) ≡ list_any f xs
parted f test [] = refl
parted f test (x ∷ xs) = by_test (test x) (list_any f (filter test xs)) (list_any f (filter (λ x. not (test x)) xs)) refl (parted f test xs)
  where
    swapped : (a b c : Bool) → (a || (b || c)) ≡ (b || (a || c))
    swapped true true c = refl
    swapped true false c = refl
    swapped false b c = refl

    by_test : (t a b : Bool) → test x ≡ t → (list_any f (filter test xs) || list_any f (filter (λ x. not (test x)) xs)) ≡ list_any f xs
        → (list_any f (cond t (x ∷ filter test xs) (filter test xs)) || list_any f (cond (not t) (x ∷ filter (λ x. not (test x)) xs) (filter (λ x. not (test x)) xs))) ≡ (f x || list_any f xs)
    by_test true a b is more = or_assoc (f x) (list_any f (filter test xs)) (list_any f (filter (λ x. not (test x)) xs)) ∙ ap (λ t. f x || t) more
    by_test false a b is more = swapped (list_any f (filter test xs)) (f x) (list_any f (filter (λ x. not (test x)) xs)) ∙ ap (λ t. f x || t) more

-- ---- where bindings count

counted : (namespace : List ℕ) (b : Binding) → (b.namespace ≡ []) ⊎ (b.namespace ≡ namespace) → counts namespace b ≡ true
counted namespace b (inl wide) = or_left _ _ (ap (λ (n : List ℕ). length n == 0) wide)
counted namespace b (inr there) = or_right _ _ (subst (λ n. bytes_eq b.namespace n ≡ true) there (itself b.namespace))

where_counted : (namespace : List ℕ) (b : Binding) → counts namespace b ≡ true → (b.namespace ≡ []) ⊎ (b.namespace ≡ namespace)
where_counted namespace b h = by_case (or_cases (length b.namespace == 0) (bytes_eq b.namespace namespace) h)
  where
    by_case : ((length b.namespace == 0) ≡ true) ⊎ (bytes_eq b.namespace namespace ≡ true) → (b.namespace ≡ []) ⊎ (b.namespace ≡ namespace)
    by_case (inl wide) = inl (none_if b.namespace wide)
    by_case (inr there) = inr (same b.namespace namespace there)

module _ (identity : Identity) (namespace : List ℕ) (p : Point) where
  abbrev by_atom : Gained → Bool
  by_atom g = matches g.to identity && (counts namespace g.binding && atom_allows g.gain p)

  abbrev by_atoms : GainedAtoms → Bool
  by_atoms l = matches l.to identity && (counts namespace l.binding && list_any (λ a. atom_allows a p) l.atoms)

  abbrev by_a_rule : GainedRule → Bool
  by_a_rule g = matches g.to identity && (counts namespace g.binding && allows g.gain p)

  -- a line with one atom more
  one_atom : (l : GainedAtoms) (g : Gained) → is_alike l g ≡ true
      → list_any by_atoms (record l { atoms = l.atoms ++ g.gain ∷ [] } ∷ []) ≡ (list_any by_atoms (l ∷ []) || by_atom g)
  one_atom l g alike =
      let one = and_parts (l.rule == g.rule) _ alike in
      let two = and_parts (same_grantee l.to g.to) _ one.1 in
      let three = and_parts (bytes_eq l.binding.namespace g.binding.namespace) _ two.1 in
      let meant = ap (λ t. matches t identity) (same_is l.to g.to two.0) in
      let there = ap (λ (n : List ℕ). length n == 0 || bytes_eq n namespace) (same l.binding.namespace g.binding.namespace three.0) in
      let some = list_any (λ a. atom_allows a p) l.atoms in
      ap (λ t. (matches l.to identity && (counts namespace l.binding && t)) || false) (list_any-append (λ a. atom_allows a p) l.atoms (g.gain ∷ []))
      ∙ one_within (matches l.to identity) (counts namespace l.binding) some (atom_allows g.gain p)
      ∙ ap (λ m. (by_atoms l || false) || (m && (counts namespace l.binding && atom_allows g.gain p))) meant
      ∙ ap (λ c. (by_atoms l || false) || (matches g.to identity && (c && atom_allows g.gain p))) there

  one_more : (lines : List GainedAtoms) (g : Gained) → list_any by_atoms (with_gain lines g) ≡ (list_any by_atoms lines || by_atom g)
  unfolding with_gain
  one_more [] g = alone_once (matches g.to identity) (counts namespace g.binding) (atom_allows g.gain p)
  one_more (l ∷ []) g = by_case (is_alike l g) refl
    where
      own : GainedAtoms
      own = record { to = g.to; binding = g.binding; rule = g.rule; atoms = g.gain ∷ [] }

      by_case : (t : Bool) → is_alike l g ≡ t → list_any by_atoms (if t then record l { atoms = l.atoms ++ g.gain ∷ [] } ∷ [] else l ∷ own ∷ []) ≡ (list_any by_atoms (l ∷ []) || by_atom g)
      by_case true alike = one_atom l g alike
      by_case false other =
          ap (λ t. by_atoms l || t) (alone_once (matches g.to identity) (counts namespace g.binding) (atom_allows g.gain p)) ∙ at_end (by_atoms l) (by_atom g)
        where
          at_end : (x y : Bool) → (x || y) ≡ ((x || false) || y)
          at_end true y = refl
          at_end false y = refl
  one_more (l ∷ m ∷ lines) g = ap (λ t. by_atoms l || t) (one_more (m ∷ lines) g) ∙ sym (or_assoc (by_atoms l) (list_any by_atoms (m ∷ lines)) (by_atom g))

  all_more : (lines : List GainedAtoms) (gains : List Gained) → list_any by_atoms (fold with_gain lines gains) ≡ (list_any by_atoms lines || list_any by_atom gains)
  all_more lines [] = sym (or_false (list_any by_atoms lines))
  all_more lines (g ∷ gains) =
      all_more (with_gain lines g) gains ∙ ap (λ t. t || list_any by_atom gains) (one_more lines g) ∙ or_assoc (list_any by_atoms lines) (by_atom g) (list_any by_atom gains)

  of_line : (l : GainedAtoms) → list_any by_a_rule (rules_gained l) ≡ by_atoms l
  of_line l =
      let m = matches l.to identity in
      let c = counts namespace l.binding in
      any_map by_a_rule (λ (r : PolicyRule). record { to = l.to; binding = l.binding; rule = l.rule; gain = r }) (together l.atoms)
      ∙ out_of_any m (λ r. c && allows r p) (together l.atoms)
      ∙ ap (λ t. m && t) (out_of_any c (λ r. allows r p) (together l.atoms) ∙ ap (λ t. c && t) (together_allows l.atoms p))

  by_either : (gains : List Gained) → list_any by_a_rule (grave_first (by_rule gains)) ≡ list_any by_atom gains
  unfolding by_rule
  by_either gains =
      let lines = fold with_gain [] gains in
      list_any-append by_a_rule (filter (λ (g : GainedRule). is_grave g.gain) (flat_map rules_gained lines)) (filter (λ (g : GainedRule). not (is_grave g.gain)) (flat_map rules_gained lines))
      ∙ parted by_a_rule (λ (g : GainedRule). is_grave g.gain) (flat_map rules_gained lines)
      ∙ any_flat_map by_a_rule rules_gained lines ∙ any_same _ _ lines of_line ∙ all_more [] gains

  pub rules_cover : (gains : List Gained) → IsReported gains identity namespace p → IsReportedByRule (grave_first (by_rule gains)) identity namespace p
  rules_cover gains r =
      let covered = some_at by_atom gains r.line r.listed (and_from _ _ r.meant (and_from _ _ (counted namespace r.line.binding r.there) r.allowed)) in
      let found = passing by_a_rule (grave_first (by_rule gains)) (by_either gains ∙ covered) in
      let one = and_parts _ _ found.1.1 in
      let two = and_parts _ _ one.1 in
      record { line = found.0; listed = found.1.0; meant = one.0; there = where_counted namespace found.0.binding two.0; allowed = two.1 }

  pub atoms_cover : (gains : List Gained) → IsReportedByRule (grave_first (by_rule gains)) identity namespace p → IsReported gains identity namespace p
  atoms_cover gains r =
      let covered = some_at by_a_rule (grave_first (by_rule gains)) r.line r.listed (and_from _ _ r.meant (and_from _ _ (counted namespace r.line.binding r.there) r.allowed)) in
      let found = passing by_atom gains (sym (by_either gains) ∙ covered) in
      let one = and_parts _ _ found.1.1 in
      let two = and_parts _ _ one.1 in
      record { line = found.0; listed = found.1.0; meant = one.0; there = where_counted namespace found.0.binding two.0; allowed = two.1 }
