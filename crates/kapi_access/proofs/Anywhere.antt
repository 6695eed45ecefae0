-- Who is listed in each scope is who holds a rule there.
use Rattle.std.proofs.Common.{◌≡◌, ℕ, Bool, true, false, ◌&&◌, ◌||◌, ◌==◌, if◌then◌else◌, List, [], ◌∷◌, length, map, Option, Some, None, refl, sym, ap, ◌∙◌}
use Rattle.std.specs.List.{list_any, position}
use Rattle.std.specs.Str.{bytes_eq}
use Rattle.kapi_text.proofs.Booleans.{and_false, and_true}
use Rattle.kapi_model.specs.declared.policy_rule.PolicyRule.{PolicyRule}
use Rattle.kapi_model.specs.declared.identity.Identity.{Identity}
use Rattle.kapi_model.specs.Identities.{is_master}
use Rattle.kapi_rules.proofs.Parts.{any_flat_map, any_same}
use Rattle.kapi_rules.specs.Rules.{allows}
use Rattle.kapi_rules.specs.declared.point.Point.{Point}
use Rattle.kapi_policy.proofs.Decisions.{allowed_where_held}
use Rattle.kapi_policy.specs.All.{all_bindings}
use Rattle.kapi_policy.specs.Decided.{Binding, held}
use Rattle.kapi_policy.specs.Objects.{PolicyObjects}
use Rattle.kapi_escalation_laws.specs.Access.{may}
use Rattle.kapi_access.specs.declared.grantee.Grantee.{Grantee}
use Rattle.kapi_access.specs.declared.first_ways.Listed.TheVariants as listed
use Rattle.kapi_access.specs.Grantees.{grantees, matches, role_of}
use Rattle.kapi_access.specs.Who.{Way, counts, first_ways, is_named_in, ways, ways_by, ways_of, who_anywhere}
use Rattle.kapi_access.proofs.Bound.{held_named}
use Rattle.kapi_access.proofs.First.{first_some}
use Rattle.kapi_access.proofs.Walks.{all_count}

module _ (identity : Identity) (namespace : List ℕ) where
  abbrev meant : Way → Bool
  meant w = matches w.to identity

  abbrev meant_there : Way → Bool
  meant_there w = matches w.to identity && counts namespace w.binding

  counting : (b : Binding) (rule : ℕ) (list : List Grantee) (c : Bool) → counts namespace b ≡ c
      → list_any meant (if c then map (λ to. record { to = to; binding = b; rule = rule }) list else []) ≡ list_any meant_there (map (λ to. record { to = to; binding = b; rule = rule }) list)
  counting b rule [] true is = refl
  counting b rule [] false is = refl
  counting b rule (to ∷ list) true is =
      let rest : Bool = list_any meant_there (map (λ (to : Grantee). record { to = to; binding = b; rule = rule }) list) in
      ap (λ t. matches to identity || t) (counting b rule list true is)
      ∙ ap (λ t. t || rest) (sym (and_true (matches to identity)))
      ∙ ap (λ c. (matches to identity && c) || rest) (sym is)
  counting b rule (to ∷ list) false is =
      let rest : Bool = list_any meant_there (map (λ (to : Grantee). record { to = to; binding = b; rule = rule }) list) in
      counting b rule list false is
      ∙ ap (λ t. t || rest) (sym (and_false (matches to identity)))
      ∙ ap (λ c. (matches to identity && c) || rest) (sym is)

  by_binding : (objects : PolicyObjects) (test : PolicyRule → Bool) (b : Binding) → list_any meant (if counts namespace b then ways_of objects test b else []) ≡ list_any meant_there (ways_of objects test b)
  by_binding objects test b = by_place (position test (role_of objects b))
    where
      none : (c : Bool) → list_any meant (if c then [] else []) ≡ false
      none true = refl
      none false = refl

      by_place : (o : Option ℕ) → list_any meant (if counts namespace b then ways_by b o else []) ≡ list_any meant_there (ways_by b o)
      by_place None = none (counts namespace b)
      by_place (Some rule) = counting b rule (grantees b) (counts namespace b) refl

  alike : (a b : Way) → a.to ≡ b.to → a.binding.namespace ≡ b.binding.namespace → meant_there a ≡ meant_there b
  alike a b to there =
      ap (λ g. matches g identity && counts namespace a.binding) to
      ∙ ap (λ (n : List ℕ). matches b.to identity && (length n == 0 || bytes_eq n namespace)) there

  -- a line names whom a binding that counts gives a rule that passes
  pub held_there : (objects : PolicyObjects) (test : PolicyRule → Bool)
      → list_any test (held objects identity namespace) ≡ is_named_in namespace (first_ways listed.InEachScope (ways objects test (all_bindings objects))) identity
  held_there objects test =
      held_named objects identity test namespace
      ∙ ap (list_any meant) (sym (all_count (ways_of objects test) objects namespace))
      ∙ any_flat_map meant (λ b. if counts namespace b then ways_of objects test b else []) (all_bindings objects)
      ∙ any_same _ _ (all_bindings objects) (by_binding objects test)
      ∙ sym (any_flat_map meant_there (ways_of objects test) (all_bindings objects))
      ∙ sym (first_some listed.InEachScope meant_there alike (ways objects test (all_bindings objects)))

  pub anywhere_is_exact : (objects : PolicyObjects) (p : Point) → may objects identity namespace p ≡ (is_master identity || is_named_in namespace (who_anywhere objects p) identity)
  unfolding who_anywhere
  anywhere_is_exact objects p = allowed_where_held objects identity namespace p ∙ ap (λ t. is_master identity || t) (held_there objects (λ rule. allows rule p))
