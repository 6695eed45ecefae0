-- Rules that come once are the same rules.
use Rattle.std.proofs.Common.{◌≡◌, ℕ, Bool, true, false, cond, not, ◌||◌, List, [], ◌∷◌, ◌++◌, refl, sym, ap, subst, ◌∙◌}
use denote.Bor.{Bor}
use Rattle.std.proofs.lemmas.Bool.{or_left, or_right}
use Rattle.std.proofs.lemmas.List.Folds.{list_any-append}
use Rattle.std.proofs.lemmas.Map.Text.{is_eq-slice_cmp}
use Rattle.std.proofs.lemmas.Slice.Eq.{bytes_eq-Decides}
use Rattle.std.specs.BTreeMap.{is_at}
use Rattle.std.specs.BTreeSet.{BTreeSet, contains}
use Rattle.std.specs.List.{flat_map, list_any}
use Rattle.std.specs.Option.{unwrap_or}
use Rattle.std.specs.Str.{bytes_eq}
use Rattle.kapi_model.specs.declared.binding.RoleBinding.{RoleBinding}
use Rattle.kapi_model.specs.declared.identity.Identity.{Identity}
use Rattle.kapi_model.specs.declared.kinds.RoleKind.{RoleKind}
use Rattle.kapi_model.specs.declared.policy_rule.PolicyRule.{PolicyRule}
use Rattle.kapi_model.specs.declared.role_ref.RoleRef.{RoleRef}
use Rattle.kapi_policy.proofs.Firsts.{flat_map_append}
use Rattle.kapi_policy.specs.Decided.{Binding, rules_of, rules_of_kind}
use Rattle.kapi_policy.specs.Laws.{AreSameRules}
use Rattle.kapi_policy.specs.Objects.{PolicyObjects}
use Rattle.kapi_policy.specs.declared.decision.BindingKind.{BindingKind}
use Rattle.kapi_index.proofs.Walks.{all_given, given_step}
use Rattle.kapi_index.specs.Scopes.{Scoped, matches}
use Rattle.kapi_index.specs.Taken.{AreListed, by_bytes}

-- ---- the rules of some roles in a list

module _ (objects : PolicyObjects) (ns : List ℕ) (kind : RoleKind) (names : BTreeSet (Bor (List ℕ))) (list : List PolicyRule) where
  abbrev rules_at : List ℕ → List PolicyRule
  rules_at name = unwrap_or (rules_of_kind objects kind name ns) []

  pub none_listed : names.keys ≡ [] → AreListed objects ns kind names list
  none_listed none name has test passes = absurd (let never = rw none at has in cc)

  -- a longer list has them too
  pub listed_in_more : (more longer : List PolicyRule) → AreSameRules longer (list ++ more) → AreListed objects ns kind names list → AreListed objects ns kind names longer
  listed_in_more more longer same listed name has test passes =
      same test ∙ list_any-append test list more ∙ or_left _ _ (listed name has test passes)

  -- the list with the rules of one more role
  pub listed_with : (new : BTreeSet (Bor (List ℕ))) (name : Bor (List ℕ)) → ((q : Bor (List ℕ)) → contains by_bytes new q ≡ cond (is_at (by_bytes name) q) true (contains by_bytes names q))
      → AreListed objects ns kind names list → AreListed objects ns kind new (list ++ unwrap_or (rules_of_kind objects kind name.now ns) [])
  listed_with new name put listed q has test passes =
      list_any-append test list (rules_at name.now) ∙ by_test (bytes_eq name.now q.now) refl
    where
      by_test : (b : Bool) → bytes_eq name.now q.now ≡ b → (list_any test list || list_any test (rules_at name.now)) ≡ true
      by_test true is = or_right _ _ (ap (λ n. list_any test (rules_at n)) ((bytes_eq-Decides name.now q.now).0 is) ∙ passes)
      by_test false is =
          or_left _ _ (listed q (ap (λ t. cond t true (contains by_bytes names q)) (sym (is_eq-slice_cmp name.now q.now ∙ is)) ∙ sym (put q) ∙ has) test passes)

-- what implies the first of two adds nothing
adds_nothing : (a b : Bool) → (b ≡ true → a ≡ true) → a ≡ (a || b)
adds_nothing true b there = refl
adds_nothing false true there = there refl
adds_nothing false false there = refl

-- the rules of a role whose rules are in the list add nothing
pub same_with : (list more : List PolicyRule) → ((test : PolicyRule → Bool) → list_any test more ≡ true → list_any test list ≡ true) → AreSameRules list (list ++ more)
same_with list more within test = adds_nothing (list_any test list) (list_any test more) (within test) ∙ sym (list_any-append test list more)

-- a role that was taken before
pub taken_before : (objects : PolicyObjects) (ns : List ℕ) (role : RoleRef) (names : BTreeSet (Bor (List ℕ))) (list : List PolicyRule) (name : Bor (List ℕ)) (new : Bool)
    → name.now ≡ role.name → new ≡ not (contains by_bytes names name) → new ≡ false → AreListed objects ns role.kind names list
    → AreSameRules list (list ++ unwrap_or (rules_of objects role ns) [])
unfolding rules_of
taken_before objects ns role names list name new same added known listed =
    same_with list _ (λ test passes. listed name (turned_over new (contains by_bytes names name) added known) test
    (ap (λ n. list_any test (unwrap_or (rules_of_kind objects role.kind n ns) [])) same ∙ passes))
  where
    turned_over : (a b : Bool) → a ≡ not b → a ≡ false → b ≡ true
    turned_over a true is old = refl
    turned_over a false is old = absurd (let never = rw is at old in cc)

-- a role that is taken now
pub taken_now : (objects : PolicyObjects) (ns : List ℕ) (role : RoleRef) (names new : BTreeSet (Bor (List ℕ))) (list longer : List PolicyRule) (name : Bor (List ℕ))
    → name.now ≡ role.name → longer ≡ list ++ unwrap_or (rules_of objects role ns) []
    → ((q : Bor (List ℕ)) → contains by_bytes new q ≡ cond (is_at (by_bytes name) q) true (contains by_bytes names q))
    → AreListed objects ns role.kind names list → AreListed objects ns role.kind new longer
unfolding rules_of
taken_now objects ns role names new list longer name same is put listed =
    subst (AreListed objects ns role.kind new) (sym (is ∙ ap (λ n. list ++ unwrap_or (rules_of_kind objects role.kind n ns) []) (sym same)))
    (listed_with objects ns role.kind names list new name put listed)

-- the kind that was met
pub of_kind : (objects : PolicyObjects) (ns : List ℕ) (met kind : RoleKind) (names : BTreeSet (Bor (List ℕ))) (list : List PolicyRule) → met ≡ kind
    → AreListed objects ns met names list → AreListed objects ns kind names list
of_kind objects ns met kind names list is = subst (λ k. AreListed objects ns k names list) is

-- ---- the same rules behind one another

pub same_before : (some others more : List PolicyRule) → AreSameRules some others → AreSameRules (some ++ more) (others ++ more)
same_before some others more same test =
    list_any-append test some more ∙ ap (λ b. b || list_any test more) (same test) ∙ sym (list_any-append test others more)

pub once_step : (objects : PolicyObjects) (identity : Identity) (k : BindingKind) (s : Scoped) (before after whole : List PolicyRule) (here rest : List (List ℕ × RoleBinding)) (e : List ℕ × RoleBinding)
    → here ≡ e ∷ rest → matches s.namespace identity e.1 ≡ true
    → AreSameRules (before ++ all_given objects identity k s here) whole → AreSameRules after (before ++ unwrap_or (rules_of objects e.1.role_ref s.namespace) [])
    → AreSameRules (after ++ all_given objects identity k s rest) whole
once_step objects identity k s before after whole here rest e split meant same pushed test =
    same_before after (before ++ unwrap_or (rules_of objects e.1.role_ref s.namespace) []) (all_given objects identity k s rest) pushed test
    ∙ ap (list_any test) (given_step objects identity k s before _ _ here rest e split meant refl refl) ∙ same test

-- the rules by two lists of bindings, those of the first put into an empty list
pub once_all : (f : Binding → List PolicyRule) (some found others : List Binding) (empty first second : List PolicyRule) → empty ≡ [] → some ≡ found
    → AreSameRules first (empty ++ flat_map f found) → AreSameRules second (first ++ flat_map f others) → AreSameRules second (flat_map f (some ++ others))
once_all f some found others empty first second none is one two test =
    two test ∙ same_before first (empty ++ flat_map f found) (flat_map f others) one test
    ∙ ap (λ l. list_any test ((l ++ flat_map f found) ++ flat_map f others)) none
    ∙ ap (λ l. list_any test (flat_map f l ++ flat_map f others)) (sym is)
    ∙ ap (list_any test) (sym (flat_map_append f some others))
