-- A rule by its atoms: some atom passes a test made of tests of the parts exactly if each list has an entry that passes
-- its own.
use Rattle.std.proofs.Common.{◌≡◌, ℕ, Bool, true, false, ◌&&◌, ◌||◌, List, [], ◌∷◌, length, map, refl, ap, ◌∙◌}
use Rattle.std.proofs.Math.Dec.{eqb-suc-zero}
use Rattle.std.proofs.lemmas.List.Folds.{list_any-append}
use Rattle.std.specs.List.{flat_map, list_any}
use Rattle.kapi_model.specs.declared.policy_rule.PolicyRule.{PolicyRule}
use Rattle.kapi_rules.specs.Atoms.{atom_allows, atoms, group_atoms, implies, listed_cover, lists_cover, names_allow, names_cover, names_of, resource_atom, resource_atoms, resource_covers, url_atom, url_atoms, verb_atoms}
use Rattle.kapi_rules.specs.Entries.{names_match, resource_matches, url_matches, word_matches}
use Rattle.kapi_rules.specs.Missing.{rule_implies}
use Rattle.kapi_rules.specs.Rules.{allows}
use Rattle.kapi_rules.specs.declared.atom.Atom.{Atom}
use Rattle.kapi_rules.specs.declared.atom.Atom.TheVariants as atom
use Rattle.kapi_rules.specs.declared.atom.Names.{Names}
use Rattle.kapi_rules.specs.declared.atom.Names.TheVariants as names
use Rattle.kapi_rules.specs.declared.atom.ResourceAtom.{ResourceAtom}
use Rattle.kapi_rules.specs.declared.atom.UrlAtom.{UrlAtom}
use Rattle.kapi_rules.specs.declared.point.Point.{Point}
use Rattle.kapi_rules.specs.declared.point.Point.TheVariants as point

-- ---- some element of a list

pub any_same : {X : Type 0} (p q : X → Bool) (xs : List X) → ((x : X) → p x ≡ q x) → list_any p xs ≡ list_any q xs
any_same p q [] same = refl
any_same p q (x ∷ xs) same = rw (same x, any_same p q xs same) refl

pub any_flat_map : {X Y : Type 0} (p : Y → Bool) (f : X → List Y) (xs : List X)
    → list_any p (flat_map f xs) ≡ list_any (λ x. list_any p (f x)) xs
any_flat_map p f [] = refl
any_flat_map p f (x ∷ xs) =
    list_any-append p (f x) (flat_map f xs) ∙ ap (λ t. list_any p (f x) || t) (any_flat_map p f xs)

pub any_map : {X Y : Type 0} (p : Y → Bool) (f : X → Y) (xs : List X) → list_any p (map f xs) ≡ list_any (λ x. p (f x)) xs
any_map p f [] = refl
any_map p f (x ∷ xs) = ap (λ t. p (f x) || t) (any_map p f xs)

pub any_never : {X : Type 0} (xs : List X) → list_any (λ x. false) xs ≡ false
any_never [] = refl
any_never (x ∷ xs) = any_never xs

-- a factor that is the same at each element
pub any_after : {X : Type 0} (c : Bool) (p : X → Bool) (xs : List X) → list_any (λ x. c && p x) xs ≡ (c && list_any p xs)
any_after true p xs = refl
any_after false p xs = any_never xs

pub any_before : {X : Type 0} (c : Bool) (p : X → Bool) (xs : List X) → list_any (λ x. p x && c) xs ≡ (list_any p xs && c)
any_before c p [] = refl
any_before c p (x ∷ xs) = ap (λ t. (p x && c) || t) (any_before c p xs) ∙ cases (p x) (list_any p xs) c
  where
    cases : (a b d : Bool) → ((a && d) || (b && d)) ≡ ((a || b) && d)
    cases true true true = refl
    cases true true false = refl
    cases true false true = refl
    cases true false false = refl
    cases false b d = refl

-- ---- tests of the parts of an atom

abbrev pub of_resource : (List ℕ → Bool) → (List ℕ → Bool) → (List ℕ → Bool) → (Names → Bool) → Atom → Bool
of_resource v g r n (atom.Resource a) = v a.verb && (g a.group && (r a.resource && n a.names))
of_resource v g r n (atom.Url a) = false

abbrev pub of_url : (List ℕ → Bool) → (List ℕ → Bool) → Atom → Bool
of_url v u (atom.Resource a) = false
of_url v u (atom.Url a) = v a.verb && u a.url

module _ (v g r : List ℕ → Bool) (n : Names → Bool) (rule : PolicyRule) where
  verb_passes : (group resource verb : List ℕ)
      → list_any (of_resource v g r n) (verb_atoms rule group resource verb)
      ≡ (v verb && (g group && (r resource && list_any n (names_of rule.resource_names))))
  verb_passes group resource verb =
      any_map (of_resource v g r n) (resource_atom verb group resource) (names_of rule.resource_names)
      ∙ any_after (v verb) (λ x. g group && (r resource && n x)) (names_of rule.resource_names)
      ∙ ap (λ t. v verb && t) (any_after (g group) (λ x. r resource && n x) (names_of rule.resource_names)
      ∙ ap (λ t. g group && t) (any_after (r resource) n (names_of rule.resource_names)))

  resource_passes : (group resource : List ℕ)
      → list_any (of_resource v g r n) (resource_atoms rule group resource)
      ≡ (list_any v rule.verbs && (g group && (r resource && list_any n (names_of rule.resource_names))))
  resource_passes group resource =
      any_flat_map (of_resource v g r n) (verb_atoms rule group resource) rule.verbs
      ∙ any_same _ _ rule.verbs (verb_passes group resource)
      ∙ any_before (g group && (r resource && list_any n (names_of rule.resource_names))) v rule.verbs

  group_passes : (group : List ℕ)
      → list_any (of_resource v g r n) (group_atoms rule group)
      ≡ (list_any v rule.verbs && (g group && (list_any r rule.resources && list_any n (names_of rule.resource_names))))
  group_passes group =
      any_flat_map (of_resource v g r n) (resource_atoms rule group) rule.resources
      ∙ any_same _ _ rule.resources (resource_passes group)
      ∙ any_after (list_any v rule.verbs) (λ x. g group && (r x && list_any n (names_of rule.resource_names))) rule.resources
      ∙ ap (λ t. list_any v rule.verbs && t) (any_after (g group) (λ x. r x && list_any n (names_of rule.resource_names)) rule.resources
      ∙ ap (λ t. g group && t) (any_before (list_any n (names_of rule.resource_names)) r rule.resources))

  groups_pass : list_any (of_resource v g r n) (flat_map (group_atoms rule) rule.api_groups)
      ≡ (list_any v rule.verbs && (list_any g rule.api_groups && (list_any r rule.resources && list_any n (names_of rule.resource_names))))
  groups_pass =
      any_flat_map (of_resource v g r n) (group_atoms rule) rule.api_groups
      ∙ any_same _ _ rule.api_groups group_passes
      ∙ any_after (list_any v rule.verbs) (λ x. g x && (list_any r rule.resources && list_any n (names_of rule.resource_names))) rule.api_groups
      ∙ ap (λ t. list_any v rule.verbs && t) (any_before (list_any r rule.resources && list_any n (names_of rule.resource_names)) g rule.api_groups)

  no_url_passes : list_any (of_resource v g r n) (flat_map (url_atoms rule) rule.non_resource_urls) ≡ false
  no_url_passes =
      any_flat_map (of_resource v g r n) (url_atoms rule) rule.non_resource_urls
      ∙ any_same _ _ rule.non_resource_urls (λ url. any_map (of_resource v g r n) (λ verb. url_atom verb url) rule.verbs ∙ any_never rule.verbs)
      ∙ any_never rule.non_resource_urls

  -- an atom on a resource passes exactly if each list has an entry that does
  pub resource_part : list_any (of_resource v g r n) (atoms rule)
      ≡ (list_any v rule.verbs && (list_any g rule.api_groups && (list_any r rule.resources && list_any n (names_of rule.resource_names))))
  unfolding atoms
  resource_part =
      list_any-append (of_resource v g r n) (flat_map (group_atoms rule) rule.api_groups) (flat_map (url_atoms rule) rule.non_resource_urls)
      ∙ rw (groups_pass, no_url_passes) (or_false _)
    where
      or_false : (t : Bool) → (t || false) ≡ t
      or_false true = refl
      or_false false = refl

module _ (v u : List ℕ → Bool) (rule : PolicyRule) where
  no_resource_passes : (group resource verb : List ℕ) → list_any (of_url v u) (verb_atoms rule group resource verb) ≡ false
  no_resource_passes group resource verb =
      any_map (of_url v u) (resource_atom verb group resource) (names_of rule.resource_names) ∙ any_never (names_of rule.resource_names)

  no_group_passes : list_any (of_url v u) (flat_map (group_atoms rule) rule.api_groups) ≡ false
  no_group_passes =
      any_flat_map (of_url v u) (group_atoms rule) rule.api_groups
      ∙ any_same _ _ rule.api_groups (λ group. any_flat_map (of_url v u) (resource_atoms rule group) rule.resources
      ∙ any_same _ _ rule.resources (λ resource. any_flat_map (of_url v u) (verb_atoms rule group resource) rule.verbs
      ∙ any_same _ _ rule.verbs (no_resource_passes group resource) ∙ any_never rule.verbs) ∙ any_never rule.resources)
      ∙ any_never rule.api_groups

  urls_pass : list_any (of_url v u) (flat_map (url_atoms rule) rule.non_resource_urls) ≡ (list_any v rule.verbs && list_any u rule.non_resource_urls)
  urls_pass =
      any_flat_map (of_url v u) (url_atoms rule) rule.non_resource_urls
      ∙ any_same _ _ rule.non_resource_urls (λ url. any_map (of_url v u) (λ verb. url_atom verb url) rule.verbs ∙ any_before (u url) v rule.verbs)
      ∙ any_after (list_any v rule.verbs) u rule.non_resource_urls

  -- an atom on a URL passes exactly if each list has an entry that does
  pub url_part : list_any (of_url v u) (atoms rule) ≡ (list_any v rule.verbs && list_any u rule.non_resource_urls)
  unfolding atoms
  url_part =
      list_any-append (of_url v u) (flat_map (group_atoms rule) rule.api_groups) (flat_map (url_atoms rule) rule.non_resource_urls)
      ∙ rw (no_group_passes, urls_pass) refl

-- ---- names

names_pass : (names : List (List ℕ)) (name : List ℕ) → list_any (λ a. names_allow a name) (names_of names) ≡ names_match names name
names_pass [] name = refl
names_pass (x ∷ xs) name = rw (eqb-suc-zero (length xs)) (any_map (λ a. names_allow a name) names.One (x ∷ xs))

names_covered : (listed : List (List ℕ)) (wanted : Names) → list_any (λ a. names_cover a wanted) (names_of listed) ≡ listed_cover listed wanted
names_covered [] wanted = refl
names_covered (x ∷ xs) names.All =
    rw (eqb-suc-zero (length xs)) (any_map (λ a. names_cover a names.All) names.One (x ∷ xs) ∙ any_never (x ∷ xs))
names_covered (x ∷ xs) (names.One name) =
    rw (eqb-suc-zero (length xs)) (any_map (λ a. names_cover a (names.One name)) names.One (x ∷ xs))

-- ---- what the parts say

-- a rule allows a point exactly if one of its atoms does
pub allowed_by_atom : (rule : PolicyRule) (p : Point) → list_any (λ a. atom_allows a p) (atoms rule) ≡ allows rule p
allowed_by_atom rule (point.Resource p) =
    any_same _ _ (atoms rule) split
    ∙ resource_part (λ e. word_matches e p.verb) (λ e. word_matches e p.group) (λ e. resource_matches e p.resource p.subresource) (λ a. names_allow a p.name) rule
    ∙ rw (names_pass rule.resource_names p.name) refl
  where
    split : (a : Atom) → atom_allows a (point.Resource p)
        ≡ of_resource (λ e. word_matches e p.verb) (λ e. word_matches e p.group) (λ e. resource_matches e p.resource p.subresource) (λ a. names_allow a p.name) a
    split (atom.Resource a) = refl
    split (atom.Url a) = refl
allowed_by_atom rule (point.Url p) =
    any_same _ _ (atoms rule) split ∙ url_part (λ e. word_matches e p.verb) (λ e. url_matches e p.path) rule
  where
    split : (a : Atom) → atom_allows a (point.Url p) ≡ of_url (λ e. word_matches e p.verb) (λ e. url_matches e p.path) a
    split (atom.Resource a) = refl
    split (atom.Url a) = refl

-- an atom of a rule implies another exactly if each part of that is covered by an entry of the rule
pub rule_implies_resource : (rule : PolicyRule) (b : ResourceAtom) → rule_implies rule (atom.Resource b) ≡ lists_cover rule (atom.Resource b)
unfolding rule_implies
rule_implies_resource rule b =
    any_same _ _ (atoms rule) split
    ∙ resource_part (λ e. word_matches e b.verb) (λ e. word_matches e b.group) (λ e. resource_covers e b.resource) (λ a. names_cover a b.names) rule
    ∙ rw (names_covered rule.resource_names b.names) refl
  where
    split : (a : Atom) → implies a (atom.Resource b)
        ≡ of_resource (λ e. word_matches e b.verb) (λ e. word_matches e b.group) (λ e. resource_covers e b.resource) (λ a. names_cover a b.names) a
    split (atom.Resource a) = refl
    split (atom.Url a) = refl

pub rule_implies_url : (rule : PolicyRule) (b : UrlAtom) → rule_implies rule (atom.Url b) ≡ lists_cover rule (atom.Url b)
unfolding rule_implies
rule_implies_url rule b =
    any_same _ _ (atoms rule) split ∙ url_part (λ e. word_matches e b.verb) (λ e. url_matches e b.url) rule
  where
    split : (a : Atom) → implies a (atom.Url b) ≡ of_url (λ e. word_matches e b.verb) (λ e. url_matches e b.url) a
    split (atom.Resource a) = refl
    split (atom.Url a) = refl
