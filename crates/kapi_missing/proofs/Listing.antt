-- What is left of a rule's lists are its atoms that are not stopped.
use Rattle.std.proofs.Common.{◌≡◌, ℕ, ◌==◌, Bool, true, false, not, ◌&&◌, ◌||◌, if◌then◌else◌, List, [], ◌∷◌, ◌++◌, length, map, refl, ap, ap₂, sym, ◌∙◌}
use Rattle.std.proofs.Math.Dec.{eqb-suc-zero}
use Rattle.std.proofs.lemmas.Grind.{flat_map-append}
use Rattle.std.proofs.lemmas.List.Folds.{list_any-append}
use Rattle.std.specs.List.{filter, flat_map, list_any}
use Rattle.std.specs.Str.{bytes_eq}
use Rattle.kapi_text.proofs.Booleans.{or_false}
use Rattle.kapi_model.specs.declared.policy_rule.PolicyRule.{PolicyRule}
use Rattle.kapi_rules.proofs.Parts.{any_map, any_never, any_same, of_resource, of_url, resource_part, rule_implies_resource, rule_implies_url, url_part}
use Rattle.kapi_rules.specs.Atoms.{atoms, group_atoms, listed_cover, names_of, resource_atom, resource_atoms, resource_covers, url_atom, url_atoms, verb_atoms}
use Rattle.kapi_rules.specs.Entries.{url_matches, word_matches}
use Rattle.kapi_rules.specs.Missing.{missing, rule_implies, same_atom, same_names}
use Rattle.kapi_rules.specs.declared.atom.Atom.{Atom}
use Rattle.kapi_rules.specs.declared.atom.Atom.TheVariants as atom
use Rattle.kapi_rules.specs.declared.atom.Names.{Names}
use Rattle.kapi_rules.specs.declared.atom.Names.TheVariants as names
use Rattle.kapi_missing.proofs.Repeats.{either_way, filter_append, has_atom, missing_more}
use Rattle.kapi_missing.specs.Private.Left.{atoms_of, left, left_atoms, resource_lists, url_lists}
use Rattle.kapi_missing.specs.Private.Once.{is_covered, once}
use Rattle.kapi_missing.specs.Private.Stoppers.{Item, Stopper, earlier_one, held_one, lists, meets, names_item, stoppers, word_in}
use Rattle.kapi_missing.specs.declared.rows.List.TheVariants as of

-- ---- lists of lists

map_as_flat : {X : Type 0} (f : X → Atom) (xs : List X) → map f xs ≡ flat_map (λ x. f x ∷ []) xs
map_as_flat f [] = refl
map_as_flat f (x ∷ xs) = ap (λ r. f x ∷ r) (map_as_flat f xs)

flat_of_map : (f : List Item → List Atom) (i : Item) (choices : List (List Item)) → flat_map f (map (λ c. i ∷ c) choices) ≡ flat_map (λ c. f (i ∷ c)) choices
flat_of_map f i [] = refl
flat_of_map f i (c ∷ choices) = ap (λ r. f (i ∷ c) ++ r) (flat_of_map f i choices)

-- the atoms of a list of entries are those that pass, if they are so below each entry
level : {X : Type 0} (q : Atom → Bool) (f : List Item → List Atom) (g : Item → List (List Item)) (k : X → Item) (h : X → List Atom)
    → ((x : X) → flat_map (λ c. f (k x ∷ c)) (g (k x)) ≡ filter q (h x))
    → (xs : List X) → flat_map f (flat_map (λ i. map (λ c. i ∷ c) (g i)) (map k xs)) ≡ filter q (flat_map h xs)
level q f g k h same [] = refl
level q f g k h same (x ∷ xs) =
    flat_map-append f (map (λ c. k x ∷ c) (g (k x))) (flat_map (λ i. map (λ c. i ∷ c) (g i)) (map k xs))
    ∙ ap₂ (λ a b. a ++ b) (flat_of_map f (k x) (g (k x)) ∙ same x) (level q f g k h same xs)
    ∙ sym (filter_append q (h x) (flat_map h xs))

alone : (q : Atom → Bool) (f : List Item → List Atom) (a : Atom) (t stopped : Bool) → f [] ≡ a ∷ [] → q a ≡ not stopped → t ≡ stopped
    → flat_map f (if t then [] else [] ∷ []) ≡ filter q (a ∷ [])
alone q f a true true is keeps same = rw keeps refl
alone q f a false false is keeps same = rw keeps (ap (λ r. r ++ []) is)
alone q f a true false is keeps same = absurd cc
alone q f a false true is keeps same = absurd cc

-- ---- what rules stop

reordered : (g r v n : Bool) → (((g && r) && v) && n) ≡ (v && (g && (r && n)))
reordered true true true n = refl
reordered true true false n = refl
reordered true false true n = refl
reordered true false false n = refl
reordered false r true n = refl
reordered false r false n = refl

url_reordered : (u v : Bool) → (u && v) ≡ (v && u)
url_reordered true true = refl
url_reordered true false = refl
url_reordered false true = refl
url_reordered false false = refl

module _ (b : PolicyRule) where
  held_name : (n : Names) → meets (names_item n) (held_one b) ≡ listed_cover b.resource_names n
  held_name names.All = sym (or_false (length b.resource_names == 0))
  held_name (names.One name) = refl

  own_all : (own : List (List ℕ)) → (length own == 0) ≡ list_any (λ m. same_names m names.All) (names_of own)
  own_all [] = refl
  own_all (y ∷ ys) = rw (eqb-suc-zero (length ys)) (sym (any_map (λ m. same_names m names.All) names.One (y ∷ ys) ∙ any_never (y ∷ ys)))

  own_one : (own : List (List ℕ)) (name : List ℕ) → list_any (λ m. bytes_eq m name) own ≡ list_any (λ m. same_names m (names.One name)) (names_of own)
  own_one [] name = refl
  own_one (y ∷ ys) name = rw (eqb-suc-zero (length ys)) (sym (any_map (λ m. same_names m (names.One name)) names.One (y ∷ ys)))

  own_name : (n : Names) → meets (names_item n) (earlier_one b) ≡ list_any (λ m. same_names m n) (names_of b.resource_names)
  own_name names.All = own_all b.resource_names
  own_name (names.One name) = own_one b.resource_names name

module _ (g r v : List ℕ) (n : Names) where
  abbrev meets_all : Stopper → Bool
  meets_all s = (((true && meets (word_in of.Groups g) s) && meets (word_in of.Resources r) s) && meets (word_in of.Verbs v) s) && meets (names_item n) s

  held_stops : (b : PolicyRule) → meets_all (held_one b) ≡ rule_implies b (resource_atom v g r n)
  held_stops b =
      ap (λ t. ((list_any (λ e. word_matches e g) b.api_groups && list_any (λ e. resource_covers e r) b.resources) && list_any (λ e. word_matches e v) b.verbs) && t) (held_name b n)
      ∙ reordered (list_any (λ e. word_matches e g) b.api_groups) (list_any (λ e. resource_covers e r) b.resources) (list_any (λ e. word_matches e v) b.verbs) (listed_cover b.resource_names n)
      ∙ sym (rule_implies_resource b (record { verb = v; group = g; resource = r; names = n }))

  own_stops : (b : PolicyRule) → meets_all (earlier_one b) ≡ has_atom (atoms b) (resource_atom v g r n)
  own_stops b =
      ap (λ t. ((lists b.api_groups g && lists b.resources r) && lists b.verbs v) && t) (own_name b n)
      ∙ reordered (lists b.api_groups g) (lists b.resources r) (lists b.verbs v) (list_any (λ m. same_names m n) (names_of b.resource_names))
      ∙ sym (resource_part (λ e. bytes_eq e v) (λ e. bytes_eq e g) (λ e. bytes_eq e r) (λ m. same_names m n) b)
      ∙ sym (any_same _ _ (atoms b) split) ∙ either_way (resource_atom v g r n) (atoms b)
    where
      split : (a : Atom) → same_atom a (resource_atom v g r n) ≡ of_resource (λ e. bytes_eq e v) (λ e. bytes_eq e g) (λ e. bytes_eq e r) (λ m. same_names m n) a
      split (atom.Resource a) = refl
      split (atom.Url a) = refl

  stops : (held before : List PolicyRule) → list_any meets_all (stoppers held before) ≡ is_covered held before (resource_atom v g r n)
  stops held before =
      list_any-append meets_all (map held_one held) (map earlier_one before)
      ∙ ap₂ (λ x y. x || y)
      (any_map meets_all held_one held ∙ any_same (λ b. meets_all (held_one b)) (λ b. rule_implies b (resource_atom v g r n)) held held_stops)
      (any_map meets_all earlier_one before ∙ any_same (λ b. meets_all (earlier_one b)) (λ b. has_atom (atoms b) (resource_atom v g r n)) before own_stops)

module _ (u v : List ℕ) where
  abbrev meets_both : Stopper → Bool
  meets_both s = (true && meets (word_in of.Urls u) s) && meets (word_in of.Verbs v) s

  held_url_stops : (b : PolicyRule) → meets_both (held_one b) ≡ rule_implies b (url_atom v u)
  held_url_stops b =
      url_reordered (list_any (λ e. url_matches e u) b.non_resource_urls) (list_any (λ e. word_matches e v) b.verbs)
      ∙ sym (rule_implies_url b (record { verb = v; url = u }))

  own_url_stops : (b : PolicyRule) → meets_both (earlier_one b) ≡ has_atom (atoms b) (url_atom v u)
  own_url_stops b =
      url_reordered (lists b.non_resource_urls u) (lists b.verbs v)
      ∙ sym (url_part (λ e. bytes_eq e v) (λ e. bytes_eq e u) b)
      ∙ sym (any_same _ _ (atoms b) split) ∙ either_way (url_atom v u) (atoms b)
    where
      split : (a : Atom) → same_atom a (url_atom v u) ≡ of_url (λ e. bytes_eq e v) (λ e. bytes_eq e u) a
      split (atom.Resource a) = refl
      split (atom.Url a) = refl

  url_stops : (held before : List PolicyRule) → list_any meets_both (stoppers held before) ≡ is_covered held before (url_atom v u)
  url_stops held before =
      list_any-append meets_both (map held_one held) (map earlier_one before)
      ∙ ap₂ (λ x y. x || y)
      (any_map meets_both held_one held ∙ any_same (λ b. meets_both (held_one b)) (λ b. rule_implies b (url_atom v u)) held held_url_stops)
      (any_map meets_both earlier_one before ∙ any_same (λ b. meets_both (earlier_one b)) (λ b. has_atom (atoms b) (url_atom v u)) before own_url_stops)

-- ---- what is left

module _ (held before : List PolicyRule) where
  abbrev is_left : Atom → Bool
  is_left a = not (is_covered held before a)

  leaf : (g r v : List ℕ) (n : Names)
      → flat_map (λ c. atoms_of (word_in of.Groups g ∷ word_in of.Resources r ∷ word_in of.Verbs v ∷ names_item n ∷ c)) (left (stoppers held before) (meets_all g r v n) [])
      ≡ filter is_left (resource_atom v g r n ∷ [])
  leaf g r v n =
      alone is_left (λ c. atoms_of (word_in of.Groups g ∷ word_in of.Resources r ∷ word_in of.Verbs v ∷ names_item n ∷ c)) (resource_atom v g r n)
      (list_any (meets_all g r v n) (stoppers held before)) (is_covered held before (resource_atom v g r n)) (its n) refl (stops g r v n held before)
    where
      its : (n : Names) → atoms_of (word_in of.Groups g ∷ word_in of.Resources r ∷ word_in of.Verbs v ∷ names_item n ∷ []) ≡ resource_atom v g r n ∷ []
      its names.All = refl
      its (names.One name) = refl

  pub resources_left : (w : PolicyRule) → left_atoms (stoppers held before) (resource_lists w) ≡ filter (λ a. not (is_covered held before a)) (flat_map (group_atoms w) w.api_groups)
  resources_left w =
      level is_left atoms_of _ (word_in of.Groups) (group_atoms w) (λ g.
      level is_left (λ c. atoms_of (word_in of.Groups g ∷ c)) _ (word_in of.Resources) (resource_atoms w g) (λ r.
      level is_left (λ c. atoms_of (word_in of.Groups g ∷ word_in of.Resources r ∷ c)) _ (word_in of.Verbs) (verb_atoms w g r) (λ v.
      level is_left (λ c. atoms_of (word_in of.Groups g ∷ word_in of.Resources r ∷ word_in of.Verbs v ∷ c)) _ names_item (λ n. resource_atom v g r n ∷ []) (leaf g r v) (names_of w.resource_names)
      ∙ ap (filter is_left) (sym (map_as_flat (resource_atom v g r) (names_of w.resource_names)))) w.verbs) w.resources) w.api_groups

  url_leaf : (u v : List ℕ)
      → flat_map (λ c. atoms_of (word_in of.Urls u ∷ word_in of.Verbs v ∷ c)) (left (stoppers held before) (meets_both u v) []) ≡ filter is_left (url_atom v u ∷ [])
  url_leaf u v =
      alone is_left (λ c. atoms_of (word_in of.Urls u ∷ word_in of.Verbs v ∷ c)) (url_atom v u)
      (list_any (meets_both u v) (stoppers held before)) (is_covered held before (url_atom v u)) refl refl (url_stops u v held before)

  pub urls_left : (w : PolicyRule) → left_atoms (stoppers held before) (url_lists w) ≡ filter (λ a. not (is_covered held before a)) (flat_map (url_atoms w) w.non_resource_urls)
  urls_left w =
      level is_left atoms_of _ (word_in of.Urls) (url_atoms w) (λ u.
      level is_left (λ c. atoms_of (word_in of.Urls u ∷ c)) _ (word_in of.Verbs) (λ v. url_atom v u ∷ []) (url_leaf u) w.verbs
      ∙ ap (filter is_left) (sym (map_as_flat (λ v. url_atom v u) w.verbs))) w.non_resource_urls

split_atoms : (q : Atom → Bool) (w : PolicyRule)
    → filter q (atoms w) ≡ filter q (flat_map (group_atoms w) w.api_groups) ++ filter q (flat_map (url_atoms w) w.non_resource_urls)
unfolding atoms
split_atoms q w = filter_append q (flat_map (group_atoms w) w.api_groups) (flat_map (url_atoms w) w.non_resource_urls)

pub missing_and_left : (held before : List PolicyRule) (rule : PolicyRule)
    → missing held (before ++ rule ∷ []) ≡ missing held before ++ (left_atoms (stoppers held before) (resource_lists (once rule)) ++ left_atoms (stoppers held before) (url_lists (once rule)))
missing_and_left held before rule =
    missing_more held before rule
    ∙ ap (λ r. missing held before ++ r) (split_atoms (λ a. not (is_covered held before a)) (once rule)
    ∙ ap₂ (λ x y. x ++ y) (sym (resources_left held before (once rule))) (sym (urls_left held before (once rule))))
