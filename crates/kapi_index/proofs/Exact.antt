-- Prepared entries match just what the entries match.
use Rattle.std.proofs.Common.{◌≡◌, ℕ, ◌==◌, nat_eq, Bool, true, false, ◌&&◌, ◌||◌, if◌then◌else◌, List, [], ◌∷◌, ◌++◌, length, map, not, suc, refl, sym, ap, ◌∙◌}
use Rattle.std.proofs.Math.Dec.{eqb-suc-zero}
use Rattle.std.proofs.lemmas.Bool.Decides.{Decides-eqb}
use Rattle.std.specs.List.{ends_with, list_all, list_any, position, prefix_len, starts_with}
use Rattle.std.specs.Str.{bytes_eq}
use Rattle.kapi_model.specs.declared.policy_rule.PolicyRule.{PolicyRule}
use Rattle.kapi_rules.proofs.Covers.{same}
use Rattle.kapi_rules.specs.Entries.{names_match, resource_matches, star, url_matches, without_stars, word_matches}
use Rattle.kapi_rules.specs.Rules.{allows}
use Rattle.kapi_rules.specs.declared.point.Point.{Point}
use Rattle.kapi_rules.specs.declared.point.Point.TheVariants as point
use Rattle.kapi_index.specs.Compiled.{compiled, compiled_allows, compiled_names, compiled_url, compiled_words, resources_match, url_admits, words_match}
use Rattle.kapi_index.specs.declared.compiled_rule.CompiledRule.{CompiledRule}
use Rattle.kapi_index.specs.declared.urls.Url.TheVariants.{Path, Front}

any_or : (p q : List ℕ → Bool) (xs : List (List ℕ)) → list_any (λ x. p x || q x) xs ≡ (list_any p xs || list_any q xs)
any_or p q [] = refl
any_or p q (x ∷ xs) = rw (any_or p q xs) (across (p x) (q x) (list_any p xs) (list_any q xs))
  where
    across : (a b c d : Bool) → ((a || b) || (c || d)) ≡ ((a || c) || (b || d))
    across true b c d = refl
    across false true true d = refl
    across false true false d = refl
    across false false c d = refl

-- ---- verbs, groups and names

words_exact : (entries : List (List ℕ)) (w : List ℕ) → words_match (compiled_words entries) w ≡ list_any (λ e. word_matches e w) entries
words_exact entries w = by_star (list_any (λ e. bytes_eq e star) entries) refl ∙ sym (any_or (λ e. bytes_eq e star) (λ e. bytes_eq e w) entries)
  where
    by_star : (t : Bool) → list_any (λ e. bytes_eq e star) entries ≡ t
        → words_match (compiled_words entries) w ≡ (list_any (λ e. bytes_eq e star) entries || list_any (λ e. bytes_eq e w) entries)
    by_star true h = rw h refl
    by_star false h = rw h refl

names_exact : (names : List (List ℕ)) (w : List ℕ) → words_match (compiled_names names) w ≡ names_match names w
names_exact [] w = refl
names_exact (n ∷ names) w = rw (eqb-suc-zero (length names)) refl

-- ---- resources

-- the words and those of one more text
joined_exact : (entries : List (List ℕ)) (own any : List ℕ)
    → (words_match (compiled_words entries) own || words_match (compiled_words entries) any) ≡ list_any (λ e. word_matches e own || bytes_eq e any) entries
joined_exact entries own any =
    rw (words_exact entries own, words_exact entries any, any_or (λ e. word_matches e own) (λ e. bytes_eq e any) entries, any_or (λ e. bytes_eq e star) (λ e. bytes_eq e own) entries, any_or (λ e. bytes_eq e star) (λ e. bytes_eq e any) entries)
    (once (list_any (λ e. bytes_eq e star) entries) (list_any (λ e. bytes_eq e own) entries) (list_any (λ e. bytes_eq e any) entries))
  where
    once : (s j a : Bool) → ((s || j) || (s || a)) ≡ ((s || j) || a)
    once true j a = refl
    once false j a = refl

resources_exact : (entries : List (List ℕ)) (resource subresource : List ℕ)
    → resources_match (compiled_words entries) resource subresource ≡ list_any (λ e. resource_matches e resource subresource) entries
resources_exact entries resource subresource = by_test (length subresource == 0)
  where
    by_test : (t : Bool)
        → (if t then words_match (compiled_words entries) resource else (words_match (compiled_words entries) (resource ++ 47 ∷ subresource) || words_match (compiled_words entries) (42 ∷ 47 ∷ subresource)))
        ≡ list_any (λ e. if t then word_matches e resource else (word_matches e (resource ++ 47 ∷ subresource) || bytes_eq e (42 ∷ 47 ∷ subresource))) entries
    by_test true = words_exact entries resource
    by_test false = joined_exact entries (resource ++ 47 ∷ subresource) (42 ∷ 47 ∷ subresource)

-- ---- URLs

begins : (text : List ℕ) → starts_with nat_eq text (without_stars text) ≡ true
begins [] = refl
begins (b ∷ text) = by_stars (list_all (λ c. c == 42) (b ∷ text)) (begins text)
  where
    by_stars : (t : Bool) → starts_with nat_eq text (without_stars text) ≡ true → starts_with nat_eq (b ∷ text) (if t then [] else b ∷ without_stars text) ≡ true
    by_stars true more = refl
    by_stars false more = rw ((Decides-eqb b b).1 refl, more) refl

url_exact : (entry path : List ℕ) → url_admits (compiled_url entry) path ≡ url_matches entry path
url_exact entry path = by_end (ends_with nat_eq entry star)
  where
    begun : bytes_eq entry path ≡ true → starts_with nat_eq path (without_stars entry) ≡ true
    begun e = rw (← same entry path e) (begins entry)

    absorbed : (a b : Bool) → (a ≡ true → b ≡ true) → b ≡ (a || b)
    absorbed true b more = more refl
    absorbed false b more = refl

    or_false : (a : Bool) → a ≡ (a || false)
    or_false true = refl
    or_false false = refl

    by_end : (t : Bool) → url_admits (if t then Front (without_stars entry) else Path entry) path ≡ (bytes_eq entry path || (t && starts_with nat_eq path (without_stars entry)))
    by_end true = absorbed (bytes_eq entry path) (starts_with nat_eq path (without_stars entry)) begun
    by_end false = or_false (bytes_eq entry path)

urls_exact : (entries : List (List ℕ)) (path : List ℕ) → list_any (λ u. url_admits u path) (map compiled_url entries) ≡ list_any (λ e. url_matches e path) entries
urls_exact [] path = refl
urls_exact (e ∷ entries) path = rw (url_exact e path, urls_exact entries path) refl

-- ---- rules

-- a rule with its entries prepared allows just what the rule allows
pub rule_exact : (rule : PolicyRule) (p : Point) → compiled_allows (compiled rule) p ≡ allows rule p
unfolding compiled_allows compiled
rule_exact rule (point.Resource p) =
    rw (resources_exact rule.resources p.resource p.subresource, words_exact rule.verbs p.verb, words_exact rule.api_groups p.group, names_exact rule.resource_names p.name)
    (moved (list_any (λ e. word_matches e p.verb) rule.verbs) (list_any (λ e. word_matches e p.group) rule.api_groups)
    (list_any (λ e. resource_matches e p.resource p.subresource) rule.resources) (names_match rule.resource_names p.name))
  where
    moved : (v g r n : Bool) → (r && (v && (g && n))) ≡ (v && (g && (r && n)))
    moved true true true n = refl
    moved true true false n = refl
    moved true false true n = refl
    moved true false false n = refl
    moved false g true n = refl
    moved false g false n = refl
rule_exact rule (point.Url p) = rw (words_exact rule.verbs p.verb, urls_exact rule.non_resource_urls p.path) refl

-- the first rule that allows a point is the same for prepared rules
pub first_exact : (rules : List PolicyRule) (prepared : List CompiledRule) (p : Point) → prepared ≡ map compiled rules
    → position (λ rule. compiled_allows rule p) prepared ≡ position (λ rule. allows rule p) rules
first_exact rules prepared p is = rw (is, passed rules, counted rules) refl
  where
    passed : (rs : List PolicyRule) → prefix_len (λ c. not (compiled_allows c p)) (map compiled rs) ≡ prefix_len (λ r. not (allows r p)) rs
    passed [] = refl
    passed (r ∷ rs) = rw (rule_exact r p, passed rs) refl

    counted : (rs : List PolicyRule) → length (map compiled rs) ≡ length rs
    counted [] = refl
    counted (r ∷ rs) = ap suc (counted rs)
