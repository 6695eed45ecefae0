-- A turn writes the old cluster role with other rules.
use Rattle.std.proofs.Common.{◌≡◌, ◌∙◌, ◌+◌, ℕ, suc, List, [], ◌∷◌, Option, None, Some, Bool, true, false, if◌then◌else◌, Result, Ok, Err, bytes_eq, codes, refl, sym, ap, subst}
use Rattle.std.specs.Fmt.{decimal}
use Rattle.std.specs.Map.{lookup}
use Rattle.std.specs.Option.{option_and_then, option_map}
use Rattle.std.specs.Prelude.{IfOk}
use Rattle.serde_json.proofs.Views.{get_member-put}
use Rattle.serde_json.specs.Data.{Data, array, Items, Members}
use Rattle.serde_json.specs.Find.{get}
use Rattle.kapi_text.specs.ResultIs.{◌>>=◌}
use Rattle.kapi_model.specs.declared.policy_rule.PolicyRule.{PolicyRule}
use Rattle.kapi_object.proofs.Closed.{Closed, items_hold, members_hold, rule_tree_holds}
use Rattle.kapi_object.proofs.SetTexts.{in_object}
use Rattle.kapi_object.proofs.Puts.{list_round, put_other}
use Rattle.kapi_object.specs.Contents.{aggregation_of, items_if, read_items, rule_of, rule_tree, rules_of, write_items}
use Rattle.kapi_object.specs.Given.{given_of}
use Rattle.kapi_object.specs.Tree.{in_metadata, members_or_none, unless_null}
use Rattle.kapi_rbac_types.proofs.RoundTrips.{rule_round}
use Rattle.kapi_rbac_types.proofs.Stamped.{cluster_role_stamped, labels_stamped}
use Rattle.kapi_rbac_types.specs.Trees.{cluster_role_of}
use Rattle.kapi_store.proofs.Equality.{tree_equal}
use Rattle.kapi_store.specs.Faults.{StoreFault, Conflict}
use Rattle.kapi_store.specs.Keys.{is_key}
use Rattle.kapi_store.specs.Plain.{Plain, PlainChange, admits, replaced, replacement, replacement_at, revisions_left}
use Rattle.kapi_store.specs.Same.{same_tree}
use Rattle.kapi_store.specs.UidAndVersion.{replaced_tree, uid_in, version_in, with_stamps_of}
use Rattle.kapi_aggregation.specs.Rewriting.{AreRewrites, IsRewrite, rewriting, rewriting_of, role_key, with_rules}
use Rattle.kapi_aggregation.specs.declared.turn.Turn.{Turn}

-- ---- the tree with other rules

-- what holds of the old tree holds of the one that is written
pub with_rules_holds : {P : ℕ → Data → Type 0} {I : ℕ → Items → Type 0} {M : ℕ → Members → Type 0} → Closed P I M
    → (n : ℕ) (rules : List PolicyRule) (d : Data) → P (suc (suc (suc (suc n)))) d → P (suc (suc (suc (suc n)))) (with_rules rules d)
with_rules_holds c n rules d h =
    c.members (suc (suc (suc n))) _
    (c.with_member (suc (suc (suc n))) (codes "rules") (array (write_items rule_tree rules)) (members_or_none (Some d))
    (c.list (suc (suc n)) _ (items_hold c (suc (suc n)) rule_tree (rule_tree_holds c n) rules)) (members_hold c (suc (suc (suc n))) d h))

-- the members beside the rules are the old ones
beside_rules : (rules : List PolicyRule) (q : List ℕ) (d : Data) → bytes_eq q (codes "rules") ≡ false → get q (with_rules rules d) ≡ get q d
beside_rules rules q d h = put_other q (codes "rules") (array (write_items rule_tree rules)) (members_or_none (Some d)) h ∙ in_object q d

rules_written : (rules : List PolicyRule) (d : Data) → rules_of (with_rules rules d) ≡ rules
rules_written rules d =
    ap (λ o. read_items rule_of (items_if (option_and_then unless_null o))) (get_member-put (codes "rules") (array (write_items rule_tree rules)) (members_or_none (Some d)))
    ∙ list_round rule_of rule_tree rule_round rules

pub role_with_rules : (rules : List PolicyRule) (d : Data) → cluster_role_of (with_rules rules d) ≡ record (cluster_role_of d) { rules = rules }
role_with_rules rules d =
    rw (
      ap (λ o. option_map aggregation_of (option_and_then unless_null o)) (beside_rules rules (codes "aggregationRule") d refl),
      rules_written rules d,
    ) refl

pub labels_with_rules : (rules : List PolicyRule) (d : Data) → in_metadata (codes "labels") (with_rules rules d) ≡ in_metadata (codes "labels") d
labels_with_rules rules d = ap (option_and_then (get (codes "labels"))) (beside_rules rules (codes "metadata") d refl)

-- ---- the changes

module _ (turn : Turn) (s : Plain) (old : Data) where
  abbrev tree : Data
  tree = with_rules turn.rules old

  standing_role : cluster_role_of (with_stamps_of old tree) ≡ record (cluster_role_of old) { rules = turn.rules }
  standing_role = cluster_role_stamped (uid_in old) (version_in old) tree ∙ role_with_rules turn.rules old

  one_rewrite : (revision : ℕ) → IsRewrite turn old (replacement_at (role_key turn.name) old tree revision)
  one_rewrite revision = record {
    place = refl;
    new = replaced_tree revision old tree;
    puts = refl;
    role = cluster_role_stamped (uid_in old) (decimal revision) (with_stamps_of old tree) ∙ standing_role;
    labels =
        labels_stamped (uid_in old) (decimal revision) (with_stamps_of old tree)
        ∙ labels_stamped (uid_in old) (version_in old) tree
        ∙ labels_with_rules turn.rules old;
  }

  by_same : (b : Bool) → same_tree (with_stamps_of old tree) old ≡ b
      → IfOk (if b then Ok [] else (revisions_left s 1 >>= λ _. Ok (replacement_at (role_key turn.name) old tree (s.revision + 1) ∷ []))) (AreRewrites turn old)
  by_same true is = ap cluster_role_of (sym (tree_equal (with_stamps_of old tree) old is)) ∙ standing_role
  by_same false is = by_left (revisions_left s 1)
    where
      by_left : (r : Result (Unit {0}) StoreFault) → IfOk (r >>= λ _. Ok (replacement_at (role_key turn.name) old tree (s.revision + 1) ∷ [])) (AreRewrites turn old)
      by_left (Ok u) = (one_rewrite (s.revision + 1), refl)
      by_left (Err fault) = tt

  by_version : (b : Bool) (fault : StoreFault) → IfOk ((if b then Ok old else Err fault) >>= replaced s (role_key turn.name) tree) (AreRewrites turn old)
  by_version true fault = by_same (same_tree (with_stamps_of old tree) old) refl
  by_version false fault = tt

  replaced_where_ok : lookup (is_key (role_key turn.name)) s.objects ≡ Some old → IfOk (replacement s (role_key turn.name) tree) (AreRewrites turn old)
  replaced_where_ok stands = rw stands (by_version (admits (version_in old) (given_of tree).resource_version) (Conflict (version_in old)))

  pub rewrites_where_ok : lookup (is_key (role_key turn.name)) s.objects ≡ Some old → IfOk (rewriting turn s) (AreRewrites turn old)
  unfolding rewriting
  rewrites_where_ok stands = rw stands (replaced_where_ok stands)

-- the changes of a turn write the old cluster role with the turn's rules
pub turn_rewrites : (turn : Turn) (s : Plain) (old : Data) (changes : List PlainChange)
    → lookup (is_key (role_key turn.name)) s.objects ≡ Some old → rewriting turn s ≡ Ok changes → AreRewrites turn old changes
turn_rewrites turn s old changes stands is =
    let P : Result (List PlainChange) StoreFault → Type 0 = λ r. IfOk r (AreRewrites turn old) in subst P is (rewrites_where_ok turn s old stands)

-- the cluster role of a turn exists
pub turn_rewrites_what_stands : (turn : Turn) (s : Plain) (changes : List PlainChange) → rewriting turn s ≡ Ok changes
    → (old : Data) × ((lookup (is_key (role_key turn.name)) s.objects ≡ Some old) × AreRewrites turn old changes)
unfolding rewriting
turn_rewrites_what_stands turn s changes is = by_lookup (lookup (is_key (role_key turn.name)) s.objects) refl is
  where
    by_lookup : (o : Option Data) → lookup (is_key (role_key turn.name)) s.objects ≡ o → rewriting_of (role_key turn.name) turn.rules s o ≡ Ok changes
        → (old : Data) × ((lookup (is_key (role_key turn.name)) s.objects ≡ Some old) × AreRewrites turn old changes)
    by_lookup None none never = absurd (cc never)
    by_lookup (Some old) stands h = (old, (stands, turn_rewrites turn s old changes stands is))
