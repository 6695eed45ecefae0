-- The write of a turn: the cluster role with its union in place of its rules.
use Rattle.std.specs.Prelude.{◌≡◌, ℕ, List, [], ◌∷◌, Option, Some, None, Result, Err, codes}
use Rattle.std.specs.Map.{lookup}
use Rattle.serde_json.specs.Data.{Data, array, object, put}
use Rattle.kapi_model.specs.Kinds.{rbac_group}
use Rattle.kapi_model.specs.declared.policy_rule.PolicyRule.{PolicyRule}
use Rattle.kapi_object.specs.Contents.{rule_tree, write_items}
use Rattle.kapi_object.specs.Tree.{members_or_none}
use Rattle.kapi_rbac_types.specs.Trees.{cluster_role_of}
use Rattle.kapi_store.specs.Faults.{Missing, StoreFault}
use Rattle.kapi_store.specs.Keys.{is_key}
use Rattle.kapi_store.specs.Plain.{Plain, PlainChange, replacement}
use Rattle.kapi_store.specs.declared.key.Key.{Key}
use Rattle.kapi_aggregation.specs.Roles.{labels_in}
use Rattle.kapi_aggregation.specs.declared.turn.Turn.{Turn}

-- the place of the cluster role of a name
abbrev pub role_key : List ℕ → Key
role_key name = record { group = rbac_group; resource = codes "clusterroles"; namespace = []; name = name }

-- a cluster role with other rules; all else of it stays
abbrev pub with_rules : List PolicyRule → Data → Data
with_rules rules tree = object (put (codes "rules") (array (write_items rule_tree rules)) (members_or_none (Some tree)))

-- the changes by which the object at the key gets other rules; or why there can be none
abbrev pub rewriting_of : Key → List PolicyRule → Plain → Option Data → Result (List PlainChange) StoreFault
rewriting_of key rules s None = Err Missing
rewriting_of key rules s (Some old) = replacement s key (with_rules rules old)

-- the changes of a turn; or why there can be none
unfoldable pub rewriting : Turn → Plain → Result (List PlainChange) StoreFault
rewriting turn s = rewriting_of (role_key turn.name) turn.rules s (lookup (is_key (role_key turn.name)) s.objects)

-- ---- what a turn changes

-- a change puts, at the place of the turn's cluster role, the old object with the turn's rules and its own labels
pub record IsRewrite (turn : Turn) (old : Data) (c : PlainChange) : Type 0 where
  pub place : c.key ≡ role_key turn.name
  pub new : Data
  pub puts : c.new ≡ Some new
  pub role : cluster_role_of new ≡ record (cluster_role_of old) { rules = turn.rules }
  pub labels : labels_in new ≡ labels_in old

-- the changes of a turn are one rewrite; there are none if the cluster role has these rules already
abbrev pub AreRewrites : Turn → Data → List PlainChange → Type 0
AreRewrites turn old [] = cluster_role_of old ≡ record (cluster_role_of old) { rules = turn.rules }
AreRewrites turn old (c ∷ cs) = IsRewrite turn old c × (cs ≡ [])
