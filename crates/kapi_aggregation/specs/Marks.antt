-- What a tracker keeps: the aggregated cluster roles, and the names of the roles that may differ from their unions.
use Rattle.std.specs.Prelude.{◌≡◌, ℕ, List, [], ◌∷◌, ◌++◌, Bool, true, false, if◌then◌else◌, Option, Some, None, codes, option_and_then, option_map}
use Rattle.std.specs.Cmp.Lexicographic.{slice_cmp}
use Rattle.std.specs.Ordering.{nat_cmp, is_le, ordering_then}
use Rattle.std.specs.BTreeMap.{is_at}
use Rattle.std.specs.BTreeMap.Range.{range_contains}
use Rattle.std.specs.BTreeSet.{BTreeSet, insert_key}
use Rattle.std.specs.List.{AllByRecursion, filter, flat_map, fold, list_any}
use Rattle.std.specs.Map.{lookup}
use Rattle.std.specs.declared.cmp.Ordering.{Ordering}
use Rattle.std.specs.declared.ops.Bound.TheVariants.{Included, Excluded}
use Rattle.serde_json.specs.Data.{Data}
use Rattle.kapi_model.specs.Selector.{has_label}
use Rattle.kapi_model.specs.declared.aggregation_rule.AggregationRule.{AggregationRule}
use Rattle.kapi_model.specs.declared.selector.Label.{Label}
use Rattle.kapi_model.specs.declared.selector.Selector.{Selector}
use Rattle.kapi_model.specs.declared.policy_rule.PolicyRule.{PolicyRule}
use Rattle.kapi_object.specs.Tree.{members_or_none}
use Rattle.kapi_rbac_types.specs.Trees.{cluster_role_of}
use Rattle.kapi_store.specs.Keys.{is_key}
use Rattle.kapi_store.specs.Plain.{PlainChange}
use Rattle.kapi_store.specs.Labels.{labels_among, labels_of}
use Rattle.kapi_store.specs.declared.key.Key.{Key}
use Rattle.kapi_aggregation.specs.Rewriting.{role_key}
use Rattle.kapi_aggregation.specs.Roles.{Labelled, is_aggregated, is_cluster_role, labelled_at, labels_in, roles_in, selectors_of, takes_from}
use Rattle.kapi_aggregation.specs.Turns.{differs, turn_at, turn_to}
use Rattle.kapi_aggregation.specs.Unions.{rules_meant, with_rule}
use Rattle.kapi_aggregation.specs.declared.takers.Taker.{Taker}
use Rattle.kapi_aggregation.specs.declared.turn.Turn.{Turn}

-- the keys of a set, if there is one
abbrev pub keys_if : Option (BTreeSet Taker) → Option (List Taker)
keys_if s = option_map (λ k. k.keys) s

-- `marks`: the names of the cluster roles that may differ from their unions; `takers`: cluster roles, among them each
-- aggregated one; `givers`: cluster roles, among them each one with a label, if they are known
pub record Tracked : Type 0 where
  pub marks : List (List ℕ)
  pub takers : List Taker
  pub givers : Option (List Taker)

-- the name is among the marks
abbrev pub is_marked : List (List ℕ) → List ℕ → Bool
is_marked marks name = list_any (is_at (slice_cmp nat_cmp name)) marks

-- the names with one more, in their order
abbrev pub with_mark : List (List ℕ) → List ℕ → List (List ℕ)
with_mark marks name = if is_marked marks name then marks else insert_key (slice_cmp nat_cmp) marks name

-- ---- cluster roles by the labels that they ask for

-- a label as one text, its key first
abbrev pub label_text : Label → List ℕ
label_text l = (l.key ++ codes "=") ++ l.value

-- the label that stands first, as text; empty if there is none
abbrev pub first_text : List Label → List ℕ
first_text [] = []
first_text (l ∷ ls) = label_text l

-- they are in the order of their labels, then of their names
abbrev pub taker_cmp : Taker → Taker → Ordering
taker_cmp a b = ordering_then (slice_cmp nat_cmp a.label b.label) (slice_cmp nat_cmp a.name b.name)

-- the cluster role of a name, at the label that a selector lists first
abbrev pub taker_of : List ℕ → Selector → Taker
taker_of name s = record { label = first_text s.match_labels; name = name }

-- the taker is among the others
abbrev pub is_known : List Taker → Taker → Bool
is_known takers t = list_any (is_at (taker_cmp t)) takers

-- the takers with the cluster role of a name, for each of its selectors
abbrev pub with_takers : List Taker → List ℕ → List Selector → List Taker
with_takers takers name selectors = fold (λ ts s. insert_key taker_cmp ts (taker_of name s)) takers selectors

-- the takers that some cluster roles are
abbrev pub all_takers : List Labelled → List Taker
all_takers roles = fold (λ ts r. with_takers ts r.name (selectors_of r)) [] roles

-- where the takers at a label begin
abbrev pub start_at : List ℕ → Taker
start_at label = record { label = label; name = [] }

-- what comes after all takers at a label
abbrev pub end_at : List ℕ → Taker
end_at label = record { label = label ++ 0 ∷ []; name = [] }

-- the takers at a label
abbrev pub takers_at : List Taker → List ℕ → List Taker
takers_at takers label = filter (range_contains taker_cmp (Included (start_at label)) (Excluded (end_at label))) takers

-- the names with those of the takers at a label
abbrev pub with_names_at : List Taker → List (List ℕ) → List ℕ → List (List ℕ)
with_names_at takers names label = fold (λ ns t. with_mark ns t.name) names (takers_at takers label)

-- the names of the takers that may take rules from one with these labels
abbrev pub names_for : List Taker → List Label → List (List ℕ)
names_for takers labels = fold (λ ns l. with_names_at takers ns (label_text l)) (with_names_at takers [] []) labels

-- ---- cluster roles by the labels that they have

-- the cluster role of a name, at a label
abbrev pub giver_of : List ℕ → Label → Taker
giver_of name l = record { label = label_text l; name = name }

-- the givers with the cluster role of a name, for each of its labels
abbrev pub with_giver : List Taker → List ℕ → List Label → List Taker
with_giver givers name labels = fold (λ gs l. insert_key taker_cmp gs (giver_of name l)) givers labels

-- the labels as a list; one that is no text is none
abbrev pub label_list : Option Data → List Label
label_list labels = labels_among (members_or_none labels)

-- the givers that some cluster roles are
abbrev pub all_givers : List Labelled → List Taker
all_givers roles = fold (λ gs r. with_giver gs r.name (label_list r.labels)) [] roles

-- the givers with an object of a name, if there is one
abbrev pub with_left : List Taker → List ℕ → Option Data → List Taker
with_left givers name None = givers
with_left givers name (Some tree) = with_giver givers name (labels_of tree)

-- the givers with what each change leaves
abbrev pub with_all_left : List Taker → List PlainChange → List Taker
with_all_left givers cs = fold (λ gs c. with_left gs c.key.name c.new) givers cs

-- the same, if givers are known
abbrev pub givers_after : Option (List Taker) → List PlainChange → Option (List Taker)
givers_after givers cs = option_map (λ gs. with_all_left gs cs) givers

-- ---- what a write marks

-- the aggregation rule of an object, if there is one
abbrev pub rule_in : Option Data → Option AggregationRule
rule_in None = None
rule_in (Some tree) = (cluster_role_of tree).aggregation_rule

-- the rule of the aggregated cluster role that a change leaves, if it leaves one
abbrev pub rule_left : PlainChange → Option AggregationRule
rule_left c = if is_cluster_role c.key then rule_in c.new else None

-- what is kept with an aggregated cluster role of this rule
abbrev pub learn_rule : Tracked → List ℕ → Option AggregationRule → Tracked
learn_rule t name None = t
learn_rule t name (Some rule) = record { marks = with_mark t.marks name; takers = with_takers t.takers name rule.cluster_role_selectors; givers = t.givers }

-- what is kept with the aggregated cluster role which a change leaves
abbrev pub learn : Tracked → PlainChange → Tracked
learn t c = learn_rule t c.key.name (rule_left c)

-- what is kept after each change was noted in turn
abbrev pub learned : Tracked → List PlainChange → Tracked
learned t cs = fold learn t cs

-- the cluster role of a name among some objects, if it is there
abbrev pub role_at : List (Key × Data) → List ℕ → Option Labelled
role_at os name = option_map (labelled_at name) (lookup (is_key (role_key name)) os)

-- the list of a cluster role that may be missing
abbrev pub listed_if : Option Labelled → List Labelled
listed_if None = []
listed_if (Some r) = r ∷ []

-- the cluster roles of the names that are among some objects
abbrev pub takers_in : List (Key × Data) → List (List ℕ) → List Labelled
takers_in os [] = []
takers_in os (name ∷ names) = listed_if (role_at os name) ++ takers_in os names

-- the marks with that of a cluster role, if it takes rules from one with these labels
abbrev pub mark_taker : Option Data → List (List ℕ) → Labelled → List (List ℕ)
mark_taker labels marks r = if takes_from r labels then with_mark marks r.name else marks

-- the marks after each cluster role was checked in turn
unfoldable pub mark_takers : List Labelled → List (List ℕ) → Option Data → List (List ℕ)
mark_takers roles marks labels = fold (mark_taker labels) marks roles

-- the marks with those of the cluster roles that take rules from an object, if there is one; only those that may are read
abbrev pub mark_object : List (Key × Data) → List Taker → List (List ℕ) → Option Data → List (List ℕ)
mark_object os takers marks None = marks
mark_object os takers marks (Some tree) = mark_takers (takers_in os (names_for takers (labels_of tree))) marks (labels_in tree)

-- the marks with those of the cluster roles that take rules from a changed one, as it was or as the change leaves it
unfoldable pub mark_changed : List (Key × Data) → List Taker → List (List ℕ) → PlainChange → List (List ℕ)
mark_changed os takers marks c = mark_object os takers (mark_object os takers marks (lookup (is_key c.key) os)) c.new

-- the marks with those of a change; a change of no cluster role marks nothing
abbrev pub mark_change : List (Key × Data) → List Taker → List (List ℕ) → PlainChange → List (List ℕ)
mark_change os takers marks c = if is_cluster_role c.key then mark_changed os takers marks c else marks

-- the marks after each change was noted in turn
abbrev pub mark_all : List (Key × Data) → List Taker → List (List ℕ) → List PlainChange → List (List ℕ)
mark_all os takers marks cs = fold (mark_change os takers) marks cs

-- what is kept after a note of some changes of some objects
unfoldable pub noted : List (Key × Data) → Tracked → List PlainChange → Tracked
noted os t cs =
    let after = learned t cs in
    record { marks = mark_all os after.takers after.marks cs; takers = after.takers; givers = givers_after after.givers cs }

-- ---- what the names are good for

-- each name is kept
abbrev pub Keeps : List (List ℕ) → List (List ℕ) → Type 0
Keeps old new = (name : List ℕ) → is_marked old name ≡ true → is_marked new name ≡ true

-- each taker is kept
abbrev pub KeepsTakers : List Taker → List Taker → Type 0
KeepsTakers old new = (t : Taker) → is_known old t ≡ true → is_known new t ≡ true

-- the cluster role is known by each of its labels, if givers are known
abbrev pub IsGiven : Option (List Taker) → Labelled → Type 0
IsGiven None r = Unit {0}
IsGiven (Some givers) r = (l : Label) → has_label r.labels l ≡ true → is_known givers (giver_of r.name l) ≡ true

-- each cluster role that is known by its labels is known still
abbrev pub KeepsGivers : Option (List Taker) → Option (List Taker) → Type 0
KeepsGivers old new = (r : Labelled) → IsGiven old r → IsGiven new r

-- each name, each taker and each giver is kept
abbrev pub KeepsAll : Tracked → Tracked → Type 0
KeepsAll old new = Keeps old.marks new.marks × (KeepsTakers old.takers new.takers × KeepsGivers old.givers new.givers)

-- the cluster role is known by each of its selectors
abbrev pub IsKnown : List Taker → Labelled → Type 0
IsKnown takers r = AllByRecursion (λ s. is_known takers (taker_of r.name s) ≡ true) (selectors_of r)

-- the cluster role is known as one that takes rules, if it is aggregated, and by its labels, and is marked, if it differs
abbrev pub IsCovered : Tracked → List Labelled → Labelled → Type 0
IsCovered t roles r = (IsKnown t.takers r × IsGiven t.givers r) × (differs roles r ≡ true → is_marked t.marks r.name ≡ true)

-- each aggregated cluster role is known, and marked if it differs from its union; each is known by its labels
abbrev pub Covers : Tracked → List Labelled → Type 0
Covers t roles = AllByRecursion (IsCovered t roles) roles

-- the new tracker covers all roles that the old one covers
abbrev pub CoversAsMuch : Tracked → Tracked → Type 0
CoversAsMuch old new = (roles : List Labelled) → Covers old roles → Covers new roles

-- no cluster role is aggregated
abbrev pub NoneAggregated : List Labelled → Type 0
NoneAggregated roles = AllByRecursion (λ r. is_aggregated r ≡ false) roles

-- ---- what a turn leaves

-- what a marked cluster role that differs is to become
abbrev pub turn_if_marked : List (List ℕ) → List Labelled → Labelled → Option Turn
turn_if_marked marks roles r = if is_marked marks r.name then turn_at roles r else None

-- the marks from a name on
abbrev pub marks_from : List (List ℕ) → List ℕ → List (List ℕ)
marks_from marks name = filter (λ m. is_le (slice_cmp nat_cmp name m)) marks

-- the marks that stay after a turn: those before it are of cluster roles that do not differ
abbrev pub marks_after : List (List ℕ) → Option Turn → List (List ℕ)
marks_after marks None = []
marks_after marks (Some turn) = marks_from marks turn.name

-- what is kept after a turn
abbrev pub left_by : Tracked → List Labelled → Option Turn → Tracked
left_by t roles turn = record { marks = marks_after t.marks turn; takers = t.takers; givers = t.givers }

-- what the cluster role of a name is to become, if it is there and differs
abbrev pub turn_of_name : List (Key × Data) → List ℕ → Option Turn
turn_of_name os name = option_and_then (turn_at (roles_in os)) (role_at os name)

-- ---- the turn that is found by the givers

-- the cluster roles that a selector of these labels may match; if it has a label and givers are known, those at the first
abbrev pub candidates : List (Key × Data) → Option (List Taker) → List Label → List Labelled
candidates os None labels = roles_in os
candidates os (Some givers) [] = roles_in os
candidates os (Some givers) (l ∷ ls) = takers_in os (with_names_at givers [] (label_text l))

-- what a selector takes from those, without the rules of the one of the name
abbrev pub rules_given : List (Key × Data) → Option (List Taker) → List ℕ → Selector → List PolicyRule
rules_given os givers name s = rules_meant (candidates os givers s.match_labels) name s

-- the union of a cluster role from those
abbrev pub union_given : List (Key × Data) → Option (List Taker) → Labelled → List PolicyRule
union_given os givers r = fold with_rule [] (flat_map (rules_given os givers r.name) (selectors_of r))

-- what the cluster role of a name is to become by that union, if it is there and differs
abbrev pub turn_given : List (Key × Data) → Option (List Taker) → List ℕ → Option Turn
turn_given os givers name = option_and_then (λ r. turn_to r (union_given os givers r)) (role_at os name)
