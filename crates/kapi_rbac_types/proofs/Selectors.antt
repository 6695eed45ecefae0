-- What is written of a selector is read as it, with its labels in order.
use Rattle.std.proofs.Common.{◌≡◌, ◌∙◌, List, [], ◌∷◌, refl, ap, codes}
use Rattle.std.specs.Option.{unwrap_or}
use Rattle.serde_json.specs.Data.{Members, no_members, member}
use Rattle.kapi_object.specs.Contents.{text_if, text_at, texts_at, items_if, items_at, read_items, write_items, members_value, put_labels, labels_in, operator_at, requirement_of, requirement_tree, selector_of, selector_tree}
use Rattle.kapi_model.specs.Kinds.{operator_of}
use Rattle.kapi_object.specs.Tree.{members_or_none}
use Rattle.kapi_object.specs.Tree.{member_of}
use Rattle.kapi_model.specs.declared.selector.Operator.TheVariants.{In}
use Rattle.kapi_model.specs.declared.selector.Requirement.{Requirement}
use Rattle.kapi_model.specs.declared.selector.Selector.{Selector}
use Rattle.kapi_rbac_types.proofs.Labels.{labels_round, labels_stable}
use Rattle.kapi_object.proofs.Fields.{key_at, operator_here, operator_known, values_at, labels_at, expressions_at}
use Rattle.kapi_object.proofs.Puts.{items_listed, list_round, listed_round}
use Rattle.kapi_rbac_types.specs.Laws.{IsInOrder, AreInOrder}

-- ---- requirements

key_round : (r : Requirement) → text_at (codes "key") (requirement_tree r) ≡ r.key
key_round r = ap text_if (key_at r)

operator_round : (r : Requirement) → operator_at (codes "operator") (requirement_tree r) ≡ r.operator
operator_round r =
    ap (λ o. unwrap_or (operator_of (text_if o)) In) (operator_here r)
    ∙ ap (λ o. unwrap_or o In) (operator_known r.operator)

values_round : (r : Requirement) → texts_at (codes "values") (requirement_tree r) ≡ r.values
values_round r = listed_round (member_of (codes "values") (requirement_tree r)) r.values (values_at r)

requirement_round : (r : Requirement) → requirement_of (requirement_tree r) ≡ r
requirement_round r = rw (key_round r, operator_round r, values_round r) refl

-- ---- selectors

members_same : (ms : Members) → members_or_none (members_value ms) ≡ ms
members_same no_members = refl
members_same (member k d ms) = refl

labels_at_round : (s : Selector) → labels_in (members_or_none (member_of (codes "matchLabels") (selector_tree s))) ≡ labels_in (put_labels s.match_labels no_members)
labels_at_round s = ap (λ o. labels_in (members_or_none o)) (labels_at s) ∙ ap labels_in (members_same (put_labels s.match_labels no_members))

expressions_round : (s : Selector) → read_items requirement_of (items_at (codes "matchExpressions") (selector_tree s)) ≡ s.match_expressions
expressions_round s =
    ap (λ o. read_items requirement_of (items_if o)) (expressions_at s)
    ∙ ap (read_items requirement_of) (items_listed (write_items requirement_tree s.match_expressions))
    ∙ list_round requirement_of requirement_tree requirement_round s.match_expressions

-- the selector with its labels as they are written
abbrev ordered : Selector → Selector
ordered s = record { match_labels = labels_in (put_labels s.match_labels no_members); match_expressions = s.match_expressions }

selector_read : (s : Selector) → selector_of (selector_tree s) ≡ ordered s
selector_read s = rw (labels_at_round s, expressions_round s) refl

selector_round : (s : Selector) → IsInOrder s.match_labels → selector_of (selector_tree s) ≡ s
selector_round s h = selector_read s ∙ rw (labels_round s.match_labels h) refl

selector_stable : (s : Selector) → selector_tree (selector_of (selector_tree s)) ≡ selector_tree s
unfolding selector_tree
selector_stable s = ap selector_tree (selector_read s) ∙ rw (labels_stable s.match_labels) refl

pub selectors_round : (ss : List Selector) → AreInOrder ss → read_items selector_of (write_items selector_tree ss) ≡ ss
selectors_round [] h = refl
selectors_round (s ∷ ss) h = rw (selector_round s h.0, selectors_round ss h.1) refl

pub selectors_stable : (ss : List Selector) → write_items selector_tree (read_items selector_of (write_items selector_tree ss)) ≡ write_items selector_tree ss
selectors_stable [] = refl
selectors_stable (s ∷ ss) = rw (selector_stable s, selectors_stable ss) refl
