-- Answers have no float, their keys are in order, and they are shallow.
use Rattle.std.proofs.Common.{◌≡◌, ◌≤◌, arith, ℕ, suc, List, Bool, true, false, if◌then◌else◌, Option, Some, None, option_map, length, ◌==◌, codes, not, refl}
use Rattle.std.specs.List.{filter}
use Rattle.serde_json.specs.Data.{Data, boolean, depth, string, array, Items, Members, no_members}
use Rattle.serde_json.specs.Read.{max_depth}
use Rattle.serde_json.specs.Written.{has_float}
use Rattle.kapi_model.specs.declared.policy_rule.PolicyRule.{PolicyRule}
use Rattle.kapi_object.proofs.Closed.{Closed, IfThere, put_if_holds, unless_holds, items_hold}
use Rattle.kapi_object.proofs.Depths.{no_deeper}
use Rattle.kapi_object.proofs.NoFloats.{no_floats}
use Rattle.kapi_object.proofs.Ordered.{keys_in_order}
use Rattle.kapi_object.specs.Contents.{put_text, put_texts, text_at, text_value, list_value, write_items}
use Rattle.kapi_object.specs.Order.{is_ordered}
use Rattle.kapi_object.specs.Tree.{is_empty}
use Rattle.kapi_policy.specs.Decided.{Decided, held}
use Rattle.kapi_policy.specs.Laws.{is_allowed}
use Rattle.kapi_policy.specs.Objects.{PolicyObjects}
use Rattle.kapi_model.specs.declared.identity.Identity.{Identity}
use Rattle.kapi_rules.specs.declared.point.Point.{Point}
use Rattle.kapi_rules.specs.declared.point.Point.TheVariants as point
use Rattle.kapi_reviews.specs.declared.kind.ReviewKind.{ReviewKind}
use Rattle.kapi_reviews.specs.declared.question.Question.{Question}
use Rattle.kapi_reviews.specs.Answers.{attributes_key, attributes_members, subject_members, question_tree, reason_of, decision_tree, put_list, is_url_rule, url_rule_tree, resource_rule_tree, rules_tree, review_tree}
use Rattle.kapi_reviews.specs.Kinds.{asks_rules, is_local, kind_text, tells_subject}
use Rattle.kapi_reviews.specs.Questions.{question}
use Rattle.kapi_reviews.specs.Reviews.{access_answer, rules_answer, spec_answer}

module _ {P : ℕ → Data → Type 0} {I : ℕ → Items → Type 0} {M : ℕ → Members → Type 0} (c : Closed P I M) (flag : (n : ℕ) (b : Bool) → P n (boolean b)) where
  -- ---- texts and lists

  either_holds : (n : ℕ) (b : Bool) (ms ns : Members) → M n ms → M n ns → M n (if b then ms else ns)
  either_holds n true ms ns h k = h
  either_holds n false ms ns h k = k

  put_text_holds : (n : ℕ) (k s : List ℕ) (ms : Members) → M n ms → M n (put_text k s ms)
  put_text_holds n k s ms h = put_if_holds c n k (text_value s) ms (unless_holds c n (length s == 0) (string s) (c.text n s)) h

  texts_hold : (n : ℕ) (ss : List (List ℕ)) → P (suc n) (array (write_items string ss))
  texts_hold n ss = c.list n (write_items string ss) (items_hold c n string (c.text n) ss)

  put_texts_holds : (n : ℕ) (k : List ℕ) (ss : List (List ℕ)) (ms : Members) → M (suc n) ms → M (suc n) (put_texts k ss ms)
  put_texts_holds n k ss ms h =
      put_if_holds c (suc n) k (list_value (write_items string ss)) ms (unless_holds c (suc n) (is_empty (write_items string ss)) (array (write_items string ss)) (texts_hold n ss)) h

  put_list_holds : (n : ℕ) (k : List ℕ) (ss : List (List ℕ)) (ms : Members) → M (suc n) ms → M (suc n) (put_list k ss ms)
  put_list_holds n k ss ms h = c.with_member (suc n) k (array (write_items string ss)) ms (texts_hold n ss) h

  -- ---- questions

  attributes_hold : (n : ℕ) (namespace : List ℕ) (p : Point) → M n (attributes_members namespace p)
  unfolding attributes_members
  attributes_hold n namespace (point.Resource p) =
      put_text_holds n (codes "name") p.name _
      (put_text_holds n (codes "subresource") p.subresource _
      (put_text_holds n (codes "resource") p.resource _
      (put_text_holds n (codes "group") p.group _
      (put_text_holds n (codes "verb") p.verb _
      (put_text_holds n (codes "namespace") namespace no_members (c.no_member n))))))
  attributes_hold n namespace (point.Url p) =
      put_text_holds n (codes "verb") p.verb _ (put_text_holds n (codes "path") p.path no_members (c.no_member n))

  subject_holds : (n : ℕ) (kind : ReviewKind) (identity : Identity) → M (suc n) (subject_members kind identity)
  subject_holds n kind identity =
      either_holds (suc n) (tells_subject kind) _ no_members
      (put_texts_holds n (codes "groups") identity.groups _ (put_text_holds (suc n) (codes "user") identity.user no_members (c.no_member (suc n))))
      (c.no_member (suc n))

  question_holds : (n : ℕ) (kind : ReviewKind) (q : Question) → P (suc (suc n)) (question_tree kind q)
  unfolding question_tree
  question_holds n kind q =
      c.members (suc n) _
      (c.with_member (suc n) (attributes_key q.point) _ _ (c.members n _ (attributes_hold n q.namespace q.point)) (subject_holds n kind q.identity))

  -- ---- answers

  text_if_holds : (n : ℕ) (o : Option (List ℕ)) → IfThere c n (option_map string o)
  text_if_holds n None = tt
  text_if_holds n (Some s) = c.text n s

  decision_holds : (n : ℕ) (d : Decided) → P (suc n) (decision_tree d)
  unfolding decision_tree
  decision_holds n d =
      c.members n _
      (put_if_holds c n (codes "reason") (option_map string (reason_of d)) _ (text_if_holds n (reason_of d))
      (c.with_member n (codes "allowed") (boolean (is_allowed d)) no_members (flag n (is_allowed d)) (c.no_member n)))

  url_rule_holds : (n : ℕ) (r : PolicyRule) → P (suc (suc n)) (url_rule_tree r)
  unfolding url_rule_tree
  url_rule_holds n r =
      c.members (suc n) _
      (put_list_holds n (codes "verbs") r.verbs _ (put_list_holds n (codes "nonResourceURLs") r.non_resource_urls no_members (c.no_member (suc n))))

  resource_rule_holds : (n : ℕ) (r : PolicyRule) → P (suc (suc n)) (resource_rule_tree r)
  unfolding resource_rule_tree
  resource_rule_holds n r =
      c.members (suc n) _
      (put_list_holds n (codes "verbs") r.verbs _
      (put_list_holds n (codes "resources") r.resources _
      (put_texts_holds n (codes "resourceNames") r.resource_names _
      (put_list_holds n (codes "apiGroups") r.api_groups no_members (c.no_member (suc n))))))

  rules_hold : (n : ℕ) (rules : List PolicyRule) → P (suc (suc (suc (suc n)))) (rules_tree rules)
  unfolding rules_tree
  rules_hold n rules =
      c.members (suc (suc (suc n))) _
      (c.with_member (suc (suc (suc n))) (codes "resourceRules") _ _
      (c.list (suc (suc n)) _ (items_hold c (suc (suc n)) resource_rule_tree (resource_rule_holds n) (filter (λ r. not (is_url_rule r)) rules)))
      (c.with_member (suc (suc (suc n))) (codes "nonResourceRules") _ _
      (c.list (suc (suc n)) _ (items_hold c (suc (suc n)) url_rule_tree (url_rule_holds n) (filter is_url_rule rules)))
      (c.with_member (suc (suc (suc n))) (codes "incomplete") (boolean false) no_members (flag (suc (suc (suc n))) false) (c.no_member (suc (suc (suc n)))))))

  review_holds : (n : ℕ) (kind : ReviewKind) (namespace : List ℕ) (spec status : Data) → P (suc n) spec → P (suc n) status
      → P (suc (suc n)) (review_tree kind namespace spec status)
  unfolding review_tree
  review_holds n kind namespace spec status h k =
      c.members (suc n) _
      (c.with_member (suc n) (codes "status") status _ k
      (c.with_member (suc n) (codes "spec") spec _ h
      (c.with_member (suc n) (codes "metadata") _ _
      (c.members n _ (either_holds n (is_local kind) _ no_members (put_text_holds n (codes "namespace") namespace no_members (c.no_member n)) (c.no_member n)))
      (c.with_member (suc n) (codes "kind") _ _ (c.text (suc n) (kind_text kind))
      (c.with_member (suc n) (codes "apiVersion") _ no_members (c.text (suc n) (codes "authorization.k8s.io/v1")) (c.no_member (suc n)))))))

  access_holds : (n : ℕ) (objects : PolicyObjects) (kind : ReviewKind) (namespace : List ℕ) (q : Question)
      → P (suc (suc (suc n))) (access_answer objects kind namespace q)
  unfolding access_answer
  access_holds n objects kind namespace q = review_holds (suc n) kind namespace (question_tree kind q) _ (question_holds n kind q) (decision_holds (suc n) _)

  rules_answer_holds : (n : ℕ) (objects : PolicyObjects) (caller : Identity) (kind : ReviewKind) (namespace asked : List ℕ)
      → P (suc (suc (suc (suc (suc n))))) (rules_answer objects caller kind namespace asked)
  unfolding rules_answer
  rules_answer_holds n objects caller kind namespace asked =
      review_holds (suc (suc (suc n))) kind namespace _ _
      (c.members (suc (suc (suc n))) _ (put_text_holds (suc (suc (suc n))) (codes "namespace") asked no_members (c.no_member (suc (suc (suc n))))))
      (rules_hold n (held objects caller asked))

  one_holds : (n : ℕ) (b : Bool) (d e : Data) → P n d → P n e → P n (if b then d else e)
  one_holds n true d e h k = h
  one_holds n false d e h k = k

  answer_holds : (n : ℕ) (objects : PolicyObjects) (caller : Identity) (kind : ReviewKind) (namespace : List ℕ) (spec : Data)
      → P (suc (suc (suc (suc (suc n))))) (spec_answer objects caller kind namespace spec)
  unfolding spec_answer
  answer_holds n objects caller kind namespace spec =
      one_holds (suc (suc (suc (suc (suc n))))) (asks_rules kind) _ _
      (rules_answer_holds n objects caller kind namespace (text_at (codes "namespace") spec))
      (access_holds (suc (suc n)) objects kind namespace (question kind namespace caller spec))

pub answer_has_no_float : (objects : PolicyObjects) (caller : Identity) (kind : ReviewKind) (namespace : List ℕ) (spec : Data) → has_float (spec_answer objects caller kind namespace spec) ≡ false
answer_has_no_float objects caller kind namespace spec = answer_holds no_floats (λ n b. refl) 0 objects caller kind namespace spec

pub answer_in_order : (objects : PolicyObjects) (caller : Identity) (kind : ReviewKind) (namespace : List ℕ) (spec : Data) → is_ordered (spec_answer objects caller kind namespace spec) ≡ true
answer_in_order objects caller kind namespace spec = answer_holds keys_in_order (λ n b. refl) 0 objects caller kind namespace spec

pub answer_is_shallow : (objects : PolicyObjects) (caller : Identity) (kind : ReviewKind) (namespace : List ℕ) (spec : Data)
    → depth (spec_answer objects caller kind namespace spec) ≤ max_depth
answer_is_shallow objects caller kind namespace spec = answer_holds no_deeper (λ n b. omega arith) 122 objects caller kind namespace spec
