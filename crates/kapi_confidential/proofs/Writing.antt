-- Requests that write are answered by what may be written.
use Rattle.std.proofs.Common.{◌≡◌, ℕ, ◌+◌, Bool, true, false, ◌&&◌, ◌||◌, if◌then◌else◌, List, [], ◌∷◌, Option, Some, None, Result, Ok, Err, length, is_some, refl, sym, ap, ◌∙◌, subst, IfOk}
use Rattle.std.specs.List.{AllByRecursion, list_all, list_any}
use Rattle.std.specs.Map.{lookup}
use Rattle.serde_json.specs.Data.{Data}
use Rattle.kapi_text.specs.ResultIs.{◌>>=◌}
use Rattle.kapi_object.specs.Admission.{read_as}
use Rattle.kapi_object.specs.Merge.{merged}
use Rattle.kapi_http.specs.declared.message.HttpFault.{HttpFault}
use Rattle.kapi_http.specs.declared.message.HttpRequest.{HttpRequest}
use Rattle.kapi_model.specs.declared.identity.Identity.{Identity}
use Rattle.kapi_model.specs.declared.policy_rule.PolicyRule.{PolicyRule}
use Rattle.kapi_model.specs.declared.row.ResourceRow.{ResourceRow}
use Rattle.kapi_policy.specs.Decided.{held}
use Rattle.kapi_policy.specs.Laws.{is_allowed}
use Rattle.kapi_policy.specs.Objects.{PolicyObjects}
use Rattle.kapi_escalation.specs.Checks.{Fault, all_held, checked, role_ref_changed, rules_held}
use Rattle.kapi_escalation.specs.Exempt.{exemption, is_exempt}
use Rattle.kapi_escalation.specs.Kind.{policy_kind}
use Rattle.kapi_escalation.specs.Laws.{write_of}
use Rattle.kapi_escalation.specs.Writes.{keeps_role, scope, wanted}
use Rattle.kapi_escalation.specs.Written.{written_at}
use Rattle.kapi_escalation.specs.declared.kind.PolicyKind.{PolicyKind}
use Rattle.kapi_escalation.specs.declared.write.PolicyWrite.{PolicyWrite}
use Rattle.kapi_escalation.specs.declared.write.WrittenObject.{WrittenObject}
use Rattle.kapi_reply.specs.declared.refusal.Refused.{Refused}
use Rattle.kapi_request_info.specs.declared.attributes.Attributes.{Attributes}
use Rattle.kapi_reviews.specs.declared.kind.ReviewKind.{ReviewKind}
use Rattle.kapi_reviews.specs.declared.kind.ReviewKind.TheVariants as kind
use Rattle.kapi_store.proofs.Places.{nothing_stands}
use Rattle.kapi_store.specs.Faults.{StoreFault}
use Rattle.kapi_store.specs.Keys.{is_key}
use Rattle.kapi_store.specs.Listing.{is_within, listed_trees}
use Rattle.kapi_store.specs.Plain.{Plain, free_place, has_object, holds_objects, is_full_namespace, is_namespace, removable, removals, replaceable, revisions_left}
use Rattle.kapi_store.specs.declared.key.Key.{Key}
use Rattle.kapi_answer.specs.Answer.{Task, deletes, escalation_checked, passes, planned_creation, planned_on, task, to_be_created, to_be_replaced}
use Rattle.kapi_answer.specs.Collection.{deletes_all, to_delete_all}
use Rattle.kapi_answer.specs.Create.{Admitted, admitted, admitted_from, creates, given_name, in_namespace, in_place, key_at, key_of, namespace_on, stored, to_create, to_place, valid}
use Rattle.kapi_answer.specs.Delete.{Deletion, deletable, existing, removes, to_delete}
use Rattle.kapi_answer.specs.Escalation.{escalated, escalated_as, guarded, told}
use Rattle.kapi_answer.specs.Impersonation.{made_as}
use Rattle.kapi_answer.specs.Query.{queried}
use Rattle.kapi_answer.specs.Review.{review_kind}
use Rattle.kapi_answer.specs.Route.{ResourceRouted}
use Rattle.kapi_answer.specs.Update.{in_name, patch_of, replaces, to_patch, to_replace, to_update}
use Rattle.kapi_answer.specs.declared.query.Filter.{Filter}
use Rattle.kapi_answer.specs.declared.route.Action.{Action}
use Rattle.kapi_answer.specs.declared.route.Action.TheVariants as action
use Rattle.kapi_answer.specs.declared.route.ObjectPart.{ObjectPart}
use Rattle.kapi_confidential.proofs.Collections.{keys_within, lookup_within, namespaces_stay}
use Rattle.kapi_confidential.proofs.Reading.{ComeAlike, answer_alike, checked_alike, chosen_alike, fault_alike, own_review_alike, read_alike, then_alike}
use Rattle.kapi_confidential.proofs.Results.{bind_holds, returned, stored_ok}
use Rattle.kapi_confidential.specs.Alike.{AnswersAlike, DecidesAlike, Passes, SeesAlike}
use Rattle.kapi_confidential.specs.Writes.{AsksOfNoOther, IsChange, IsOfNoOther, NeedsRules, Puts, WritesAlike, place}

-- ---- the check against escalation

module _ (who : Identity) (objects other : PolicyObjects) (decides : DecidesAlike who objects other) (holds : (namespace : List ℕ) → held objects who namespace ≡ held other who namespace) where
  rules_alike : (o : WrittenObject) (rules : Option (List PolicyRule)) → rules_held objects who o rules ≡ rules_held other who o rules
  unfolding rules_held
  rules_alike o None = refl
  rules_alike o (Some rules) = ap (λ own. all_held own o rules) (holds (scope o))

  abbrev verdict : PolicyObjects → WrittenObject → Bool → Bool → Result (Unit {0}) Fault
  verdict policy o keeps exempt =
      let kept : Result (Unit {0}) Fault = if keeps then Ok tt else Err role_ref_changed in kept >>= λ u. (if exempt then Ok tt else rules_held policy who o (wanted policy o))

  guard_alike : (w : PolicyWrite) → (NeedsRules objects who w → wanted other w.object ≡ wanted objects w.object) → checked objects who w ≡ checked other who w
  unfolding checked
  guard_alike w grants =
      by_tests (keeps_role w.object) (is_exempt objects who w) refl refl
      ∙ ap (λ d. verdict other w.object (keeps_role w.object) (is_allowed d)) (decides (scope w.object) (exemption w.request_name w.object))
    where
      by_tests : (keeps exempt : Bool) → keeps_role w.object ≡ keeps → is_exempt objects who w ≡ exempt → verdict objects w.object keeps exempt ≡ verdict other w.object keeps exempt
      by_tests false exempt is so = refl
      by_tests true true is so = refl
      by_tests true false is so = ap (rules_held objects who w.object) (sym (grants (record { keeps = is; bound = so }))) ∙ rules_alike w.object (wanted other w.object)

  escalated_alike : (name : List ℕ) (k : Key) (old : Option Data) (tree : Data)
      → ((of : PolicyKind) → policy_kind k ≡ Some of → NeedsRules objects who (write_of name (written_at of k old tree)) → wanted other (written_at of k old tree) ≡ wanted objects (written_at of k old tree))
      → escalated objects who name k old tree ≡ escalated other who name k old tree
  unfolding escalated escalated_as guarded
  escalated_alike name k old tree grants = by_kind (policy_kind k) refl
    where
      by_kind : (of : Option PolicyKind) → policy_kind k ≡ of → escalated_as of objects who name k old tree ≡ escalated_as of other who name k old tree
      by_kind None is = refl
      by_kind (Some of) is = ap (told k.name (written_at of k old tree)) (guard_alike (write_of name (written_at of k old tree)) (grants of is))

-- ---- what is put at a place

-- a tree is put at the key
abbrev IsAt : Key → Key × Data → Type 0
IsAt k new = k ≡ new.0

-- what is created stands at a free place of a name
abbrev IsFreeIn : Plain → ResourceRow → List ℕ → Key × Data → Type 0
IsFreeIn s row namespace new = (name : List ℕ) × ((key_of row namespace name ≡ new.0) × (free_place s (key_of row namespace name) ≡ Ok tt))

replaced_at : (s : Plain) (row : ResourceRow) (of : ObjectPart) (k : Key) (body : Admitted) → IfOk (to_replace s row of k body) (IsAt k)
unfolding to_replace
replaced_at s row of k body =
    bind_holds (in_name k.name body.given.name) _ (IsAt k) (λ _ _. bind_holds (in_namespace k.namespace k.name body.given.namespace) _ (IsAt k)
    (λ _ _. bind_holds (stored k.name (replaceable s k body.given.resource_version)) _ (IsAt k) (λ old _. bind_holds (valid k.name body.object) _ (IsAt k) (λ tree _. refl))))

updated_at : (s : Plain) (row : ResourceRow) (of : ObjectPart) (k : Key) (bytes : List ℕ) → IfOk (to_update s row of k bytes) (IsAt k)
unfolding to_update
updated_at s row of k bytes = bind_holds (admitted row bytes) _ (IsAt k) (λ body _. replaced_at s row of k body)

patched_at : (s : Plain) (row : ResourceRow) (of : ObjectPart) (k : Key) (bytes : List ℕ) → IfOk (to_patch s row of k bytes) (IsAt k)
unfolding to_patch
patched_at s row of k bytes =
    bind_holds (patch_of bytes) _ (IsAt k) (λ patch _. bind_holds (existing s k) _ (IsAt k)
    (λ old _. bind_holds (admitted_from (read_as row (Some (merged old patch)))) _ (IsAt k) (λ body _. replaced_at s row of k body)))

created_at : (s : Plain) (row : ResourceRow) (namespace bytes : List ℕ) → IfOk (to_create s row namespace bytes) (IsFreeIn s row namespace)
unfolding to_create to_place
created_at s row namespace bytes =
    bind_holds (admitted row bytes) _ (IsFreeIn s row namespace) (λ body _. bind_holds (given_name row body.given.name) _ (IsFreeIn s row namespace)
    (λ name _. bind_holds (in_namespace namespace name body.given.namespace) _ (IsFreeIn s row namespace)
    (λ _ _. bind_holds (stored name (free_place s (key_of row namespace name))) _ (IsFreeIn s row namespace)
    (λ u free. bind_holds (valid name body.object) _ (IsFreeIn s row namespace) (λ tree _. (name, (refl, stored_ok name (free_place s (key_of row namespace name)) u free)))))))

-- ---- the store

module _ (s t : Plain) where
  -- the object at the key is in both, or in neither
  abbrev StandsAlike : Key → Type 0
  StandsAlike k = lookup (is_key k) t.objects ≡ lookup (is_key k) s.objects

  -- the object at the key can be removed from both, or from neither
  abbrev GoesAlike : Key → Type 0
  GoesAlike k = StandsAlike k × (is_full_namespace t k ≡ is_full_namespace s k)

  update_alike : (row : ResourceRow) (of : ObjectPart) (k : Key) (bytes : List ℕ) → StandsAlike k → to_update s row of k bytes ≡ to_update t row of k bytes
  unfolding to_update to_replace
  update_alike row of k bytes same = rw same refl

  patch_alike : (row : ResourceRow) (of : ObjectPart) (k : Key) (bytes : List ℕ) → StandsAlike k → to_patch s row of k bytes ≡ to_patch t row of k bytes
  unfolding to_patch to_replace
  patch_alike row of k bytes same = rw same refl

  create_alike : (row : ResourceRow) (namespace bytes : List ℕ) → ((name : List ℕ) → free_place s (key_of row namespace name) ≡ free_place t (key_of row namespace name))
      → to_create s row namespace bytes ≡ to_create t row namespace bytes
  unfolding to_create to_place
  create_alike row namespace bytes same =
      ap (λ (free : List ℕ → Result (Unit {0}) StoreFault). admitted row bytes >>= (λ body. given_name row body.given.name >>= (λ name. in_namespace namespace name body.given.namespace >>= (λ v. stored name (free name)
      >>= (λ u. valid name body.object >>= (λ tree. Ok (key_of row namespace name, in_place row namespace tree))))))) (λ i. λ name. same name i)

  delete_alike : (k : Key) (body : List ℕ) → StandsAlike k → to_delete s k body ≡ to_delete t k body
  unfolding to_delete
  delete_alike k body same = rw same refl

  exist_alike : (ks : List Key) → AllByRecursion GoesAlike ks → list_all (λ k. has_object k t) ks ≡ list_all (λ k. has_object k s) ks
  unfolding has_object
  exist_alike [] goes = refl
  exist_alike (k ∷ ks) goes = λ i. is_some (goes.0.0 i) && exist_alike ks goes.1 i

  full_alike : (ks : List Key) → AllByRecursion GoesAlike ks → list_any (is_full_namespace t) ks ≡ list_any (is_full_namespace s) ks
  full_alike [] goes = refl
  full_alike (k ∷ ks) goes = λ i. goes.0.1 i || full_alike ks goes.1 i

  removals_alike : (n : ℕ) (ks : List Key) → AllByRecursion GoesAlike ks → removals t.objects n ks ≡ removals s.objects n ks
  unfolding removals
  removals_alike n [] goes = refl
  removals_alike n (k ∷ ks) goes = λ i. record { revision = n + 1; key = k; old = goes.0.0 i; new = None } ∷ removals_alike (n + 1) ks goes.1 i

  module _ (revision : t.revision ≡ s.revision) where
    replaces_alike : (new : Key × Data) → StandsAlike new.0 → replaces s new ≡ replaces t new
    unfolding replaces revisions_left
    replaces_alike new same = rw (same, revision) refl

    creates_alike : (new : Key × Data) → creates s new ≡ creates t new
    unfolding creates revisions_left
    creates_alike new = rw revision refl

    removes_alike : (d : Deletion) → AllByRecursion GoesAlike d.keys → removes s d ≡ removes t d
    unfolding removes removable revisions_left
    removes_alike d goes = rw (exist_alike d.keys goes, full_alike d.keys goes, removals_alike t.revision d.keys goes, revision) refl

    deletes_alike : (x y : Result Deletion Refused) → x ≡ y → IfOk x (λ d. AllByRecursion GoesAlike d.keys) → ComeAlike s t (x >>= deletes) (y >>= deletes)
    deletes_alike x y is goes =
        then_alike s t x y is deletes deletes (λ d planned. ap (λ o. o >>= passes) (removes_alike d (returned x (λ d. AllByRecursion GoesAlike d.keys) d planned goes)))

-- ---- a request that passes authorization

twice : (namespaced : Bool) (namespace : List ℕ) → (if namespaced then (if namespaced then namespace else []) else []) ≡ (if namespaced then namespace else [])
twice true namespace = refl
twice false namespace = refl

module _ (who : Identity) (objects other : PolicyObjects) (s t : Plain) (sees : SeesAlike who objects other s t) (writes : WritesAlike who objects other s t) (request : HttpRequest) (a : Attributes)
    (r : ResourceRouted) (passed : Passes objects s.table who request.method a r) (f : Filter) (asks : queried r.action s.revision a.query ≡ Ok f) where
  abbrev mine : Task
  mine = task objects who request a r f

  abbrev its : Task
  its = task other who request a r f

  -- what is put at the key is checked alike
  abbrev IsCheckedAlike : Key → Type 0
  IsCheckedAlike k = (tree : Data) → escalation_checked s mine (k, tree) ≡ escalation_checked t its (k, tree)

  checked_put : (name : List ℕ) → Puts r.action r.point.name name → StandsAlike s t (place r a name) → IsCheckedAlike (place r a name)
  checked_put name puts same tree =
      let k : Key = place r a name in
      escalated_alike who objects other sees.decides sees.holds r.point.name k (lookup (is_key k) s.objects) tree (λ of is. writes.grants request.method a r name of tree passed puts is)
      ∙ ap (λ old. escalated other who r.point.name k old tree) (sym same)

  replaced_alike : Puts r.action r.point.name r.point.name → StandsAlike s t (place r a r.point.name) → (x y : Result (Key × Data) Refused) → x ≡ y → IfOk x (IsAt (place r a r.point.name))
      → ComeAlike s t (x >>= to_be_replaced s mine) (y >>= to_be_replaced t its)
  unfolding to_be_replaced
  replaced_alike puts same x y is at =
      then_alike s t x y is _ _ (λ new planned. let here = returned x (IsAt (place r a r.point.name)) new planned at in
      then_alike s t (escalation_checked s mine new) (escalation_checked t its new) (subst IsCheckedAlike here (checked_put r.point.name puts same) new.1) _ _
      (λ u _. ap (λ o. o >>= passes) (replaces_alike s t sees.revision new (subst (StandsAlike s t) here same))))

  created_alike : r.action ≡ action.Create → review_kind r.row ≡ None → ComeAlike s t (planned_creation None s mine) (planned_creation None t its)
  unfolding planned_creation to_be_created
  created_alike is kept =
      then_alike s t (to_create s mine.row mine.namespace mine.body) (to_create t its.row its.namespace its.body) (create_alike s t mine.row mine.namespace mine.body (λ name. sym (free name))) _ _
      (λ new planned. let new_at = returned (to_create s mine.row mine.namespace mine.body) (IsFreeIn s mine.row mine.namespace) new planned (created_at s mine.row mine.namespace mine.body) in
      then_alike s t (escalation_checked s mine new) (escalation_checked t its new) (subst IsCheckedAlike (sym (one_place new_at.0) ∙ new_at.1.0) (checked_put new_at.0 (subst (λ act. Puts act r.point.name new_at.0) (sym is) tt) (both_empty new_at.0 new_at.1.1)) new.1) _ _
      (λ u _. ap (λ o. o >>= passes) (creates_alike s t sees.revision new)))
    where
      one_place : (name : List ℕ) → key_of r.row (namespace_on r.row a.namespace) name ≡ place r a name
      one_place name = ap (λ namespace. key_at r.row namespace name) (twice r.row.namespaced a.namespace)

      free : (name : List ℕ) → free_place t (key_of r.row (namespace_on r.row a.namespace) name) ≡ free_place s (key_of r.row (namespace_on r.row a.namespace) name)
      free name = rw (one_place name) (writes.creation request.method a r name passed is kept)

      both_empty : (name : List ℕ) → free_place s (key_of r.row (namespace_on r.row a.namespace) name) ≡ Ok tt → StandsAlike s t (place r a name)
      both_empty name empty =
          let here : free_place s (place r a name) ≡ Ok tt = ap (free_place s) (sym (one_place name)) ∙ empty in
          nothing_stands t (place r a name) (writes.creation request.method a r name passed is kept ∙ here) ∙ sym (nothing_stands s (place r a name) here)

  creation_alike : (of : Option ReviewKind) → r.action ≡ action.Create → review_kind r.row ≡ of → IsOfNoOther of → ComeAlike s t (planned_creation of s mine) (planned_creation of t its)
  creation_alike (Some kind.SelfSubjectAccessReview) is kept own = own_review_alike who objects other s t sees request a r passed f asks (Some kind.SelfSubjectAccessReview) tt
  creation_alike (Some kind.SelfSubjectRulesReview) is kept own = own_review_alike who objects other s t sees request a r passed f asks (Some kind.SelfSubjectRulesReview) tt
  creation_alike (Some kind.SubjectAccessReview) is kept never = absurd never
  creation_alike (Some kind.LocalSubjectAccessReview) is kept never = absurd never
  creation_alike None is kept own = created_alike is kept

  goes_alike : r.action ≡ action.DeleteCollection → (k : Key) → is_within r.row (namespace_on r.row a.namespace) f.name k ≡ true → GoesAlike s t k
  goes_alike is k at = (
    sym (lookup_within r.row (namespace_on r.row a.namespace) f.name k at t.objects) ∙ ap (lookup (is_key k)) (writes.collection request.method a r f passed is asks)
        ∙ lookup_within r.row (namespace_on r.row a.namespace) f.name k at s.objects,
    ap (λ b. b && holds_objects t k.name) stays ∙ sym (ap (λ b. b && holds_objects s k.name) stays),
  )
    where
      stays : is_namespace k ≡ false
      stays = namespaces_stay s.table request.method a r f.name k passed.routes is at

  collected_alike : r.action ≡ action.DeleteCollection → to_delete_all s mine.row mine.namespace f mine.body ≡ to_delete_all t its.row its.namespace f its.body
  unfolding to_delete_all deletes_all revisions_left
  collected_alike is =
      ap (λ es. deletable request.body >>= (λ u. deletes_all s r.row es)) (chosen_alike r.row mine.namespace f s.objects t.objects (writes.collection request.method a r f passed is asks))
      ∙ rw sees.revision refl

  collected_at : r.action ≡ action.DeleteCollection → IfOk (to_delete_all s mine.row mine.namespace f mine.body) (λ d. AllByRecursion (GoesAlike s t) d.keys)
  unfolding to_delete_all deletes_all
  collected_at is =
      let P : Deletion → Type 0 = λ d. AllByRecursion (GoesAlike s t) d.keys in
      bind_holds (deletable mine.body) _ P (λ _ _. bind_holds (stored [] (revisions_left s (length (listed_trees r.row mine.namespace f.selector f.name s.objects)))) _ P
      (λ _ _. keys_within r.row mine.namespace f.name (GoesAlike s t) (goes_alike is) f.selector s.objects))

  deleted_at : r.action ≡ action.Delete → IfOk (to_delete s (place r a r.point.name) mine.body) (λ d. AllByRecursion (GoesAlike s t) d.keys)
  unfolding to_delete
  deleted_at is =
      let P : Deletion → Type 0 = λ d. AllByRecursion (GoesAlike s t) d.keys in
      bind_holds (deletable mine.body) _ P (λ _ _. bind_holds (existing s (place r a r.point.name)) _ P
      (λ tree _. ((writes.object request.method a r passed (subst IsChange (sym is) tt), writes.emptiness request.method a r passed is), tt)))

  on_alike : (act : Action) → r.action ≡ act → IsOfNoOther (review_kind r.row) → ComeAlike s t (planned_on act s mine) (planned_on act t its)
  unfolding planned_on
  on_alike action.Get is own = read_alike who objects other s t sees request a r passed f asks action.Get is tt
  on_alike action.List is own = read_alike who objects other s t sees request a r passed f asks action.List is tt
  on_alike action.Watch is own = read_alike who objects other s t sees request a r passed f asks action.Watch is tt
  on_alike action.Create is own = creation_alike (review_kind r.row) is refl own
  on_alike (action.Update part) is own =
      let k : Key = place r a r.point.name in
      let same = writes.object request.method a r passed (subst IsChange (sym is) tt) in
      replaced_alike (subst (λ act. Puts act r.point.name r.point.name) (sym is) refl) same (to_update s r.row part k request.body) (to_update t r.row part k request.body) (update_alike s t r.row part k request.body same) (updated_at s r.row part k request.body)
  on_alike (action.Patch part) is own =
      let k : Key = place r a r.point.name in
      let same = writes.object request.method a r passed (subst IsChange (sym is) tt) in
      replaced_alike (subst (λ act. Puts act r.point.name r.point.name) (sym is) refl) same (to_patch s r.row part k request.body) (to_patch t r.row part k request.body) (patch_alike s t r.row part k request.body same) (patched_at s r.row part k request.body)
  on_alike action.Delete is own =
      let k : Key = place r a r.point.name in
      deletes_alike s t sees.revision (to_delete s k request.body) (to_delete t k request.body) (delete_alike s t k request.body (writes.object request.method a r passed (subst IsChange (sym is) tt))) (deleted_at is)
  on_alike action.DeleteCollection is own =
      deletes_alike s t sees.revision (to_delete_all s mine.row mine.namespace f mine.body) (to_delete_all t its.row its.namespace f its.body) (collected_alike is) (collected_at is)

pub writes_alike : (objects other : PolicyObjects) (s t : Plain) (caller : Identity) (item : Result HttpRequest HttpFault) → DecidesAlike caller objects other
    → ((request : HttpRequest) (who : Identity) → item ≡ Ok request → made_as objects caller request ≡ Ok who → SeesAlike who objects other s t × WritesAlike who objects other s t)
    → AsksOfNoOther objects s caller item → AnswersAlike caller item objects other s t
writes_alike objects other s t caller (Ok request) decides alike own =
    answer_alike objects other s t caller decides request
    (λ a who is made. let both = alike request who refl made in
    checked_alike who objects other s t both.0 request a is (λ r passed f asks. on_alike who objects other s t both.0 both.1 request a r passed f asks r.action refl (own a who r is made passed)))
writes_alike objects other s t caller (Err fault) decides alike own = fault_alike objects other s t caller fault
