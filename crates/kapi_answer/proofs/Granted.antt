-- What an answer changes was granted to the caller.
use Rattle.std.proofs.Common.{◌≡◌, ◌+◌, inl, inr, ℕ, List, [], ◌∷◌, Option, None, Some, Result, Ok, Err, ok_or, length, refl}
use Rattle.std.specs.Fmt.{decimal}
use Rattle.std.specs.List.{AllByRecursion}
use Rattle.std.specs.Map.{lookup}
use Rattle.std.specs.Prelude.{IfOk}
use Rattle.serde_json.specs.Data.{Data}
use Rattle.kapi_text.specs.ResultIs.{◌>>=◌}
use Rattle.kapi_escalation.specs.Impersonation.{MakesAs, impersonated}
use Rattle.kapi_http.specs.declared.message.HttpFault.{HttpFault}
use Rattle.kapi_http.specs.declared.message.HttpRequest.{HttpRequest}
use Rattle.kapi_policy.specs.Objects.{PolicyObjects}
use Rattle.kapi_model.specs.declared.identity.Identity.{Identity}
use Rattle.kapi_reply.specs.declared.refusal.Refused.{Refused}
use Rattle.kapi_request_info.specs.Attributes.{info}
use Rattle.kapi_reviews.specs.Reviews.{reviewed}
use Rattle.kapi_reviews.specs.declared.kind.ReviewKind.{ReviewKind}
use Rattle.kapi_model.specs.declared.row.ResourceRow.{ResourceRow}
use Rattle.kapi_request_info.specs.Faults.{TargetFault}
use Rattle.kapi_request_info.specs.Impersonation.{Misuse, bad_headers, impersonation}
use Rattle.kapi_request_info.specs.declared.impersonated.Impersonation.{Impersonation}
use Rattle.kapi_rules.specs.declared.point.Point.{Point}
use Rattle.kapi_request_info.specs.declared.attributes.Attributes.{Attributes}
use Rattle.kapi_answer.specs.Headers.{media_typed}
use Rattle.kapi_answer.specs.Query.{queried}
use Rattle.kapi_answer.specs.Route.{ResourceRouted, Routed, health, resource, routed}
use Rattle.kapi_answer.specs.declared.route.Action.{Action}
use Rattle.kapi_answer.specs.declared.route.Action.TheVariants as action
use Rattle.kapi_store.specs.Faults.{StoreFault, Missing}
use Rattle.kapi_store.specs.Keys.{is_key}
use Rattle.kapi_store.specs.Plain.{Plain, PlainChange, creation_at, creation_in_place, removable, removal, removals, replaced, replacement_in_place, replacement_at, revisions_left}
use Rattle.kapi_store.specs.Same.{same_tree}
use Rattle.kapi_store.specs.UidAndVersion.{uid_in, uid_of, version_in, with_stamps_of}
use Rattle.kapi_store.specs.declared.key.Key.{Key}
use Rattle.kapi_escalation.proofs.Sound.{either_holds, then_holds}
use Rattle.kapi_escalation.specs.Kind.{policy_kind}
use Rattle.kapi_answer.proofs.Escalated.{passed_is_granted}
use Rattle.kapi_escalation.proofs.Granted.{deletion_is_granted, stamped_is_granted}
use Rattle.kapi_escalation.specs.Granted.{AreGranted, IsDeletion, IsGrantedAt}
use Rattle.kapi_answer.specs.Answer.{Passed, Plan, Task, answer, answer_as, answer_asked, answer_by, answer_passed, carried_out, checked, create, delete, deletes, escalation_checked, passes, place_in, planned, planned_at, planned_creation, planned_for, planned_on, replace, task, tell, tells, to_be_created, to_be_replaced, told, told_well, watch, watching}
use Rattle.kapi_answer.specs.Authorization.{authorized}
use Rattle.kapi_answer.specs.Collection.{listed, to_delete_all}
use Rattle.kapi_answer.specs.Create.{Admitted, admitted, created, creates, with_namespace_on, stored, to_create, valid}
use Rattle.kapi_answer.specs.Delete.{Deletion, removed, removes, to_delete}
use Rattle.kapi_answer.specs.Get.{found, found_if}
use Rattle.kapi_answer.specs.Impersonation.{AreGrantedAs, acts_as, acts_or_refused, made_as}
use Rattle.kapi_answer.specs.Response.{Response}
use Rattle.kapi_answer.specs.Review.{in_review_namespace, review_kind, to_answer, to_review}
use Rattle.kapi_answer.specs.Watch.{since_served}
use Rattle.kapi_answer.specs.Update.{replaces, to_patch, to_update, told_after}

-- what holds behind a check that passed, for its result
pub then_keeps : {A B F : Type 0} {Q : A → Type 0} (r : Result A F) (f : A → Result B F) (P : B → Type 0) → IfOk r Q → ((x : A) → Q x → IfOk (f x) P) → IfOk (r >>= f) P
then_keeps (Ok x) f P q h = h x q
then_keeps (Err e) f P q h = tt

stored_holds : {X : Type 0} (name : List ℕ) (r : Result X StoreFault) (P : X → Type 0) → IfOk r P → IfOk (stored name r) P
stored_holds name (Ok x) P h = h
stored_holds name (Err fault) P h = tt

module _ (objects : PolicyObjects) (identity : Identity) where
  -- ---- what a write of the store changes

  -- the changes are granted
  abbrev Granted : List PlainChange → Type 0
  Granted cs = AreGranted objects identity cs

  -- the tree is granted at its place
  abbrev IsGrantedNew : Key × Data → Type 0
  IsGrantedNew new = IsGrantedAt objects identity (policy_kind new.0) new.0 (Some new.1)

  creation_granted : (s : Plain) (new : Key × Data) → IsGrantedNew new → IfOk (creation_in_place s new.0 new.1) Granted
  creation_granted s new h =
      then_holds (revisions_left s 1) (λ _. Ok (creation_at new.0 new.1 (s.revision + 1) ∷ [])) Granted
      (λ _. (stamped_is_granted objects identity (policy_kind new.0) new.0 (uid_of (s.revision + 1)) (decimal (s.revision + 1)) new.1 h, tt))

  replacement_granted : (s : Plain) (new : Key × Data) → IsGrantedNew new → IfOk (replacement_in_place s new.0 new.1) Granted
  replacement_granted s new h =
      then_holds (ok_or (lookup (is_key new.0) s.objects) Missing) (replaced s new.0 new.1) Granted
      (λ old. either_holds (same_tree (with_stamps_of old new.1) old) (Ok []) (revisions_left s 1 >>= λ _. Ok (replacement_at new.0 old new.1 (s.revision + 1) ∷ [])) Granted tt
      (then_holds (revisions_left s 1) (λ _. Ok (replacement_at new.0 old new.1 (s.revision + 1) ∷ [])) Granted
      (λ _. (
        stamped_is_granted objects identity (policy_kind new.0) new.0 (uid_in old) (decimal (s.revision + 1)) (with_stamps_of old new.1)
            (stamped_is_granted objects identity (policy_kind new.0) new.0 (uid_in old) (version_in old) new.1 h),
        tt,
      ))))

  removals_delete : (os : List (Key × Data)) (revision : ℕ) (ks : List Key) → AllByRecursion IsDeletion (removals os revision ks)
  unfolding removals
  removals_delete os revision [] = tt
  removals_delete os revision (k ∷ ks) = (refl, removals_delete os (revision + 1) ks)

  removals_granted : (os : List (Key × Data)) (revision : ℕ) (ks : List Key) → Granted (removals os revision ks)
  unfolding removals
  removals_granted os revision [] = tt
  removals_granted os revision (k ∷ ks) = (deletion_is_granted objects identity (policy_kind k) k, removals_delete os (revision + 1) ks)

  removal_granted : (s : Plain) (ks : List Key) → IfOk (removal s ks) Granted
  removal_granted s ks =
      then_holds (removable s ks) (λ _. revisions_left s (length ks) >>= λ _. Ok (removals s.objects s.revision ks)) Granted
      (λ _. then_holds (revisions_left s (length ks)) (λ _. Ok (removals s.objects s.revision ks)) Granted
      (λ _. removals_granted s.objects s.revision ks))

  -- ---- what a plan changes

  abbrev IsGrantedResponse : Response → Type 0
  IsGrantedResponse o = Granted o.changes

  -- the changes that an answer reports are granted; a watch changes nothing
  abbrev IsGrantedPassed : Passed → Type 0
  IsGrantedPassed (told response) = IsGrantedResponse response
  IsGrantedPassed (watching w) = Unit {0}

  -- an answer without a change changes nothing, and what is written is granted
  abbrev IsGrantedPlan : Plan → Type 0
  IsGrantedPlan (tell response) = response.changes ≡ []
  IsGrantedPlan (watch w) = Unit {0}
  IsGrantedPlan (create new) = IsGrantedNew new
  IsGrantedPlan (replace new) = IsGrantedNew new
  IsGrantedPlan (delete deletion) = Unit {0}

  create_granted : (s : Plain) (new : Key × Data) → IsGrantedNew new → IfOk (creates s new) IsGrantedResponse
  unfolding creates
  create_granted s new h =
      then_keeps (stored new.0.name (creation_in_place s new.0 new.1)) created IsGrantedResponse
      (stored_holds new.0.name (creation_in_place s new.0 new.1) Granted (creation_granted s new h)) (λ cs granted. granted)

  replace_granted : (s : Plain) (new : Key × Data) → IsGrantedNew new → IfOk (replaces s new) IsGrantedResponse
  unfolding replaces
  replace_granted s new h =
      then_keeps (stored new.0.name (replacement_in_place s new.0 new.1)) (told_after (lookup (is_key new.0) s.objects)) IsGrantedResponse
      (stored_holds new.0.name (replacement_in_place s new.0 new.1) Granted (replacement_granted s new h)) (λ cs granted. granted)

  delete_granted : (s : Plain) (deletion : Deletion) → IfOk (removes s deletion) IsGrantedResponse
  unfolding removes
  delete_granted s deletion =
      then_keeps (stored deletion.name (removal s deletion.keys)) (removed deletion.told) IsGrantedResponse
      (stored_holds deletion.name (removal s deletion.keys) Granted (removal_granted s deletion.keys)) (λ cs granted. granted)

  passes_granted : (r : Result Response Refused) → IfOk r IsGrantedResponse → IfOk (r >>= passes) IsGrantedPassed
  passes_granted r h = then_keeps r passes IsGrantedPassed h (λ response granted. granted)

  carried_out_granted : (s : Plain) (plan : Plan) → IsGrantedPlan plan → IfOk (carried_out s plan) IsGrantedPassed
  carried_out_granted s (tell response) h = rw h tt
  carried_out_granted s (watch w) h = tt
  carried_out_granted s (create new) h = passes_granted (creates s new) (create_granted s new h)
  carried_out_granted s (replace new) h = passes_granted (replaces s new) (replace_granted s new h)
  carried_out_granted s (delete deletion) h = passes_granted (removes s deletion) (delete_granted s deletion)

-- ---- what is planned

-- the plan of a task is granted to its identity
abbrev IsGrantedFor : Task → Plan → Type 0
IsGrantedFor t = IsGrantedPlan t.objects t.identity

created_granted : (s : Plain) (t : Task) (new : Key × Data) → IfOk (to_be_created s t new) (IsGrantedFor t)
unfolding to_be_created
created_granted s t new =
    then_keeps (escalation_checked s t new) (λ u. Ok (create new)) (IsGrantedFor t)
    (passed_is_granted t.objects t.identity t.name new.0 (lookup (is_key new.0) s.objects) new.1) (λ u granted. granted)

replaced_granted : (s : Plain) (t : Task) (new : Key × Data) → IfOk (to_be_replaced s t new) (IsGrantedFor t)
unfolding to_be_replaced
replaced_granted s t new =
    then_keeps (escalation_checked s t new) (λ u. Ok (replace new)) (IsGrantedFor t)
    (passed_is_granted t.objects t.identity t.name new.0 (lookup (is_key new.0) s.objects) new.1) (λ u granted. granted)

-- the answer to a review changes nothing
answer_tells : (objects : PolicyObjects) (identity : Identity) (kind : ReviewKind) (row : ResourceRow) (namespace : List ℕ) (body : Admitted)
    → IfOk (to_answer objects identity kind row namespace body) (λ response. response.changes ≡ [])
unfolding to_answer
answer_tells objects identity kind row namespace body =
    then_holds (in_review_namespace row namespace body.given.namespace) _ (λ response. response.changes ≡ [])
    (λ same. then_holds (valid [] body.object) _ (λ response. response.changes ≡ [])
    (λ tree. then_holds (valid [] (reviewed objects identity kind (with_namespace_on row namespace tree))) _ (λ response. response.changes ≡ []) (λ answer. refl)))

pub review_tells : (objects : PolicyObjects) (identity : Identity) (kind : ReviewKind) (row : ResourceRow) (namespace bytes : List ℕ)
    → IfOk (to_review objects identity kind row namespace bytes) (λ response. response.changes ≡ [])
unfolding to_review
review_tells objects identity kind row namespace bytes =
    then_holds (admitted row bytes) _ (λ response. response.changes ≡ []) (answer_tells objects identity kind row namespace)

planned_creation_granted : (kind : Option ReviewKind) (s : Plain) (t : Task) → IfOk (planned_creation kind s t) (IsGrantedFor t)
unfolding planned_creation
planned_creation_granted None s t = then_holds (to_create s t.row t.namespace t.body) (to_be_created s t) (IsGrantedFor t) (created_granted s t)
planned_creation_granted (Some kind) s t =
    then_keeps (to_review t.objects t.identity kind t.row t.namespace t.body) tells (IsGrantedFor t)
    (review_tells t.objects t.identity kind t.row t.namespace t.body) (λ response nothing. nothing)

found_tells : (t : Task) (o : Option Data) → IfOk (found_if o >>= tells) (IsGrantedFor t)
found_tells t None = tt
found_tells t (Some tree) = refl

planned_on_granted : (a : Action) (s : Plain) (t : Task) → IfOk (planned_on a s t) (IsGrantedFor t)
unfolding planned_on found listed
planned_on_granted action.Get s t = found_tells t (lookup (is_key (place_in t)) s.objects)
planned_on_granted action.List s t = refl
planned_on_granted action.Watch s t = tt
planned_on_granted action.Create s t = planned_creation_granted (review_kind t.row) s t
planned_on_granted (action.Update of) s t = then_holds (to_update s t.row of (place_in t) t.body) (to_be_replaced s t) (IsGrantedFor t) (replaced_granted s t)
planned_on_granted (action.Patch of) s t = then_holds (to_patch s t.row of (place_in t) t.body) (to_be_replaced s t) (IsGrantedFor t) (replaced_granted s t)
planned_on_granted action.Delete s t = then_holds (to_delete s (place_in t) t.body) deletes (IsGrantedFor t) (λ deletion. tt)
planned_on_granted action.DeleteCollection s t = then_holds (to_delete_all s t.row t.namespace t.filter t.body) deletes (IsGrantedFor t) (λ deletion. tt)

module _ (objects : PolicyObjects) (s : Plain) (identity : Identity) (request : HttpRequest) where
  -- the plan is granted to the caller
  abbrev IsGrantedHere : Plan → Type 0
  IsGrantedHere = IsGrantedPlan objects identity

  planned_for_granted : (a : Attributes) (r : ResourceRouted) → IfOk (planned_for objects s identity request a r) IsGrantedHere
  unfolding planned_for
  planned_for_granted a r =
      then_holds (queried r.action s.revision a.query) _ IsGrantedHere
      (λ filter. then_holds (since_served s filter.since) _ IsGrantedHere
      (λ k. then_holds (media_typed request.method request.headers) _ IsGrantedHere (λ w. planned_on_granted r.action s (task objects identity request a r filter))))

  well_tells : IfOk (told_well request >>= tells) IsGrantedHere
  unfolding told_well
  well_tells =
      then_keeps (told_well request) tells IsGrantedHere (then_holds (media_typed request.method request.headers) _ (λ response. response.changes ≡ []) (λ w. refl)) (λ response nothing. nothing)

  planned_at_granted : (a : Attributes) (r : Routed) → IfOk (planned_at objects s identity request a r) IsGrantedHere
  planned_at_granted a health = well_tells
  planned_at_granted a (resource r) = planned_for_granted a r

  planned_granted : (a : Attributes) → IfOk (planned objects s identity request a) IsGrantedHere
  unfolding planned
  planned_granted a =
      then_holds (authorized objects identity a) _ IsGrantedHere
      (λ u. then_holds (routed s.table request.method a) _ IsGrantedHere (planned_at_granted a))

  checked_granted : (a : Attributes) → IfOk (checked objects s identity request a) (IsGrantedPassed objects identity)
  unfolding checked
  checked_granted a =
      then_keeps (planned objects s identity request a) (carried_out s) (IsGrantedPassed objects identity) (planned_granted a) (carried_out_granted objects identity s)

  -- ---- what is answered

  by_passed : (a : Attributes) (p : Passed) → IsGrantedPassed objects identity p → AreGranted objects identity (answer_passed identity a request.close p).changes
  unfolding answer_passed
  by_passed a (told response) h = h
  by_passed a (watching w) h = tt

  by_response : (a : Attributes) (r : Result Passed Refused) → IfOk r (IsGrantedPassed objects identity) → AreGranted objects identity (answer_by identity request a r).changes
  unfolding answer_by
  by_response a (Ok passed) h = by_passed a passed h
  by_response a (Err refused) h = tt

-- ---- as whom a request is made

module _ (objects : PolicyObjects) (identity : Identity) where
  impersonated_makes : (wanted : Impersonation) (r : Result Identity (List Point)) → impersonated objects identity wanted ≡ r → IfOk (acts_or_refused r) (MakesAs objects identity)
  impersonated_makes wanted (Ok other) is = inr (wanted, is)
  impersonated_makes wanted (Err points) is = tt

  acting_makes : (r : Result (Option Impersonation) Misuse) → IfOk (acts_as objects identity r) (MakesAs objects identity)
  unfolding acts_as
  acting_makes (Ok None) = inl refl
  acting_makes (Ok (Some wanted)) = impersonated_makes wanted (impersonated objects identity wanted) refl
  acting_makes (Err bad_headers) = tt

  as_granted : (s : Plain) (request : HttpRequest) (a : Attributes) (r : Result Identity Refused) → IfOk r (MakesAs objects identity)
      → AreGrantedAs objects identity (answer_as objects s identity request a r).changes
  unfolding answer_as
  as_granted s request a (Ok other) makes =
      (other, (makes, by_response objects s other request a (checked objects s other request a) (checked_granted objects s other request a)))
  as_granted s request a (Err refused) makes = (identity, (inl refl, tt))

  asked_granted : (s : Plain) (request : HttpRequest) (r : Result Attributes TargetFault) → AreGrantedAs objects identity (answer_asked objects s identity request r).changes
  unfolding answer_asked
  asked_granted s request (Ok a) = as_granted s request a (made_as objects identity request) (acting_makes (impersonation request.headers))
  asked_granted s request (Err fault) = (identity, (inl refl, tt))

-- the changes of every answer are granted to the identity as which its request is made
pub answers_are_granted : (objects : PolicyObjects) (s : Plain) (identity : Identity) (item : Result HttpRequest HttpFault)
    → AreGrantedAs objects identity (answer objects s identity item).changes
unfolding answer
answers_are_granted objects s identity (Ok request) = asked_granted objects identity s request (info request.method request.target)
answers_are_granted objects s identity (Err fault) = (identity, (inl refl, tt))
