-- Requests that only read are answered by what may be read.
use Rattle.std.proofs.Common.{◌≡◌, ℕ, Bool, true, false, not, ◌==◌, if◌then◌else◌, List, Option, Some, None, Result, Ok, Err, map, length, refl, sym, ap, ◌∙◌, subst, codes, []}
use Rattle.std.specs.List.{filter}
use Rattle.serde_json.specs.Data.{Data, no_members, object}
use Rattle.kapi_text.specs.ResultIs.{◌>>=◌}
use Rattle.kapi_object.specs.Tree.{in_metadata}
use Rattle.kapi_escalation.specs.Impersonation.{denied, effective, impersonated, is_denied, questions}
use Rattle.kapi_escalation.specs.declared.question.Question.{Question}
use Rattle.kapi_http.specs.declared.message.HttpFault.{HttpFault}
use Rattle.kapi_http.specs.declared.message.HttpRequest.{HttpRequest}
use Rattle.kapi_http.specs.declared.message.StatusCode.TheVariants as status
use Rattle.kapi_model.specs.declared.identity.Identity.{Identity}
use Rattle.kapi_model.specs.Selector.{matches}
use Rattle.kapi_model.specs.declared.fault.FieldFault.{FieldFault}
use Rattle.kapi_policy.specs.Laws.{is_allowed}
use Rattle.kapi_policy.specs.Objects.{PolicyObjects}
use Rattle.kapi_reply.specs.Refusals.{asked_for}
use Rattle.kapi_reply.specs.declared.refusal.Refusal.TheVariants as refusal
use Rattle.kapi_reply.specs.declared.refusal.Refused.{Refused}
use Rattle.kapi_request_info.specs.Attributes.{info}
use Rattle.kapi_request_info.specs.Faults.{TargetFault}
use Rattle.kapi_request_info.specs.Impersonation.{Misuse, bad_headers, impersonation}
use Rattle.kapi_request_info.specs.declared.attributes.Attributes.{Attributes}
use Rattle.kapi_request_info.specs.declared.impersonated.Impersonation.{Impersonation}
use Rattle.kapi_store.specs.Listing.{is_listed, is_within, listed_trees}
use Rattle.kapi_store.specs.Plain.{Plain}
use Rattle.kapi_store.specs.declared.key.Key.{Key}
use Rattle.kapi_watch.specs.Watches.{startable, started_at, watch_from}
use Rattle.kapi_watch.specs.declared.scope.WatchScope.{WatchScope}
use Rattle.kapi_answer.specs.Answer.{Plan, answer, answer_as, answer_asked, answer_by, carried_out, checked, planned, planned_at, planned_creation, planned_for, planned_on, task, tells, told_well, watch}
use Rattle.kapi_answer.specs.Authorization.{authorized, is_authorized}
use Rattle.kapi_answer.specs.Collection.{list_of, listed}
use Rattle.kapi_answer.specs.Create.{admitted, namespace_on, valid, with_namespace_on}
use Rattle.kapi_answer.specs.Get.{found, found_if}
use Rattle.kapi_answer.specs.Headers.{media_typed}
use Rattle.kapi_answer.specs.Impersonation.{acts_as, acts_or_refused, made_as}
use Rattle.kapi_answer.specs.Response.{Response, told}
use Rattle.kapi_answer.specs.Query.{queried}
use Rattle.kapi_answer.specs.Route.{ResourceRouted, Routed, health, resource, routed}
use Rattle.kapi_answer.specs.Watch.{since_served}
use Rattle.kapi_answer.specs.declared.query.Filter.{Filter}
use Rattle.kapi_answer.specs.declared.route.Action.{Action}
use Rattle.kapi_answer.specs.declared.route.Action.TheVariants as action
use Rattle.kapi_policy.specs.Decided.{decided, held}
use Rattle.kapi_reviews.specs.Reviews.{access_answer, reviewed, rules_answer, spec_answer}
use Rattle.kapi_reviews.specs.Answers.{decision_tree, question_tree, review_tree, rules_tree}
use Rattle.kapi_reviews.specs.Questions.{at, question}
use Rattle.kapi_reviews.specs.Attributes.{has}
use Rattle.kapi_reviews.specs.Faults.{namespace_of, review_faults}
use Rattle.kapi_reviews.specs.declared.question.Question.{Question as Asked}
use Rattle.kapi_reviews.specs.declared.kind.ReviewKind.{ReviewKind}
use Rattle.kapi_reviews.specs.declared.kind.ReviewKind.TheVariants as kind
use Rattle.kapi_object.specs.Contents.{put_text, text_at}
use Rattle.kapi_answer.specs.Review.{in_review_namespace, review_kind, to_answer, to_review}
use Rattle.kapi_model.specs.declared.row.ResourceRow.{ResourceRow}
use Rattle.kapi_confidential.proofs.Filters.{both_filters}
use Rattle.kapi_confidential.specs.Alike.{AnswersAlike, DecidesAlike, IsListing, IsRead, IsSelfReview, Passes, ReadsOnly, SeesAlike, within}

-- ---- decisions

if_true : (b : Bool) {F : Type 0} (e : F) (u : Unit {0}) → (if b then Ok tt else Err e) ≡ Ok u → b ≡ true
if_true true e u is = refl
if_true false e u is = absurd (cc is)

module _ (who : Identity) (objects other : PolicyObjects) (alike : DecidesAlike who objects other) where
  authorized_alike : (a : Attributes) → authorized objects who a ≡ authorized other who a
  unfolding authorized
  authorized_alike a = ap (λ d. if is_allowed d then Ok tt else Err (asked_for refusal.Forbidden)) (alike a.namespace a.point)

  denied_alike : (qs : List Question) → denied objects who qs ≡ denied other who qs
  denied_alike qs =
      let same : is_denied objects who ≡ is_denied other who = λ i. λ q. not (is_allowed (alike q.namespace q.point i)) in
      ap (λ test. map (λ q. q.point) (filter test qs)) same

  impersonated_alike : (wanted : Impersonation) → impersonated objects who wanted ≡ impersonated other who wanted
  unfolding impersonated
  impersonated_alike wanted = ap (λ points. if length points == 0 then Ok (effective wanted) else Err points) (denied_alike (questions wanted))

  made_alike : (request : HttpRequest) → made_as objects who request ≡ made_as other who request
  unfolding acts_as
  made_alike request = by_headers (impersonation request.headers)
    where
      by_headers : (r : Result (Option Impersonation) Misuse) → acts_as objects who r ≡ acts_as other who r
      by_headers (Ok None) = refl
      by_headers (Ok (Some wanted)) = ap acts_or_refused (impersonated_alike wanted)
      by_headers (Err bad_headers) = refl

-- ---- reviews of the caller's own rights

module _ (who : Identity) (objects other : PolicyObjects) (decides : DecidesAlike who objects other) (holds : (namespace : List ℕ) → held objects who namespace ≡ held other who namespace) where
  asks_itself : (namespace : List ℕ) (spec : Data) → (question kind.SelfSubjectAccessReview namespace who spec).identity ≡ who
  unfolding question
  asks_itself namespace spec = by_test (has (codes "resourceAttributes") spec) _ _ refl refl
    where
      by_test : (b : Bool) (x y : Asked) → x.identity ≡ who → y.identity ≡ who → (if b then x else y).identity ≡ who
      by_test true x y h k = h
      by_test false x y h k = k

  decided_alike : (q : Asked) → q.identity ≡ who → decided objects q.identity q.namespace q.point ≡ decided other q.identity q.namespace q.point
  decided_alike q is = subst (λ i. decided objects i q.namespace q.point ≡ decided other i q.namespace q.point) (sym is) (decides q.namespace q.point)

  spec_alike : (of : ReviewKind) → IsSelfReview (Some of) → (namespace : List ℕ) (spec : Data) → spec_answer objects who of namespace spec ≡ spec_answer other who of namespace spec
  unfolding spec_answer access_answer rules_answer
  spec_alike kind.SelfSubjectAccessReview read namespace spec =
      let q : Asked = question kind.SelfSubjectAccessReview namespace who spec in
      ap (λ d. review_tree kind.SelfSubjectAccessReview namespace (question_tree kind.SelfSubjectAccessReview q) (decision_tree d)) (decided_alike q (asks_itself namespace spec))
  spec_alike kind.SelfSubjectRulesReview read namespace spec =
      ap (λ rules. review_tree kind.SelfSubjectRulesReview namespace (object (put_text (codes "namespace") (text_at (codes "namespace") spec) no_members)) (rules_tree rules)) (holds (text_at (codes "namespace") spec))
  spec_alike kind.SubjectAccessReview never namespace spec = absurd never
  spec_alike kind.LocalSubjectAccessReview never namespace spec = absurd never

  reviewed_alike : (of : ReviewKind) → IsSelfReview (Some of) → (tree : Data) → reviewed objects who of tree ≡ reviewed other who of tree
  unfolding reviewed
  reviewed_alike of read tree =
      ap (λ d. if length (review_faults of tree) == 0 then Ok d else Err (review_faults of tree)) (spec_alike of read (namespace_of tree) (at (codes "spec") tree))

  review_alike : (of : ReviewKind) → IsSelfReview (Some of) → (row : ResourceRow) (namespace bytes : List ℕ) → to_review objects who of row namespace bytes ≡ to_review other who of row namespace bytes
  unfolding to_review to_answer
  review_alike of read row namespace bytes =
      ap (λ (answers : Data → Result Data (List FieldFault)). admitted row bytes >>= (λ body. in_review_namespace row namespace body.given.namespace >>= (λ same. valid [] body.object >>= (λ tree. valid [] (answers (with_namespace_on row namespace tree))
      >>= (λ answer. Ok (told status.Created answer)))))) (λ i. λ tree. reviewed_alike of read tree i)

-- ---- a request that passes authorization

-- what becomes of two plans is the same
abbrev pub ComeAlike : Plain → Plain → Result Plan Refused → Result Plan Refused → Type 0
ComeAlike s t p q = (p >>= carried_out s) ≡ (q >>= carried_out t)

module _ {A : Type 0} (s t : Plain) where
  pub then_alike : (x y : Result A Refused) → x ≡ y → (f g : A → Result Plan Refused) → ((v : A) → x ≡ Ok v → ComeAlike s t (f v) (g v)) → ComeAlike s t (x >>= f) (y >>= g)
  then_alike x y is f g same = on x same ∙ ap (λ z. (z >>= g) >>= carried_out t) is
    where
      on : (z : Result A Refused) → ((v : A) → z ≡ Ok v → ComeAlike s t (f v) (g v)) → ComeAlike s t (z >>= f) (z >>= g)
      on (Ok v) same = same v refl
      on (Err e) same = refl

tells_alike : (s t : Plain) (x y : Result Response Refused) → x ≡ y → ComeAlike s t (x >>= tells) (y >>= tells)
tells_alike s t x y is = then_alike s t x y is tells tells (λ o _. refl)

-- the objects that a collection request selects
pub chosen_alike : (row : ResourceRow) (namespace : List ℕ) (f : Filter) (xs ys : List (Key × Data)) → within row namespace f.name ys ≡ within row namespace f.name xs
    → listed_trees row namespace f.selector f.name xs ≡ listed_trees row namespace f.selector f.name ys
unfolding is_listed
chosen_alike row namespace f xs ys same = chosen_by xs ∙ ap (λ l. filter is_chosen l) (sym same) ∙ sym (chosen_by ys)
  where
    is_chosen : Key × Data → Bool
    is_chosen e = matches f.selector (in_metadata (codes "labels") e.1)

    chosen_by : (entries : List (Key × Data)) → listed_trees row namespace f.selector f.name entries ≡ filter is_chosen (within row namespace f.name entries)
    chosen_by entries = both_filters (λ e. is_within row namespace f.name e.0) is_chosen entries

module _ (who : Identity) (objects other : PolicyObjects) (s t : Plain) (sees : SeesAlike who objects other s t) (request : HttpRequest) (a : Attributes) where
  since_alike : (since : ℕ) → since_served s since ≡ since_served t since
  unfolding since_served startable
  since_alike since = rw (sees.revision, sees.first) refl

  module _ (r : ResourceRouted) (passes : Passes objects s.table who request.method a r) (f : Filter) (asks : queried r.action s.revision a.query ≡ Ok f) where
    abbrev namespace : List ℕ
    namespace = namespace_on r.row a.namespace

    shown_alike : (act : Action) → r.action ≡ act → IsListing act → listed_trees r.row namespace f.selector f.name s.objects ≡ listed_trees r.row namespace f.selector f.name t.objects
    shown_alike act is listing = chosen_alike r.row namespace f s.objects t.objects (sees.list request.method a r f passes (subst IsListing (sym is) listing) asks)

    abbrev list_plan : List (Key × Data) → ℕ → Result Plan Refused
    list_plan entries revision = tells (told status.Ok (list_of r.row entries revision))

    abbrev scope : WatchScope
    scope = record { row = r.row; namespace = namespace; selector = f.selector; name = f.name }

    abbrev watch_plan : List (Key × Data) → ℕ → Result Plan Refused
    watch_plan entries revision =
        Ok (watch (if f.since == 0 then record { scope = scope; first = map (λ e. e.1) entries; start = revision; shown = 0; position = revision } else started_at scope f.since))

    -- a plan that changes nothing, made of the selected objects and the revision
    by_list : (plan : List (Key × Data) → ℕ → Result Plan Refused) (act : Action) → r.action ≡ act → IsListing act
        → (plan (listed_trees r.row namespace f.selector f.name s.objects) s.revision >>= carried_out s) ≡ (plan (listed_trees r.row namespace f.selector f.name t.objects) t.revision >>= carried_out s)
    by_list plan act is listing =
        ap (λ l. plan l s.revision >>= carried_out s) (shown_alike act is listing) ∙ ap (λ n. plan (listed_trees r.row namespace f.selector f.name t.objects) n >>= carried_out s) (sym sees.revision)

    -- a review of the caller's own rights
    pub own_review_alike : (of : Option ReviewKind) → IsSelfReview of → ComeAlike s t (planned_creation of s (task objects who request a r f)) (planned_creation of t (task other who request a r f))
    unfolding planned_creation
    own_review_alike (Some kind.SelfSubjectAccessReview) read = tells_alike s t _ _ (review_alike who objects other sees.decides sees.holds kind.SelfSubjectAccessReview tt r.row namespace request.body)
    own_review_alike (Some kind.SelfSubjectRulesReview) read = tells_alike s t _ _ (review_alike who objects other sees.decides sees.holds kind.SelfSubjectRulesReview tt r.row namespace request.body)
    own_review_alike (Some kind.SubjectAccessReview) never = absurd never
    own_review_alike (Some kind.LocalSubjectAccessReview) never = absurd never
    own_review_alike None never = absurd never

    pub read_alike : (act : Action) → r.action ≡ act → IsRead r.row act → ComeAlike s t (planned_on act s (task objects who request a r f)) (planned_on act t (task other who request a r f))
    unfolding planned_on found listed watch_from
    read_alike action.Get is read = tells_alike s t _ _ (ap found_if (sym (sees.object request.method a r passes is)))
    read_alike action.List is read = by_list list_plan action.List is tt
    read_alike action.Watch is read = by_list watch_plan action.Watch is tt
    read_alike action.Create is read = own_review_alike (review_kind r.row) read
    read_alike (action.Update part) is never = absurd never
    read_alike (action.Patch part) is never = absurd never
    read_alike action.Delete is never = absurd never
    read_alike action.DeleteCollection is never = absurd never

  -- a request is checked alike if each of its actions that pass comes to the same
  module _ (is : info request.method request.target ≡ Ok a) (on_alike : (r : ResourceRouted) → Passes objects s.table who request.method a r → (f : Filter) → queried r.action s.revision a.query ≡ Ok f
      → ComeAlike s t (planned_on r.action s (task objects who request a r f)) (planned_on r.action t (task other who request a r f))) where
    for_alike : (r : ResourceRouted) → Passes objects s.table who request.method a r → ComeAlike s t (planned_for objects s who request a r) (planned_for other t who request a r)
    unfolding planned_for
    for_alike r passes =
        then_alike s t (queried r.action s.revision a.query) (queried r.action t.revision a.query) (ap (λ n. queried r.action n a.query) (sym sees.revision)) _ _
        (λ f asks. then_alike s t (since_served s f.since) (since_served t f.since) (since_alike f.since) _ _
        (λ k _. then_alike s t (media_typed request.method request.headers) (media_typed request.method request.headers) refl _ _ (λ w _. on_alike r passes f asks)))

    at_alike : (r : Routed) → is_authorized objects who a ≡ true → routed s.table request.method a ≡ Ok r → ComeAlike s t (planned_at objects s who request a r) (planned_at other t who request a r)
    at_alike health allowed routes = tells_alike s t (told_well request) (told_well request) refl
    at_alike (resource r) allowed routes = for_alike r (record { target = request.target; asks = is; allowed = allowed; routes = routes })

    pub checked_alike : checked objects s who request a ≡ checked other t who request a
    unfolding checked planned authorized
    checked_alike =
        then_alike s t (authorized objects who a) (authorized other who a) (authorized_alike who objects other sees.decides a) _ _
        (λ v passes. then_alike s t (routed s.table request.method a) (routed t.table request.method a) (ap (λ table. routed table request.method a) (sym sees.table)) _ _
        (λ r routes. at_alike r (if_true (is_authorized objects who a) (asked_for refusal.Forbidden) v passes) routes))

-- ---- any request

module _ (objects other : PolicyObjects) (s t : Plain) (caller : Identity) (decides : DecidesAlike caller objects other) (request : HttpRequest)
    (checks : (a : Attributes) (who : Identity) → info request.method request.target ≡ Ok a → made_as objects caller request ≡ Ok who → checked objects s who request a ≡ checked other t who request a) where
  as_alike : (a : Attributes) → info request.method request.target ≡ Ok a → (made : Result Identity Refused) → made_as objects caller request ≡ made
      → answer_as objects s caller request a made ≡ answer_as other t caller request a made
  unfolding answer_as
  as_alike a is (Ok who) made = ap (λ c. answer_by who request a c) (checks a who is made)
  as_alike a is (Err e) made = refl

  asked_alike : (found : Result Attributes TargetFault) → info request.method request.target ≡ found → answer_asked objects s caller request found ≡ answer_asked other t caller request found
  unfolding answer_asked
  asked_alike (Ok a) is = as_alike a is (made_as objects caller request) refl ∙ ap (λ made. answer_as other t caller request a made) (made_alike caller objects other decides request)
  asked_alike (Err fault) is = refl

  pub answer_alike : AnswersAlike caller (Ok request) objects other s t
  unfolding answer
  answer_alike = asked_alike (info request.method request.target) refl

pub fault_alike : (objects other : PolicyObjects) (s t : Plain) (caller : Identity) (fault : HttpFault) → AnswersAlike caller (Err fault) objects other s t
unfolding answer
fault_alike objects other s t caller fault = refl

pub reads_alike : (objects other : PolicyObjects) (s t : Plain) (caller : Identity) (item : Result HttpRequest HttpFault) → DecidesAlike caller objects other
    → ((request : HttpRequest) (who : Identity) → item ≡ Ok request → made_as objects caller request ≡ Ok who → SeesAlike who objects other s t)
    → ReadsOnly objects s caller item → AnswersAlike caller item objects other s t
reads_alike objects other s t caller (Ok request) decides sees reads =
    answer_alike objects other s t caller decides request
    (λ a who is made. checked_alike who objects other s t (sees request who refl made) request a is
    (λ r passes f asks. read_alike who objects other s t (sees request who refl made) request a r passes f asks r.action refl (reads a who r is made passes)))
reads_alike objects other s t caller (Err fault) decides sees reads = fault_alike objects other s t caller fault

pub alike_itself : (who : Identity) (objects : PolicyObjects) (s : Plain) → SeesAlike who objects objects s s
alike_itself who objects s = record {
  decides = λ namespace p. refl;
  holds = λ namespace. refl;
  table = refl;
  revision = refl;
  first = refl;
  object = λ method a r passes is. refl;
  list = λ method a r f passes read asks. refl;
}
