-- What an answer changes is what one write makes.
use Rattle.std.proofs.Common.{◌≡◌, ◌==◌, ℕ, List, [], ◌∷◌, Bool, true, false, Option, None, Some, Result, Ok, Err, if◌then◌else◌, length, refl, ap, ◌∙◌, subst}
use Rattle.std.specs.List.{IsDistinct, find}
use Rattle.std.specs.Map.{lookup}
use Rattle.std.specs.Prelude.{IfOk, ok_or}
use Rattle.serde_json.specs.Data.{Data}
use Rattle.kapi_text.specs.ResultIs.{◌>>=◌}
use Rattle.kapi_object.specs.Admission.{BodyFault, float, object_of, invalid, not_json, read_as, wrong_kind, wrong_version}
use Rattle.kapi_http.specs.declared.message.HttpRequest.{HttpRequest}
use Rattle.kapi_model.specs.Names.{is_name_on}
use Rattle.kapi_model.specs.declared.fault.FieldFault.{FieldFault}
use Rattle.kapi_model.specs.declared.row.ResourceRow.{ResourceRow}
use Rattle.kapi_object.specs.Given.{given_of}
use Rattle.kapi_object.specs.declared.body_fields.Given.{Given}
use Rattle.kapi_object.specs.declared.body_fields.GivenText.{GivenText}
use Rattle.kapi_object.specs.declared.body_fields.GivenText.TheVariants as given
use Rattle.kapi_object.specs.Merge.{merged}
use Rattle.kapi_policy.specs.Objects.{PolicyObjects}
use Rattle.kapi_model.specs.declared.identity.Identity.{Identity}
use Rattle.kapi_reply.specs.Refusals.{asked_for}
use Rattle.kapi_reply.specs.declared.refusal.BadRequestReason.TheVariants as word
use Rattle.kapi_reply.specs.declared.refusal.Refusal.TheVariants as refusal
use Rattle.kapi_reply.specs.declared.refusal.Refused.{Refused}
use Rattle.kapi_request_info.specs.Attributes.{info}
use Rattle.kapi_request_info.specs.Faults.{TargetFault}
use Rattle.kapi_request_info.specs.declared.attributes.Attributes.{Attributes}
use Rattle.kapi_reviews.specs.declared.kind.ReviewKind.{ReviewKind}
use Rattle.kapi_answer.specs.Headers.{media_typed}
use Rattle.kapi_answer.specs.Query.{queried}
use Rattle.kapi_answer.specs.Route.{ResourceRouted, Routed, health, resource, routed}
use Rattle.kapi_answer.specs.declared.query.Filter.{Filter}
use Rattle.kapi_answer.specs.declared.route.Action.{Action}
use Rattle.kapi_answer.specs.declared.route.Action.TheVariants as action
use Rattle.kapi_answer.specs.declared.route.ObjectPart.{ObjectPart}
use Rattle.kapi_store.proofs.Keys.{filter_distinct, one_distinct}
use Rattle.kapi_store.specs.Faults.{StoreFault, Conflict}
use Rattle.kapi_store.specs.Keys.{is_key}
use Rattle.kapi_store.specs.Listing.{is_listed}
use Rattle.kapi_store.specs.Plain.{Plain, PlainChange, admits, creation_in_place, free_place, removal, replaceable, replacement_in_place, revisions_left}
use Rattle.kapi_store.specs.Plain as store
use Rattle.kapi_store.specs.UidAndVersion.{version_in}
use Rattle.kapi_store.specs.declared.key.Key.{Key}
use Rattle.kapi_escalation.proofs.Sound.{then_holds}
use Rattle.kapi_watch.proofs.Lists.{standing_is_named}
use Rattle.kapi_watch.specs.Histories.{IsNamedBy, IsCreation}
use Rattle.kapi_answer.proofs.Granted.{review_tells, then_keeps}
use Rattle.kapi_answer.proofs.NamedTrees.{IsHome, is_home, new_named, other_named}
use Rattle.kapi_answer.specs.Answer.{Passed, Plan, Task, answer, answer_as, answer_asked, answer_by, answer_passed, carried_out, checked, create, delete, deletes, escalation_checked, passes, place_in, planned, planned_at, planned_creation, planned_for, planned_on, replace, task, tell, tells, to_be_created, to_be_replaced, told, told_well, watch, watching}
use Rattle.kapi_answer.specs.Authorization.{authorized}
use Rattle.kapi_answer.specs.Collection.{chosen, deletes_all, listed, to_delete_all}
use Rattle.kapi_answer.specs.Create.{Admitted, admitted, admitted_from, created, creates, given_name, in_namespace, key_of, name_text, stored, to_create, to_place, valid}
use Rattle.kapi_answer.specs.Delete.{Deletion, deletable, removed, removes, existing, to_delete}
use Rattle.kapi_answer.specs.Get.{found, found_if}
use Rattle.kapi_answer.specs.Impersonation.{made_as}
use Rattle.kapi_answer.specs.Histories.{AreNamed, AnswersWrite, IsWrite, LoadsCreate}
use Rattle.kapi_answer.specs.Histories as write
use Rattle.kapi_answer.specs.Load.{LoadFault, creates_named, is_kept_kind, loads, named_namespace, namespace_in, on_load, to_named}
use Rattle.kapi_answer.specs.Response.{Response}
use Rattle.kapi_answer.specs.Review.{review_kind, to_review}
use Rattle.kapi_answer.specs.Update.{in_name, patch_of, replaces, to_patch, to_replace, to_update, told_after}
use Rattle.kapi_answer.specs.Watch.{since_served}

-- what holds behind a check, for whatever it returned
then_is : {A B F : Type 0} (r : Result A F) (f : A → Result B F) (P : B → Type 0) → ((x : A) → r ≡ Ok x → IfOk (f x) P) → IfOk (r >>= f) P
then_is (Ok x) f P h = h x refl
then_is (Err e) f P h = tt

-- the changes that the store returns
stored_ok : {X : Type 0} (name : List ℕ) (r : Result X StoreFault) (x : X) → stored name r ≡ Ok x → r ≡ Ok x
stored_ok name (Ok y) x is = let same : y ≡ x = cc in ap Ok same
stored_ok name (Err fault) x is = absurd (cc is)

-- ---- a body

-- the tree of a body is the one whose name, namespace and version it specifies
abbrev IsTold : Admitted → Type 0
IsTold body = (tree : Data) → body.object ≡ Ok tree → body.given ≡ given_of tree

body_told : (r : Result Data BodyFault) → IfOk (admitted_from r) IsTold
unfolding admitted_from
body_told (Ok t) = λ tree is. let same : t ≡ tree = cc in ap given_of same
body_told (Err (invalid given faults)) = λ tree is. absurd (cc is)
body_told (Err not_json) = tt
body_told (Err float) = tt
body_told (Err wrong_kind) = tt
body_told (Err wrong_version) = tt

same_name : (b c : Bool) (e f : Refused) (text name : List ℕ) → (if b then Err e else (if c then Ok text else Err f)) ≡ Ok name → text ≡ name
same_name true c e f text name is = absurd (cc is)
same_name false true e f text name is = let same : text ≡ name = cc in same
same_name false false e f text name is = absurd (cc is)

name_is : (row : ResourceRow) (text name : List ℕ) → name_text row text ≡ Ok name → text ≡ name
unfolding name_text
name_is row text name is = same_name (length text == 0) (is_name_on row text) _ _ text name is

name_given : (row : ResourceRow) (g : GivenText) (name : List ℕ) → given_name row g ≡ Ok name → g ≡ given.Text name
unfolding given_name
name_given row given.Absent name is = absurd (cc is)
name_given row given.Mistyped name is = absurd (cc is)
name_given row (given.Text text) name is = ap given.Text (name_is row text name is)

valid_is : (name : List ℕ) (r : Result Data (List FieldFault)) (tree : Data) → valid name r ≡ Ok tree → r ≡ Ok tree
unfolding valid
valid_is name (Ok t) tree is = let same : t ≡ tree = cc in ap Ok same
valid_is name (Err faults) tree is = absurd (cc is)

-- ---- what is to be written

-- the place of a new object is free, and its tree is named by it
abbrev IsNew : Plain → Key × Data → Type 0
IsNew s new = (free_place s new.0 ≡ Ok tt) × IsNamedBy new.0 new.1

-- the tree of an object put in place of another is named by the place
abbrev IsOther : Key × Data → Type 0
IsOther new = IsNamedBy new.0 new.1

place_new : (s : Plain) (row : ResourceRow) (namespace : List ℕ) (body : Admitted) → IsHome row namespace → IsTold body → IfOk (to_place s row namespace body) (IsNew s)
unfolding to_place
place_new s row namespace body home told_it =
    then_is (given_name row body.given.name) _ (IsNew s)
    (λ name called. then_is (in_namespace namespace name body.given.namespace) _ (IsNew s)
    (λ u same. then_is (stored name (free_place s (key_of row namespace name))) _ (IsNew s)
    (λ v free. then_is (valid name body.object) _ (IsNew s)
    (λ tree object.
    let gives : body.given ≡ given_of tree = told_it tree (valid_is name body.object tree object) in
    let P : Given → Type 0 = λ g. g.name ≡ given.Text name in
    let Q : Given → Type 0 = λ g. in_namespace namespace name g.namespace ≡ Ok tt in (
      stored_ok name (free_place s (key_of row namespace name)) v free,
      new_named row namespace name tree home (subst P gives (name_given row body.given.name name called)) (subst Q gives same),
    )))))

create_new : (s : Plain) (row : ResourceRow) (namespace bytes : List ℕ) → IsHome row namespace → IfOk (to_create s row namespace bytes) (IsNew s)
unfolding to_create
create_new s row namespace bytes home =
    then_keeps (admitted row bytes) (to_place s row namespace) (IsNew s) (body_told (object_of row bytes)) (λ body told_it. place_new s row namespace body home told_it)

admits_old : (b : Bool) (t old : Data) (fault : StoreFault) → (if b then Ok t else Err fault) ≡ Ok old → Some t ≡ Some old
admits_old true t old fault is = let same : t ≡ old = cc in ap Some same
admits_old false t old fault is = absurd (cc is)

-- an object that may be replaced is stored
old_stands : (o : Option Data) (version : GivenText) (old : Data) → store.admitted o version ≡ Ok old → o ≡ Some old
old_stands None version old is = absurd (cc is)
old_stands (Some t) version old is = admits_old (admits (version_in t) version) t old (Conflict (version_in t)) is

module _ (s : Plain) (h : AreNamed s.objects) where
  replace_other : (row : ResourceRow) (of : ObjectPart) (k : Key) (body : Admitted) → IsHome row k.namespace → IsTold body → IfOk (to_replace s row of k body) IsOther
  unfolding to_replace
  replace_other row of k body home told_it =
      then_holds (in_name k.name body.given.name) _ IsOther
      (λ u. then_is (in_namespace k.namespace k.name body.given.namespace) _ IsOther
      (λ v same. then_is (stored k.name (replaceable s k body.given.resource_version)) _ IsOther
      (λ old stands. then_is (valid k.name body.object) _ IsOther
      (λ tree object.
      let gives : body.given ≡ given_of tree = told_it tree (valid_is k.name body.object tree object) in
      let Q : Given → Type 0 = λ g. in_namespace k.namespace k.name g.namespace ≡ Ok tt in
      let at : lookup (is_key k) s.objects ≡ Some old =
      old_stands (lookup (is_key k) s.objects) body.given.resource_version old (stored_ok k.name (replaceable s k body.given.resource_version) old stands) in
      other_named of row k old tree home (subst Q gives same) (standing_is_named k old s.objects h.named at)))))

  update_other : (row : ResourceRow) (of : ObjectPart) (k : Key) (bytes : List ℕ) → IsHome row k.namespace → IfOk (to_update s row of k bytes) IsOther
  unfolding to_update
  update_other row of k bytes home =
      then_keeps (admitted row bytes) (to_replace s row of k) IsOther (body_told (object_of row bytes)) (λ body told_it. replace_other row of k body home told_it)

  patch_other : (row : ResourceRow) (of : ObjectPart) (k : Key) (bytes : List ℕ) → IsHome row k.namespace → IfOk (to_patch s row of k bytes) IsOther
  unfolding to_patch
  patch_other row of k bytes home =
      then_holds (patch_of bytes) _ IsOther
      (λ patch. then_holds (existing s k) _ IsOther
      (λ old. then_keeps (admitted_from (read_as row (Some (merged old patch)))) (to_replace s row of k) IsOther (body_told (read_as row (Some (merged old patch))))
      (λ body told_it. replace_other row of k body home told_it)))

  -- objects that are to be removed are at different keys
  abbrev IsApart : Deletion → Type 0
  IsApart deletion = IsDistinct is_key deletion.keys

  delete_apart : (k : Key) (body : List ℕ) → IfOk (to_delete s k body) IsApart
  unfolding to_delete
  delete_apart k body = then_holds (deletable body) _ IsApart (λ u. then_holds (existing s k) _ IsApart (λ tree. one_distinct (k ∷ []) k refl))

  delete_all_apart : (row : ResourceRow) (namespace : List ℕ) (filter : Filter) (body : List ℕ) → IfOk (to_delete_all s row namespace filter body) IsApart
  unfolding to_delete_all deletes_all
  delete_all_apart row namespace filter body =
      then_holds (deletable body) _ IsApart
      (λ u. then_holds (stored [] (revisions_left s (length (chosen s row namespace filter)))) _ IsApart
      (λ v. filter_distinct (λ e. is_listed row namespace filter.selector filter.name e.0 e.1) s.objects h.sorted))

  -- ---- what a plan changes

  -- the changes that an answer reports are one write; a watch changes nothing
  abbrev IsWritePassed : Passed → Type 0
  IsWritePassed (told response) = IsWrite s response.changes
  IsWritePassed (watching w) = Unit {0}

  -- an answer without a change changes nothing, and what is written is named by its place
  abbrev IsNamedPlan : Plan → Type 0
  IsNamedPlan (tell response) = response.changes ≡ []
  IsNamedPlan (watch w) = Unit {0}
  IsNamedPlan (create new) = IsNew s new
  IsNamedPlan (replace new) = IsOther new
  IsNamedPlan (delete deletion) = IsApart deletion

  abbrev IsWriteResponse : Response → Type 0
  IsWriteResponse response = IsWrite s response.changes

  is_creation : (new : Key × Data) (cs : List PlainChange) → IsNew s new → creation_in_place s new.0 new.1 ≡ Ok cs → IsCreation s cs
  is_creation new cs n is = (new.0, new.1, n.1, ap (λ r. r >>= λ _. creation_in_place s new.0 new.1) n.0 ∙ is)

  creates_write : (new : Key × Data) → IsNew s new → IfOk (creates s new) IsWriteResponse
  unfolding creates
  creates_write new n =
      then_is (stored new.0.name (creation_in_place s new.0 new.1)) created IsWriteResponse
      (λ cs is. write.creates (is_creation new cs n (stored_ok new.0.name (creation_in_place s new.0 new.1) cs is)))

  replaces_write : (new : Key × Data) → IsOther new → IfOk (replaces s new) IsWriteResponse
  unfolding replaces
  replaces_write new n =
      then_is (stored new.0.name (replacement_in_place s new.0 new.1)) (told_after (lookup (is_key new.0) s.objects)) IsWriteResponse
      (λ cs is. write.replaces (new.0, new.1, n, stored_ok new.0.name (replacement_in_place s new.0 new.1) cs is))

  removes_write : (deletion : Deletion) → IsApart deletion → IfOk (removes s deletion) IsWriteResponse
  unfolding removes
  removes_write deletion apart =
      then_is (stored deletion.name (removal s deletion.keys)) (removed deletion.told) IsWriteResponse
      (λ cs is. write.removes (deletion.keys, apart, stored_ok deletion.name (removal s deletion.keys) cs is))

  passes_write : (r : Result Response Refused) → IfOk r IsWriteResponse → IfOk (r >>= passes) IsWritePassed
  passes_write r w = then_keeps r passes IsWritePassed w (λ response is. is)

  carried_out_write : (plan : Plan) → IsNamedPlan plan → IfOk (carried_out s plan) IsWritePassed
  carried_out_write (tell response) n = write.nothing n
  carried_out_write (watch w) n = tt
  carried_out_write (create new) n = passes_write (creates s new) (creates_write new n)
  carried_out_write (replace new) n = passes_write (replaces s new) (replaces_write new n)
  carried_out_write (delete deletion) n = passes_write (removes s deletion) (removes_write deletion n)

  -- ---- what is planned

  created_named : (t : Task) (new : Key × Data) → IsNew s new → IfOk (to_be_created s t new) IsNamedPlan
  unfolding to_be_created
  created_named t new n = then_holds (escalation_checked s t new) (λ u. Ok (create new)) IsNamedPlan (λ u. n)

  replaced_named : (t : Task) (new : Key × Data) → IsOther new → IfOk (to_be_replaced s t new) IsNamedPlan
  unfolding to_be_replaced
  replaced_named t new n = then_holds (escalation_checked s t new) (λ u. Ok (replace new)) IsNamedPlan (λ u. n)

  planned_creation_named : (kind : Option ReviewKind) (t : Task) → IsHome t.row t.namespace → IfOk (planned_creation kind s t) IsNamedPlan
  unfolding planned_creation
  planned_creation_named None t home =
      then_keeps (to_create s t.row t.namespace t.body) (to_be_created s t) IsNamedPlan (create_new s t.row t.namespace t.body home) (created_named t)
  planned_creation_named (Some kind) t home =
      then_keeps (to_review t.objects t.identity kind t.row t.namespace t.body) tells IsNamedPlan
      (review_tells t.objects t.identity kind t.row t.namespace t.body) (λ response nothing. nothing)

  found_tells : (o : Option Data) → IfOk (found_if o >>= tells) IsNamedPlan
  found_tells None = tt
  found_tells (Some tree) = refl

  planned_on_named : (a : Action) (t : Task) → IsHome t.row t.namespace → IfOk (planned_on a s t) IsNamedPlan
  unfolding planned_on found listed
  planned_on_named action.Get t home = found_tells (lookup (is_key (place_in t)) s.objects)
  planned_on_named action.List t home = refl
  planned_on_named action.Watch t home = tt
  planned_on_named action.Create t home = planned_creation_named (review_kind t.row) t home
  planned_on_named (action.Update of) t home =
      then_keeps (to_update s t.row of (place_in t) t.body) (to_be_replaced s t) IsNamedPlan (update_other t.row of (place_in t) t.body home) (replaced_named t)
  planned_on_named (action.Patch of) t home =
      then_keeps (to_patch s t.row of (place_in t) t.body) (to_be_replaced s t) IsNamedPlan (patch_other t.row of (place_in t) t.body home) (replaced_named t)
  planned_on_named action.Delete t home = then_keeps (to_delete s (place_in t) t.body) deletes IsNamedPlan (delete_apart (place_in t) t.body) (λ deletion apart. apart)
  planned_on_named action.DeleteCollection t home =
      then_keeps (to_delete_all s t.row t.namespace t.filter t.body) deletes IsNamedPlan (delete_all_apart t.row t.namespace t.filter t.body) (λ deletion apart. apart)

  module _ (objects : PolicyObjects) (identity : Identity) (request : HttpRequest) where
    planned_for_named : (a : Attributes) (r : ResourceRouted) → IfOk (planned_for objects s identity request a r) IsNamedPlan
    unfolding planned_for
    planned_for_named a r =
        then_holds (queried r.action s.revision a.query) _ IsNamedPlan
        (λ filter. then_holds (since_served s filter.since) _ IsNamedPlan
        (λ k. then_holds (media_typed request.method request.headers) _ IsNamedPlan
        (λ w. planned_on_named r.action (task objects identity request a r filter) (is_home r.row a.namespace r.point.name))))

    well_tells : IfOk (told_well request >>= tells) IsNamedPlan
    unfolding told_well
    well_tells =
        then_keeps (told_well request) tells IsNamedPlan
        (then_holds (media_typed request.method request.headers) _ (λ response. response.changes ≡ []) (λ w. refl)) (λ response nothing. nothing)

    planned_at_named : (a : Attributes) (r : Routed) → IfOk (planned_at objects s identity request a r) IsNamedPlan
    planned_at_named a health = well_tells
    planned_at_named a (resource r) = planned_for_named a r

    planned_named : (a : Attributes) → IfOk (planned objects s identity request a) IsNamedPlan
    unfolding planned
    planned_named a =
        then_holds (authorized objects identity a) _ IsNamedPlan
        (λ u. then_holds (routed s.table request.method a) _ IsNamedPlan (planned_at_named a))

    checked_write : (a : Attributes) → IfOk (checked objects s identity request a) IsWritePassed
    unfolding checked
    checked_write a = then_keeps (planned objects s identity request a) (carried_out s) IsWritePassed (planned_named a) carried_out_write

    -- ---- what is answered

    by_passed : (a : Attributes) (p : Passed) → IsWritePassed p → IsWrite s (answer_passed identity a request.close p).changes
    unfolding answer_passed
    by_passed a (told response) w = w
    by_passed a (watching w) u = write.nothing refl

    by_response : (a : Attributes) (r : Result Passed Refused) → IfOk r IsWritePassed → IsWrite s (answer_by identity request a r).changes
    unfolding answer_by
    by_response a (Ok passed) w = by_passed a passed w
    by_response a (Err refused) w = write.nothing refl

  as_write : (objects : PolicyObjects) (identity : Identity) (request : HttpRequest) (a : Attributes) (r : Result Identity Refused) → IsWrite s (answer_as objects s identity request a r).changes
  unfolding answer_as
  as_write objects identity request a (Ok other) =
      by_response objects other request a (checked objects s other request a) (checked_write objects other request a)
  as_write objects identity request a (Err refused) = write.nothing refl

  asked_write : (objects : PolicyObjects) (identity : Identity) (request : HttpRequest) (r : Result Attributes TargetFault) → IsWrite s (answer_asked objects s identity request r).changes
  unfolding answer_asked
  asked_write objects identity request (Ok a) = as_write objects identity request a (made_as objects identity request)
  asked_write objects identity request (Err fault) = write.nothing refl

-- the changes of every answer are those of one write
pub answers_write : AnswersWrite
unfolding answer
answers_write objects s identity (Ok request) h = asked_write s h objects identity request (info request.method request.target)
answers_write objects s identity (Err fault) h = write.nothing refl

-- ---- what is loaded

load_home : (b : Bool) (o : Option (List ℕ)) (fault : Refused) (namespace : List ℕ) → ok_or (if b then o else Some []) fault ≡ Ok namespace → (if b then namespace else []) ≡ namespace
load_home true o fault namespace is = refl
load_home false o fault namespace is = let same : [] ≡ namespace = cc in same

row_home : (row : ResourceRow) (given : GivenText) (fault : Refused) (namespace : List ℕ) → ok_or (namespace_in row given) fault ≡ Ok namespace → IsHome row namespace
unfolding namespace_in
row_home row given fault namespace is = load_home row.namespaced (named_namespace given) fault namespace is

named_new : (s : Plain) (tree : Data) → IfOk (to_named s tree) (IsNew s)
unfolding to_named
named_new s tree =
    then_holds (ok_or (find (is_kept_kind tree) s.table) (asked_for refusal.NoSuchResource)) _ (IsNew s)
    (λ row. then_is (ok_or (namespace_in row (given_of tree).namespace) (asked_for (refusal.BadRequest word.Namespace))) _ (IsNew s)
    (λ namespace is.
    then_keeps (admitted_from (read_as row (Some tree))) (to_place s row namespace) (IsNew s) (body_told (read_as row (Some tree)))
    (λ body told_it. place_new s row namespace body (row_home row (given_of tree).namespace _ namespace is) told_it)))

named_creation : (s : Plain) (text : List ℕ) → IfOk (creates_named s text) (IsCreation s)
unfolding creates_named
named_creation s text =
    then_holds (patch_of text) _ (IsCreation s)
    (λ tree. then_keeps (to_named s tree) _ (IsCreation s) (named_new s tree)
    (λ new n. made_creation new n (creation_in_place s new.0 new.1) refl))
  where
    made_creation : (new : Key × Data) → IsNew s new → (r : Result (List PlainChange) StoreFault) → creation_in_place s new.0 new.1 ≡ r → IfOk (stored new.0.name r) (IsCreation s)
    made_creation new n (Ok cs) is = (new.0, new.1, n.1, ap (λ q. q >>= λ _. creation_in_place s new.0 new.1) n.0 ∙ is)
    made_creation new n (Err fault) is = tt

on_load_keeps : {X : Type 0} (r : Result X Refused) (P : X → Type 0) → IfOk r P → IfOk (on_load r) P
on_load_keeps (Ok x) P h = h
on_load_keeps (Err refused) P h = tt

loads_creation : (s : Plain) (text : List ℕ) → IfOk (loads s text) (IsCreation s)
unfolding loads
loads_creation s text = on_load_keeps (creates_named s text) (IsCreation s) (named_creation s text)

-- the changes of every object that is loaded are those of a creation
pub loads_create : LoadsCreate
loads_create s text cs is = let P : Result (List PlainChange) LoadFault → Type 0 = λ r. IfOk r (IsCreation s) in subst P is (loads_creation s text)
