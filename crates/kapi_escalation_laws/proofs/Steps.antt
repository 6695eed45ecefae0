-- Each step is admitted, and all stays within along a run.
use Rattle.std.proofs.Common.{◌≡◌, ◌⊎◌, inl, inr, ℕ, List, [], ◌∷◌, Bool, true, false, if◌then◌else◌, not, ◌||◌, Option, Some, None, refl, sym, ap, subst, ◌∙◌}
use Rattle.std.specs.Option.{is_some}
use Rattle.std.specs.Str.{bytes_eq}
use Rattle.std.proofs.lemmas.Bool.{and_parts, or_parts}
use Rattle.serde_json.specs.Data.{Data}
use Rattle.kapi_model.specs.declared.kinds.RoleKind.TheVariants as role_kind
use Rattle.kapi_model.specs.declared.role_ref.RoleRef.{RoleRef}
use Rattle.kapi_model.specs.declared.identity.Identity.{Identity}
use Rattle.kapi_model.specs.declared.role.ClusterRole.{ClusterRole}
use Rattle.kapi_rules.proofs.Covers.{same}
use Rattle.kapi_rules.specs.declared.atom.Atom.{Atom}
use Rattle.kapi_aggregation.specs.Roles.{takes_from}
use Rattle.kapi_aggregation.specs.Unions.{IsUnion, union_for}
use Rattle.kapi_policy.proofs.Sets.{change_keeps}
use Rattle.kapi_policy.specs.Decided.{Binding, bindings_in, cluster_binding, held, namespace_binding, rules_of, rules_of_kind}
use Rattle.kapi_policy.specs.Laws.{IsInOrder}
use Rattle.kapi_policy.specs.Objects.{PolicyObjects, applied, with_object, without_object}
use Rattle.kapi_policy.specs.declared.change.PolicyChange.TheVariants as change
use Rattle.kapi_policy.specs.declared.change.PolicyKey.{PolicyKey}
use Rattle.kapi_policy.specs.declared.change.PolicyKey.TheVariants as key
use Rattle.kapi_policy.specs.declared.change.PolicyPut.TheVariants as put
use Rattle.kapi_escalation.specs.Authority.{full_authority}
use Rattle.kapi_escalation.specs.Checks.{grant, holds_all, holds_authority, holds_found}
use Rattle.kapi_escalation.specs.Exempt.{exemption, is_exempt}
use Rattle.kapi_escalation.specs.Writes.{put_of, scope, wanted, was_aggregated}
use Rattle.kapi_escalation.specs.declared.write.PolicyWrite.{PolicyWrite}
use Rattle.kapi_escalation.specs.declared.write.WrittenObject.{WrittenObject}
use Rattle.kapi_escalation.specs.declared.write.WrittenObject.TheVariants as written
use Rattle.kapi_escalation_laws.proofs.Admitted.{ClusterRoleChange, IsAdmitted, facts_kept, has_by_rules, never_grows, takes_nothing}
use Rattle.kapi_escalation_laws.proofs.After.{binding_deleted, binding_put, cluster_binding_deleted, cluster_binding_put, cluster_role_deleted, cluster_role_put, role_deleted, role_put}
use Rattle.kapi_aggregation.proofs.Lists.{all_at, has_mapped}
use Rattle.kapi_escalation_laws.proofs.Entries.{found_in}
use Rattle.kapi_escalation_laws.proofs.Facts.{acts_as_himself, no_binding, no_escalation, no_full_authority, written_are_own}
use Rattle.kapi_escalation_laws.proofs.Unions.{union_has}
use Rattle.kapi_escalation_laws.specs.Access.{IsUnprivileged, may}
use Rattle.kapi_aggregation.specs.Members.{Has}
use Rattle.kapi_escalation_laws.specs.States.{IsSettled, Labels, PolicyState, cluster_role_at, labelled, labelled_roles, turned}
use Rattle.kapi_escalation_laws.specs.Steps.{AreBy, DropsLabels, IsBy, IsWritten, KeepsLabels, MadeWrite, Makes, PolicyStep, Runs, SetsLabels, deletes, turns, writes}
use Rattle.kapi_escalation_laws.specs.Within.{HasAtom, IsOwn, RoleHas, RolesNeverGrow, StaysWithin, scope_of}

-- ---- the start

same_role : (o : Option ClusterRole) (r c : ClusterRole) → o ≡ Some r → o ≡ Some c → c ≡ r
same_role o r c h k = cc (h, k)

module _ (acting : List Identity) (state : PolicyState) (order : IsInOrder state.objects) (settled : IsSettled state) where
  -- a stored aggregated cluster role is settled
  is_union : (name : List ℕ) (r : ClusterRole) → cluster_role_at state.objects name ≡ Some r → IsUnion (labelled_roles state.objects state.labels) (labelled state.labels (name, r))
  is_union name r found =
      let entry = found_in (bytes_eq name) state.objects.cluster_roles r found in
      let named : name ≡ entry.0 = same name entry.0 entry.1.1 in
      all_at (IsUnion (labelled_roles state.objects state.labels)) (labelled_roles state.objects state.labels) (labelled state.labels (name, r)) settled
      (has_mapped (labelled state.labels) state.objects.cluster_roles (name, r) (rw named entry.1.0))

  turns_begin : (name other : List ℕ) (r c : ClusterRole) (a : Atom) → cluster_role_at state.objects name ≡ Some r → cluster_role_at state.objects other ≡ Some c
      → takes_from (labelled state.labels (name, r)) (state.labels other) ≡ true → HasAtom c.rules a → IsOwn acting state.objects [] a ⊎ HasAtom r.rules a
  turns_begin name other r c a at_r at_c taken has = by_kind (is_some r.aggregation_rule) refl
    where
      by_name : (b : Bool) → bytes_eq other name ≡ b → r.rules ≡ union_for (labelled_roles state.objects state.labels) (labelled state.labels (name, r)) → HasAtom r.rules a
      by_name true one union =
          let equal : c ≡ r = same_role (cluster_role_at state.objects name) r c at_r (rw (← same other name one) at_c) in
          has_by_rules c.rules r.rules a (sym (ap (λ (c : ClusterRole). c.rules) equal)) has
      by_name false apart union =
          has_by_rules (union_for (labelled_roles state.objects state.labels) (labelled state.labels (name, r))) r.rules a union
          (union_has state.objects state.labels name other r c a at_c apart taken has)

      by_kind : (b : Bool) → is_some r.aggregation_rule ≡ b → IsOwn acting state.objects [] a ⊎ HasAtom r.rules a
      by_kind true aggregated = inr (by_name (bytes_eq other name) refl (is_union name r at_r aggregated))
      by_kind false plain = absurd (takes_nothing r.aggregation_rule (state.labels other) plain taken)

  pub begins : StaysWithin acting state.objects state.objects state.labels
  begins = record { order = order; roles = λ kind name namespace a role. inr role; turns = turns_begin; bindings = λ namespace b counts. inl counts }

-- ---- changes of cluster roles

new_or_was : (b : Bool) (new : ClusterRole) (was : Option ClusterRole) (r : ClusterRole) → (if b then Some new else was) ≡ Some r → ((b ≡ true) × (new ≡ r)) ⊎ ((b ≡ false) × (was ≡ Some r))
new_or_was true new was r h = inl (refl, cc h)
new_or_was false new was r h = inr (refl, h)

gone_or_was : (b : Bool) (was : Option ClusterRole) (r : ClusterRole) → (if b then None else was) ≡ Some r → (b ≡ false) × (was ≡ Some r)
gone_or_was true was r h = absurd (cc h)
gone_or_was false was r h = (refl, h)

set_elsewhere : (b : Bool) (given was now : Option Data) → b ≡ false → now ≡ (if b then given else was) → now ≡ was
set_elsewhere true given was now b h = absurd (cc b)
set_elsewhere false given was now b h = h

by_authority : (aggregated all : Bool) → (not aggregated || all) ≡ true → (all ≡ true → ⊥) → aggregated ≡ false
by_authority true all h never = absurd (never h)
by_authority false all h never = refl

not_exempt : (e h : Bool) → (e || h) ≡ true → (e ≡ true → ⊥) → h ≡ true
not_exempt true h g never = absurd (never refl)
not_exempt false h g never = g

module _ (acting : List Identity) (start old : PolicyObjects) (before : Labels) (facts : StaysWithin acting start old before) where
  -- a change that is none keeps all cluster roles
  all_stand : (now : Labels) → KeepsLabels before now → (name : List ℕ) (r : ClusterRole) → cluster_role_at old name ≡ Some r → ClusterRoleChange acting start old before now name r
  all_stand now kept name r found = ClusterRoleChange.stands found (kept name)

  -- ---- deletions

  delete_admitted : (k : PolicyKey) (now : Labels) → DropsLabels k before now → IsAdmitted acting start old before (applied (change.Delete k) old) now
  unfolding applied without_object bindings_in
  delete_admitted (key.Role place) now kept =
      record {
        order = change_keeps (change.Delete (key.Role place)) old facts.order;
        roles = λ name namespace a role. inr (record { rules = role.rules; found = role_deleted old facts.order place name namespace role.rules role.found; has = role.has });
        cluster_roles = all_stand now kept;
        bindings = λ namespace b counts. inl counts;
      }
  delete_admitted (key.ClusterRole name) now kept =
      record {
        order = change_keeps (change.Delete (key.ClusterRole name)) old facts.order;
        roles = λ other namespace a role. inr (record { rules = role.rules; found = role.found; has = role.has });
        cluster_roles = λ q r found.
            let was = gone_or_was (bytes_eq q name) (cluster_role_at old q) r (sym (cluster_role_deleted old facts.order name q) ∙ found) in
            ClusterRoleChange.stands was.1 (kept q was.0);
        bindings = λ namespace b counts. inl counts;
      }
  delete_admitted (key.RoleBinding place) now kept =
      record {
        order = change_keeps (change.Delete (key.RoleBinding place)) old facts.order;
        roles = λ other namespace a role. inr (record { rules = role.rules; found = role.found; has = role.has });
        cluster_roles = all_stand now kept;
        bindings = λ namespace b counts. inl (binding_deleted namespace old place b counts);
      }
  delete_admitted (key.ClusterRoleBinding name) now kept =
      record {
        order = change_keeps (change.Delete (key.ClusterRoleBinding name)) old facts.order;
        roles = λ other namespace a role. inr (record { rules = role.rules; found = role.found; has = role.has });
        cluster_roles = all_stand now kept;
        bindings = λ namespace b counts. inl (cluster_binding_deleted namespace old name b counts);
      }

  -- ---- turns

  turn_admitted : (name : List ℕ) (was : ClusterRole) (now : Labels) → cluster_role_at old name ≡ Some was → KeepsLabels before now
      → IsAdmitted acting start old before (applied (change.Put (put.ClusterRole name (turned old before name was))) old) now
  unfolding applied with_object bindings_in
  turn_admitted name was now stood kept =
      record {
        order = change_keeps (change.Put (put.ClusterRole name (turned old before name was))) old facts.order;
        roles = λ other namespace a role. inr (record { rules = role.rules; found = role.found; has = role.has });
        cluster_roles = λ q r found. by_case q r (new_or_was (bytes_eq q name) (turned old before name was) (cluster_role_at old q) r (sym (cluster_role_put old name (turned old before name was) q) ∙ found));
        bindings = λ namespace b counts. inl counts;
      }
    where
      by_case : (q : List ℕ) (r : ClusterRole) → ((bytes_eq q name ≡ true) × (turned old before name was ≡ r)) ⊎ ((bytes_eq q name ≡ false) × (cluster_role_at old q ≡ Some r))
          → ClusterRoleChange acting start old before now q r
      by_case q r (inl here) =
          let named : q ≡ name = same q name here.0 in
          ClusterRoleChange.given_union was (rw named stood) (kept q) (rw named (sym here.1))
      by_case q r (inr there) = ClusterRoleChange.stands there.1 (kept q)

  -- ---- writes

  module _ (unprivileged : (who : Identity) → Has acting who → IsUnprivileged start who) (who : Identity) (acts : Has acting who) where
    -- no acting identity writes what it does not hold
    none_exempt : (request_name : List ℕ) (o : WrittenObject) → may old who (scope o) (exemption request_name o) ≡ true → ⊥
    none_exempt request_name (written.Role place role_written) = no_escalation acting start old before facts unprivileged who place.namespace role_kind.Role request_name acts
    none_exempt request_name (written.ClusterRole name versions) = no_escalation acting start old before facts unprivileged who [] role_kind.ClusterRole request_name acts
    none_exempt request_name (written.RoleBinding place versions) = no_binding acting start old before facts unprivileged who place.namespace versions.new.role_ref acts
    none_exempt request_name (written.ClusterRoleBinding name versions) = no_binding acting start old before facts unprivileged who [] versions.new.role_ref acts

    -- an acting identity holds each write that is granted to it
    granted_is_held : (w : PolicyWrite) → grant old who w ≡ true
        → (holds_found (held old who (scope w.object)) (wanted old w.object) ≡ true) × (holds_authority (held old who (scope w.object)) w.object ≡ true)
    unfolding grant
    granted_is_held w granted =
        and_parts (holds_found (held old who (scope w.object)) (wanted old w.object)) (holds_authority (held old who (scope w.object)) w.object)
        (not_exempt (is_exempt old who w) _ granted (none_exempt w.request_name w.object))

    -- the rules of a role that is bound are own
    bound_are_own : (role : RoleRef) (namespace : List ℕ) → holds_found (held old who namespace) (rules_of old role namespace) ≡ true
        → (a : Atom) → RoleHas old role.kind role.name namespace a → IsOwn acting start namespace a
    unfolding rules_of
    bound_are_own role namespace all a has =
        written_are_own acting start old before facts who namespace has.rules acts (rw has.found at all) a has.has

    put_admitted : (o : WrittenObject) (given : Option Data) (now : Labels)
        → (holds_found (held old who (scope o)) (wanted old o) ≡ true) × (holds_authority (held old who (scope o)) o ≡ true) → SetsLabels (put_of o) given before now
        → IsAdmitted acting start old before (applied (change.Put (put_of o)) old) now
    unfolding applied with_object bindings_in
    put_admitted (written.Role place role_written) given now holds kept =
        record {
          order = change_keeps (change.Put (put.Role place role_written)) old facts.order;
          roles = λ name namespace a role. by_case name namespace a role (role_put old place role_written name namespace role.rules role.found);
          cluster_roles = all_stand now kept;
          bindings = λ namespace b counts. inl counts;
        }
      where
        own : (a : Atom) → HasAtom role_written.rules a → IsOwn acting start place.namespace a
        own = written_are_own acting start old before facts who place.namespace role_written.rules acts holds.0

        by_case : (name namespace : List ℕ) (a : Atom) (role : RoleHas (applied (change.Put (put.Role place role_written)) old) role_kind.Role name namespace a)
            → ((place.namespace ≡ namespace) × (role_written.rules ≡ role.rules)) ⊎ (rules_of_kind old role_kind.Role name namespace ≡ Some role.rules)
            → IsOwn acting start namespace a ⊎ RoleHas old role_kind.Role name namespace a
        by_case name namespace a role (inl here) = inl (rw (← here.0) (own a (has_by_rules role.rules role_written.rules a here.1 role.has)))
        by_case name namespace a role (inr was) = inr (record { rules = role.rules; found = was; has = role.has })
    put_admitted (written.ClusterRole name versions) given now holds kept =
        record {
          order = change_keeps (change.Put (put.ClusterRole name versions.new)) old facts.order;
          roles = λ other namespace a role. inr (record { rules = role.rules; found = role.found; has = role.has });
          cluster_roles = λ q r found. by_case q r (new_or_was (bytes_eq q name) versions.new (cluster_role_at old q) r (sym (cluster_role_put old name versions.new q) ∙ found));
          bindings = λ namespace b counts. inl counts;
        }
      where
        own : (a : Atom) → HasAtom versions.new.rules a → IsOwn acting start [] a
        own = written_are_own acting start old before facts who [] versions.new.rules acts holds.0

        plain : is_some versions.new.aggregation_rule ≡ false
        plain =
            (or_parts (was_aggregated versions.old) (is_some versions.new.aggregation_rule)
            (by_authority (was_aggregated versions.old || is_some versions.new.aggregation_rule) (holds_all (held old who []) full_authority) holds.1
            (no_full_authority acting start old before facts unprivileged who acts))).1

        by_case : (q : List ℕ) (r : ClusterRole) → ((bytes_eq q name ≡ true) × (versions.new ≡ r)) ⊎ ((bytes_eq q name ≡ false) × (cluster_role_at old q ≡ Some r))
            → ClusterRoleChange acting start old before now q r
        by_case q r (inl here) = ClusterRoleChange.written (λ a has. own a (has_by_rules r.rules versions.new.rules a (ap (λ (c : ClusterRole). c.rules) here.1) has)) (rw (← here.1) plain)
        by_case q r (inr there) = ClusterRoleChange.stands there.1 (set_elsewhere (bytes_eq q name) given (before q) (now q) there.0 (kept q))
    put_admitted (written.RoleBinding place versions) given now holds kept =
        record {
          order = change_keeps (change.Put (put.RoleBinding place versions.new)) old facts.order;
          roles = λ other namespace a role. inr (record { rules = role.rules; found = role.found; has = role.has });
          cluster_roles = all_stand now kept;
          bindings = λ namespace b counts. by_case namespace b (binding_put namespace old place versions.new b counts);
        }
      where
        by_case : (namespace : List ℕ) (b : Binding) → (namespace_binding (place, versions.new) ≡ b) ⊎ Has (bindings_in old namespace) b
            → Has (bindings_in old namespace) b ⊎ ((a : Atom) → RoleHas old b.role.kind b.role.name b.namespace a → IsOwn acting start b.namespace a)
        by_case namespace b (inl here) = inr (rw (← here) (bound_are_own versions.new.role_ref place.namespace holds.0))
        by_case namespace b (inr was) = inl was
    put_admitted (written.ClusterRoleBinding name versions) given now holds kept =
        record {
          order = change_keeps (change.Put (put.ClusterRoleBinding name versions.new)) old facts.order;
          roles = λ other namespace a role. inr (record { rules = role.rules; found = role.found; has = role.has });
          cluster_roles = all_stand now kept;
          bindings = λ namespace b counts. by_case namespace b (cluster_binding_put namespace old name versions.new b counts);
        }
      where
        by_case : (namespace : List ℕ) (b : Binding) → (cluster_binding (name, versions.new) ≡ b) ⊎ Has (bindings_in old namespace) b
            → Has (bindings_in old namespace) b ⊎ ((a : Atom) → RoleHas old b.role.kind b.role.name b.namespace a → IsOwn acting start b.namespace a)
        by_case namespace b (inl here) = inr (rw (← here) (bound_are_own versions.new.role_ref [] holds.0))
        by_case namespace b (inr was) = inl was

-- ---- runs

module _ (acting : List Identity) (start : PolicyObjects) (unprivileged : (who : Identity) → Has acting who → IsUnprivileged start who) where
  -- what is admitted of the objects that a change makes is admitted of a state of these objects
  of_state : (old : PolicyState) (made : PolicyObjects) (new : PolicyState) → new.objects ≡ made → IsAdmitted acting start old.objects old.labels made new.labels
      → IsAdmitted acting start old.objects old.labels new.objects new.labels
  of_state old made new is admitted = rw is admitted

  write_admitted : (old new : PolicyState) (w : MadeWrite) → StaysWithin acting start old.objects old.labels → Has acting w.writer → IsWritten old w new
      → IsAdmitted acting start old.objects old.labels new.objects new.labels
  write_admitted old new w facts acts is =
      let himself : w.made_as ≡ w.writer = acts_as_himself acting start old.objects old.labels facts unprivileged w.writer w.made_as acts is.acts in
      let granted : grant old.objects w.writer w.write ≡ true = ap (λ (who : Identity). grant old.objects who w.write) (sym himself) ∙ is.granted in
      of_state old (applied (change.Put (put_of w.write.object)) old.objects) new is.objects
      (put_admitted acting start old.objects old.labels facts unprivileged w.writer acts w.write.object w.labels new.labels
      (granted_is_held acting start old.objects old.labels facts unprivileged w.writer acts w.write granted) is.labels)

  step_admitted : (old new : PolicyState) (step : PolicyStep) → StaysWithin acting start old.objects old.labels → IsBy acting step → Makes old step new
      → IsAdmitted acting start old.objects old.labels new.objects new.labels
  step_admitted old new (writes w) facts by is = write_admitted old new w facts by is
  step_admitted old new (deletes k) facts by is =
      of_state old (applied (change.Delete k) old.objects) new is.objects (delete_admitted acting start old.objects old.labels facts k new.labels is.labels)
  step_admitted old new (turns name) facts by is =
      of_state old (applied (change.Put (put.ClusterRole name (turned old.objects old.labels name is.role))) old.objects) new is.objects
      (turn_admitted acting start old.objects old.labels facts name is.role new.labels is.found is.labels)

  step_keeps : (old new : PolicyState) (step : PolicyStep) → StaysWithin acting start old.objects old.labels → IsBy acting step → Makes old step new → StaysWithin acting start new.objects new.labels
  step_keeps old new step facts by is =
      facts_kept acting start old.objects old.labels facts new.objects new.labels (step_admitted old new step facts by is)

  same_state : (old new : PolicyState) → new.objects ≡ old.objects → KeepsLabels old.labels new.labels → StaysWithin acting start old.objects old.labels → StaysWithin acting start new.objects new.labels
  same_state old new objects labels facts = let alike : new.labels ≡ old.labels = λ i. λ q. labels q i in rw (objects, alike) facts

  pub run_keeps : (old new : PolicyState) (steps : List PolicyStep) → StaysWithin acting start old.objects old.labels → AreBy acting steps → Runs old steps new → StaysWithin acting start new.objects new.labels
  run_keeps old new [] facts by is = same_state old new is.0 is.1 facts
  run_keeps old new (step ∷ steps) facts by is = run_keeps is.0 new steps (step_keeps old is.0 step facts by.0 is.1.0) by.1 is.1.1

  -- no role gets what no acting identity held at the start, whatever it had in between
  pub never_grow : (now later : PolicyState) (steps : List PolicyStep) → StaysWithin acting start now.objects now.labels → AreBy acting steps → Runs now steps later
      → RolesNeverGrow acting start now.objects later.objects
  never_grow now later [] facts by is kind name namespace a role = inr (subst (λ o. RoleHas o kind name namespace a) is.0 role)
  never_grow now later (step ∷ steps) facts by is kind name namespace a role =
      by_case (never_grow is.0 later steps (step_keeps now is.0 step facts by.0 is.1.0) by.1 is.1.1 kind name namespace a role)
    where
      by_case : IsOwn acting start (scope_of kind namespace) a ⊎ RoleHas is.0.objects kind name namespace a → IsOwn acting start (scope_of kind namespace) a ⊎ RoleHas now.objects kind name namespace a
      by_case (inl own) = inl own
      by_case (inr had) = never_grows acting start now.objects now.labels facts is.0.objects is.0.labels (step_admitted now is.0 step facts by.0 is.1.0) kind name namespace a had
