use Rattle.std.proofs.Common.{◌≡◌, ℕ, ◌+◌, ◌≤◌, true, List, Option, Ok, IsSome, ◌∙◌, refl, sym, ap, subst, arith}
use Rattle.std.specs.Map.{lookup}
use Rattle.kapi_model.specs.declared.row.ResourceRow.{ResourceRow}
use Rattle.kapi_store.specs.declared.key.Key.{Key}
use Rattle.kapi_store.specs.Keys.{is_key}
use Rattle.kapi_store.specs.Limits.{last_revision}
use Rattle.kapi_store.specs.Plain.{Plain, free_place, has_namespace, plain_of, trees}
use Rattle.kapi_store.specs.Private.Existing.{Exists}
use Rattle.kapi_store.specs.View.{state_of}
use Rattle.kapi_store.specs.State.{State}
use Rattle.kapi_store.proofs.Existing.{exists_alike}
use Rattle.kapi_store.proofs.Places.{namespace_there, no_object}
use Rattle.kapi_store.proofs.Seen.{seen_live, seen_same, seen_slot}
use Rattle.kapi_store.proofs.Stores.{fits_one, moved_same, moved_store, seen_slots}
use Rattle.kapi_store.proofs.store.Store.create_in_place.Goals as goal

pub returns-clause-fits : goal.returns-clause-fits
returns-clause-fits c =
    let now : state_of c.self.inside ≡ c.args.self.now = c.self.view_is in
    let left : c.args.self.now.revision + 1 ≤ last_revision = c.in_ok-check_revisions.ensures.left in
    let one = c.in_ok-ready.ensures.write in
    let numbered : one.change.revision ≡ c.self.inside.revision + 1 = one.numbered in
    let e : c.args.self.now.revision ≡ c.self.inside.revision = ap (λ s. s.revision) (sym now) in
    fits_one _ _ one.change one.one numbered (omega arith)
    (λ _. seen_slot c.reserve_slot.new.hidden one.change.key c.reserve_slot.new.slots.entries
    ∙ subst (λ k. IsSome (lookup (is_key k) c.reserve_slot.new.slots.entries)) (sym one.place) c.in_ok-reserve_slot.ensures.slot)

-- the namespace that is kept exists in the store as it was
kept_there : (s : State) (k : Key) (table : List ResourceRow) (before after : Option (List ℕ)) → s.table ≡ table → free_place (plain_of s) k ≡ Ok tt
    → ((p : Plain) → p.table ≡ table → has_namespace k p ≡ true → Exists before p → Exists after p) → Exists before (plain_of s) → Exists after (plain_of s)
kept_there s k table before after at free kept h = kept (plain_of s) at (namespace_there (plain_of s) k free) h

pub invariant_of-self : goal.invariant_of-self
invariant_of-self c =
    let now : state_of c.self.inside ≡ c.args.self.now = c.self.view_is in
    let P : State → Type 0 = λ s. free_place (plain_of s) c.args.key ≡ Ok tt in
    (c.self.invariant.0, kept_there (state_of c.self.inside) c.args.key _ _ _ (sym c.as_slice.ensures) (subst P (sym now) c.requires) c.keep_namespace.ensures c.self.invariant.1, c.self.invariant.2, c.self.invariant.3)

pub invariant_of-self-in_err-reserve_slot : goal.invariant_of-self-in_err-reserve_slot
invariant_of-self-in_err-reserve_slot c =
    let now : state_of c.self.inside ≡ c.args.self.now = c.self.view_is in
    let P : State → Type 0 = λ s. free_place (plain_of s) c.args.key ≡ Ok tt in
    let before : State = state_of c.self.inside in (
      moved_store before _ c.self.invariant.0 (seen_slots _ c.reserve_slot.new.hidden c.reserve_slot.new.slots.entries refl refl c.reserve_slot.ensures.ordered) refl refl refl,
      exists_alike (plain_of before) _ c.keep_namespace.new.known (ap trees (seen_same c.self.inside.hidden c.reserve_slot.new.hidden c.self.inside.slots.entries c.reserve_slot.new.slots.entries c.reserve_slot.ensures.objects))
          (kept_there before c.args.key _ _ _ (sym c.as_slice.ensures) (subst P (sym now) c.requires) c.keep_namespace.ensures c.self.invariant.1),
      c.reserve_slot.ensures.ordered,
      c.reserve_slot.ensures.holds,
    )

pub invariant_of-self-2 : goal.invariant_of-self-2
invariant_of-self-2 c =
    let now : state_of c.self.inside ≡ c.args.self.now = c.self.view_is in
    let P : State → Type 0 = λ s. free_place (plain_of s) c.args.key ≡ Ok tt in
    let before : State = state_of c.self.inside in (
      moved_store before _ c.self.invariant.0 (seen_slots _ c.reserve_slot.new.hidden c.reserve_slot.new.slots.entries refl refl c.reserve_slot.ensures.ordered) refl refl refl,
      exists_alike (plain_of before) _ c.keep_namespace.new.known (ap trees (seen_same c.self.inside.hidden c.reserve_slot.new.hidden c.self.inside.slots.entries c.reserve_slot.new.slots.entries c.reserve_slot.ensures.objects))
          (kept_there before c.args.key _ _ _ (sym c.as_slice.ensures) (subst P (sym now) c.requires) c.keep_namespace.ensures c.self.invariant.1),
      c.reserve_slot.ensures.ordered,
      c.reserve_slot.ensures.holds,
    )

pub reserve_slot-requires-clause-free : goal.reserve_slot-requires-clause-free
reserve_slot-requires-clause-free c =
    let now : state_of c.self.inside ≡ c.args.self.now = c.self.view_is in
    let P : State → Type 0 = λ s. free_place (plain_of s) c.args.key ≡ Ok tt in
    ap (lookup (is_key c.args.key)) (sym (seen_live c.self.inside.hidden c.self.inside.slots.entries)) ∙ no_object (state_of c.self.inside) c.args.key (subst P (sym now) c.requires)

pub returns-in_err-reserve_slot-clause-same : goal.returns-in_err-reserve_slot-clause-same
returns-in_err-reserve_slot-clause-same c =
    moved_same (state_of c.self.inside) _ c.args.self.now c.self.view_is
    (seen_same c.self.inside.hidden c.reserve_slot.new.hidden c.self.inside.slots.entries c.reserve_slot.new.slots.entries c.reserve_slot.ensures.objects) refl refl refl refl

pub returns-clause-same : goal.returns-clause-same
returns-clause-same c =
    moved_same (state_of c.self.inside) _ c.args.self.now c.self.view_is
    (seen_same c.self.inside.hidden c.reserve_slot.new.hidden c.self.inside.slots.entries c.reserve_slot.new.slots.entries c.reserve_slot.ensures.objects) refl refl refl refl
