use Rattle.std.proofs.Common.{◌≡◌, ◌+◌, ◌≤◌, ◌∙◌, List, Option, ap, map, sym, refl, subst, IsSome, arith}
use Rattle.kapi_store.specs.Limits.{last_revision}
use Rattle.std.specs.Map.{lookup}
use Rattle.kapi_store.specs.Keys.{is_key}
use Rattle.kapi_store.specs.Changes.{Follow, placed}
use Rattle.kapi_store.specs.Private.Hidden.{seen, visible}
use Rattle.kapi_store.specs.State.{State, HasSlot, live, objects}
use Rattle.kapi_store.specs.Plain.{plain_of, trees}
use Rattle.kapi_store.specs.View.{state_of}
use Rattle.kapi_store.specs.declared.key.Key.{Key}
use Rattle.kapi_store.specs.declared.slots.Hidden.{Hidden}
use Rattle.kapi_store.specs.declared.stored.StoredObject.{StoredObject}
use Rattle.kapi_store.proofs.Existing.{exists_after}
use Rattle.kapi_store.proofs.Seen.{seen_live, seen_slot}
use Rattle.kapi_store.proofs.Stores.{next_store, seen_slots}
use Rattle.kapi_store.proofs.Trees.{placed_trees}
use Rattle.kapi_store.proofs.store.Store.make.Goals as goal

pub place-requires-clause-slot : goal.place-requires-clause-slot
unfolding HasSlot
place-requires-clause-slot c =
    let now : state_of c.self.inside ≡ c.args.self.now = c.self.view_is in
    let P : Option StoredObject → Type 0 = λ o. IsSome o in
    let Q : State → Type 0 = λ s. IsSome (lookup (is_key c.args.change.key) s.slots) in
    λ some. sym (seen_slot c.self.inside.hidden c.args.change.key c.self.inside.slots.entries) ∙ subst Q (sym now) (c.requires.fits.slot (subst P c.requires.kept some))

-- what is seen after the change is what it leaves
made_so : (before after : Option Hidden) (es fs : List (Key × StoredObject)) (k : Key) (kept new : Option StoredObject) → visible after fs ≡ placed k kept (visible before es) → kept ≡ new
    → live (map (seen after) fs) ≡ placed k new (live (map (seen before) es))
made_so before after es fs k kept new made is =
    seen_live after fs ∙ made ∙ ap (λ o. placed k o (visible before es)) is ∙ ap (placed k new) (sym (seen_live before es))

pub invariant_of-self : goal.invariant_of-self
unfolding Follow
invariant_of-self c =
    let now : state_of c.self.inside ≡ c.args.self.now = c.self.view_is in
    let next : c.args.change.revision ≡ c.args.self.now.revision + 1 = c.requires.fits.next.0 in
    let last : c.args.self.now.revision + 1 ≤ last_revision = c.requires.fits.last in
    let before : State = state_of c.self.inside in
    let made : live (map (seen c.place.new.hidden) c.place.new.slots.entries) ≡ placed c.args.change.key c.args.change.new (objects before)
    = made_so c.self.inside.hidden c.place.new.hidden c.self.inside.slots.entries c.place.new.slots.entries c.args.change.key c.args.kept c.args.change.new c.place.ensures.objects c.requires.kept in (
      next_store before _ c.args.change c.self.invariant.0 (seen_slots _ c.place.new.hidden c.place.new.slots.entries refl refl c.place.ensures.ordered)
          c.note.ensures
          refl refl
          (next ∙ ap (λ s. s.revision + 1) (sym now))
          (omega arith),
      exists_after (plain_of before) _ c.self.inside.known c.forget_if_removed.new.known c.args.change.key c.args.change.new (ap trees made ∙ placed_trees c.args.change.key c.args.change.new (objects before)) c.forget_if_removed.ensures.removed c.forget_if_removed.ensures.stays c.self.invariant.1,
      c.place.ensures.ordered,
      c.place.ensures.holds,
    )

pub returns-clause-objects : goal.returns-clause-objects
returns-clause-objects c =
    made_so c.self.inside.hidden c.place.new.hidden c.self.inside.slots.entries c.place.new.slots.entries c.args.change.key c.args.kept c.args.change.new c.place.ensures.objects c.requires.kept
    ∙ ap (λ s. placed c.args.change.key c.args.change.new (objects s)) c.self.view_is

pub returns-clause-revision : goal.returns-clause-revision
unfolding Follow
returns-clause-revision c = c.requires.fits.next.0
