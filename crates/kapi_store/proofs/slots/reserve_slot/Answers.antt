use Rattle.std.proofs.Common.{◌≡◌, ◌∙◌, List, Option, None, Some, IsSome, ap, refl, subst, sym}
use Rattle.std.specs.Map.{lookup}
use Rattle.std.specs.BTreeMap.{insert_entry}
use Rattle.kapi_store.specs.Keys.{key_cmp, is_key}
use Rattle.kapi_store.specs.Private.Hidden.{visible, HoldsHidden}
use Rattle.kapi_store.specs.declared.key.Key.{Key}
use Rattle.kapi_store.specs.declared.slots.Hidden.{Hidden}
use Rattle.kapi_store.specs.declared.stored.StoredObject.{StoredObject}
use Rattle.kapi_store.proofs.SlotSteps.{all_visible, inserted_there, visible_made}
use Rattle.kapi_store.proofs.slots.reserve_slot.Goals as goal

pub returns-in_err-insert-clause-objects : goal.returns-in_err-insert-clause-objects
returns-in_err-insert-clause-objects c =
    ap (λ hidden. visible hidden c.insert.new.self.entries) c.take.ensures.after
    ∙ all_visible c.insert.new.self.entries ∙ c.in_err-insert.ensures.err
    ∙ c.sweep.ensures.objects ∙ ap (λ hidden. visible hidden c.args.slots.now.entries) c.take.ensures.value

pub returns-in_err-insert-clause-holds : goal.returns-in_err-insert-clause-holds
returns-in_err-insert-clause-holds c =
    let P : Option Hidden → Type 0 = λ hidden. HoldsHidden hidden c.insert.new.self.entries in
    subst P (sym c.take.ensures.after) tt

-- a new hidden slot is not seen, and holds its object
made_unseen : (hidden : Hidden) (key : Key) (x : StoredObject) (es fs : List (Key × StoredObject)) → hidden.key ≡ key → lookup (is_key key) es ≡ None → fs ≡ insert_entry key_cmp es key x
    → visible (Some hidden) fs ≡ es
made_unseen hidden key x es fs at free made =
    let P : Key → Type 0 = λ k. lookup (is_key k) es ≡ None in
    ap (visible (Some hidden)) (made ∙ ap (λ k. insert_entry key_cmp es k x) (sym at)) ∙ visible_made hidden x es (subst P (sym at) free)

made_there : (key : Key) (x : StoredObject) (es fs : List (Key × StoredObject)) → fs ≡ insert_entry key_cmp es key x → lookup (is_key key) fs ≡ Some x
made_there key x es fs made = ap (lookup (is_key key)) made ∙ inserted_there key x es

pub returns-clause-objects : goal.returns-clause-objects
returns-clause-objects c =
    let es = c.sweep.new.slots.entries in
    let left : es ≡ visible c.args.hidden.now c.args.slots.now.entries = c.sweep.ensures.objects ∙ ap (λ hidden. visible hidden c.args.slots.now.entries) c.take.ensures.value in
    made_unseen (record { key = c.in_ok-copy.field-0; object = c.in_ok-share.field-0 }) c.args.key c.args.object es c.insert.new.self.entries c.in_ok-copy.ensures
    (ap (lookup (is_key c.args.key)) left ∙ c.requires.free) c.in_ok-insert.ensures.entries ∙ left

pub returns-clause-holds : goal.returns-clause-holds
returns-clause-holds c =
    ap (λ k. lookup (is_key k) c.insert.new.self.entries) c.in_ok-copy.ensures
    ∙ made_there c.args.key c.args.object c.sweep.new.slots.entries c.insert.new.self.entries c.in_ok-insert.ensures.entries ∙ ap Some (sym c.in_ok-share.ensures)

pub returns-clause-slot : goal.returns-clause-slot
returns-clause-slot c =
    let P : Option StoredObject → Type 0 = λ o. IsSome o in
    subst P (sym (made_there c.args.key c.args.object c.sweep.new.slots.entries c.insert.new.self.entries c.in_ok-insert.ensures.entries)) refl
