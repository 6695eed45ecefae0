use Rattle.std.proofs.Common.{◌≡◌, List, Option, Some, IsSome, ◌∙◌, ap, refl, sym, subst}
use Rattle.std.specs.Map.{lookup}
use Rattle.kapi_store.specs.Changes.{placed}
use Rattle.kapi_store.specs.Keys.{is_key}
use Rattle.kapi_store.specs.Private.Hidden.{visible, HoldsHidden}
use Rattle.kapi_store.specs.declared.key.Key.{Key}
use Rattle.kapi_store.specs.declared.stored.StoredObject.{StoredObject}
use Rattle.kapi_store.proofs.Placed.{filled, holds_filled, holds_same, holds_taken, revealed, taken, waiting_there}
use Rattle.kapi_store.proofs.slots.place.Goals as goal

-- an object that is placed has a slot
slot_for : (k : Key) (es : List (Key × StoredObject)) (o : Option StoredObject) (x : StoredObject) → (IsSome o → IsSome (lookup (is_key k) es)) → o ≡ Some x → IsSome (lookup (is_key k) es)
slot_for k es o x slot is = let P : Option StoredObject → Type 0 = λ o. IsSome o in slot (subst P (sym is) refl)

pub returns-in-Some-clause-objects : goal.returns-in-Some-clause-objects
unfolding placed
returns-in-Some-clause-objects c =
    let before = c.args.hidden.now in
    let es = c.args.slots.now.entries in
    let k = c.args.key.now in
    let x = c.in-Some.object in
    revealed before c.reveal-waiting.new.hidden k x es c.requires.ordered
    (waiting_there before k es c.reveal-waiting.result x c.requires.holds (λ h. (c.reveal-waiting.ensures.shown h).1) (λ h. (c.reveal-waiting.ensures.other h).1) (c.is_it.ensures.0 c.if-is_it.true))
    (λ h. (c.reveal-waiting.ensures.shown h).0) (λ h. (c.reveal-waiting.ensures.other h).0)
    ∙ ap (λ o. placed k o (visible before es)) (sym c.in-Some.is)

pub returns-in-Some-clause-holds : goal.returns-in-Some-clause-holds
returns-in-Some-clause-holds c =
    holds_same c.args.hidden.now c.reveal-waiting.new.hidden c.args.key.now c.args.slots.now.entries
    (λ h. (c.reveal-waiting.ensures.shown h).0) (λ h. (c.reveal-waiting.ensures.other h).0) c.requires.holds

pub returns-in-Some-2-clause-objects : goal.returns-in-Some-2-clause-objects
unfolding placed
returns-in-Some-2-clause-objects c =
    let before = c.args.hidden.now in
    let es = c.args.slots.now.entries in
    let k = c.args.key.now in
    let x = c.in-Some.object in
    ap (visible c.reveal-waiting.new.hidden) c.fill_slot.ensures.entries
    ∙ filled before c.reveal-waiting.new.hidden k x es c.requires.ordered (slot_for k es c.args.object x c.requires.slot c.in-Some.is)
    (λ h. (c.reveal-waiting.ensures.shown h).0) (λ h. (c.reveal-waiting.ensures.other h).0)
    ∙ ap (λ o. placed k o (visible before es)) (sym c.in-Some.is)

pub returns-in-Some-2-clause-holds : goal.returns-in-Some-2-clause-holds
returns-in-Some-2-clause-holds c =
    let es = c.args.slots.now.entries in
    let k = c.args.key.now in
    let x = c.in-Some.object in
    let P : List (Key × StoredObject) → Type 0 = λ fs. HoldsHidden c.reveal-waiting.new.hidden fs in
    subst P (sym c.fill_slot.ensures.entries)
    (holds_filled c.args.hidden.now c.reveal-waiting.new.hidden k es (λ h. (c.reveal-waiting.ensures.shown h).0) (λ h. (c.reveal-waiting.ensures.other h).0)
    x (slot_for k es c.args.object x c.requires.slot c.in-Some.is) c.requires.holds)

pub returns-clause-objects : goal.returns-clause-objects
unfolding placed
returns-clause-objects c =
    let before = c.args.hidden.now in
    let es = c.args.slots.now.entries in
    let k = c.args.key.now in
    ap (visible c.reveal-waiting.new.hidden) c.remove.ensures.entries
    ∙ taken before c.reveal-waiting.new.hidden k es c.requires.ordered (λ h. (c.reveal-waiting.ensures.shown h).0) (λ h. (c.reveal-waiting.ensures.other h).0)
    ∙ ap (λ o. placed k o (visible before es)) (sym c.in-None.is)

pub returns-clause-holds : goal.returns-clause-holds
returns-clause-holds c =
    let P : List (Key × StoredObject) → Type 0 = λ fs. HoldsHidden c.reveal-waiting.new.hidden fs in
    subst P (sym c.remove.ensures.entries)
    (holds_taken c.args.hidden.now c.reveal-waiting.new.hidden c.args.key.now c.args.slots.now.entries
    (λ h. (c.reveal-waiting.ensures.shown h).0) (λ h. (c.reveal-waiting.ensures.other h).0) c.requires.ordered c.requires.holds)
