use Rattle.std.proofs.Common.{◌≡◌, ◌+◌, ◌≤◌, Ok, true, false, Option, Some, IsSome, IfSome, ap, sym, subst, refl, arith, rules}
use Rattle.std.specs.Map.{lookup}
use Rattle.kapi_object.specs.Object.{tree_of}
use Rattle.kapi_store.specs.Limits.{last_revision}
use Rattle.kapi_store.specs.Keys.{is_key}
use Rattle.kapi_store.specs.Stored.{stored_tree}
use Rattle.kapi_store.specs.Same.{same_tree}
use Rattle.kapi_store.specs.UidAndVersion.{replaced_tree, with_stamps_of}
use Rattle.kapi_store.specs.declared.written.Written.{Written}
use Rattle.kapi_store.specs.Plain.{plain_of, revisions_left}
use Rattle.kapi_store.specs.View.{state_of}
use Rattle.kapi_store.specs.State.{State, Fits}
use Rattle.kapi_store.proofs.Equality.{found_other, found_same}
use Rattle.kapi_store.proofs.Stores.{fits_none, fits_one}
use Rattle.kapi_store.proofs.Places.{slot_of_tree}
use Rattle.kapi_store.proofs.Writes.{replaced_by}
use Rattle.kapi_store.proofs.store.Store.replace_old.Goals as goal

in_some : (P : Written → Type 0) (o : Option Written) (w : Written) → o ≡ Some w → IfSome o P → P w
in_some P o w is h = subst (λ q. IfSome q P) is h

pub returns-in_default-clause-gives : goal.returns-in_default-clause-gives
returns-in_default-clause-gives c =
    let old = c.args.old.now in
    let same : same_tree (with_stamps_of (stored_tree old) (tree_of c.args.object)) (stored_tree old) ≡ true
    = found_same (with_stamps_of (stored_tree old) (tree_of c.args.object)) (stored_tree old) old.whole (c.in_ok-changed.ensures.none c.in_default.is) in
    rw (same, c.nothing.ensures) refl

pub returns-in_default-clause-fits : goal.returns-in_default-clause-fits
returns-in_default-clause-fits c =
    let now : state_of c.self.inside ≡ c.args.self.now = c.self.view_is in
    let P : State → Type 0 = λ s. Fits s c.nothing.result in
    subst P now (fits_none (state_of c.self.inside) c.nothing.result c.self.invariant.0 c.nothing.ensures)

pub returns-in_err-check_revisions-clause-gives : goal.returns-in_err-check_revisions-clause-gives
returns-in_err-check_revisions-clause-gives c =
    let old = stored_tree c.args.old.now in
    let differ : with_stamps_of old (tree_of c.args.object) ≡ old → ⊥ = in_some (λ w. with_stamps_of old (tree_of c.args.object) ≡ old → ⊥) c.in_ok-changed.changed c.in-Some.written c.in-Some.is c.in_ok-changed.ensures.other in
    let other : same_tree (with_stamps_of old (tree_of c.args.object)) old ≡ false = found_other (with_stamps_of old (tree_of c.args.object)) old differ in
    rw other (search rules)

pub returns-clause-gives : goal.returns-clause-gives
returns-clause-gives c =
    let old = stored_tree c.args.old.now in
    let differ : with_stamps_of old (tree_of c.args.object) ≡ old → ⊥ = in_some (λ w. with_stamps_of old (tree_of c.args.object) ≡ old → ⊥) c.in_ok-changed.changed c.in-Some.written c.in-Some.is c.in_ok-changed.ensures.other in
    let other : same_tree (with_stamps_of old (tree_of c.args.object)) old ≡ false = found_other (with_stamps_of old (tree_of c.args.object)) old differ in
    let left : revisions_left (plain_of c.args.self.now) 1 ≡ Ok tt = c.in_ok-check_revisions.ensures.gives in
    replaced_by (plain_of c.args.self.now) c.args.key (tree_of c.args.object) old c.in_ok-replacement.field-0 (c.self.inside.revision + 1) c.args.old.now c.in-Some.written.stored
    other left c.in_ok-replacement.ensures (ap (λ s. s.revision + 1) c.self.view_is) refl
    (in_some (λ w. stored_tree w.stored ≡ replaced_tree (c.self.inside.revision + 1) old (tree_of c.args.object)) c.in_ok-changed.changed c.in-Some.written c.in-Some.is c.in_ok-changed.ensures.tree)

pub returns-clause-fits : goal.returns-clause-fits
returns-clause-fits c =
    let at : c.args.self.now.revision ≡ c.self.inside.revision = ap (λ s. s.revision) (sym c.self.view_is) in
    let left : c.args.self.now.revision + 1 ≤ last_revision = c.in_ok-check_revisions.ensures.left in
    let one = c.in_ok-replacement.ensures in
    let Slot : State → Type 0 = λ s. IsSome (lookup (is_key c.args.key) s.slots) in
    let IsStored : State → Type 0 = λ s. lookup (is_key c.args.key) (plain_of s).objects ≡ Some (stored_tree c.args.old.now) in
    let numbered : one.change.revision ≡ c.self.inside.revision + 1 = one.numbered in
    fits_one c.args.self.now _ one.change one.one (omega arith) (omega arith)
    (λ _. subst (λ k. IsSome (lookup (is_key k) c.args.self.now.slots)) (sym one.place) (subst Slot c.self.view_is (slot_of_tree c.self.inside.hidden c.args.key c.self.inside.slots.entries (stored_tree c.args.old.now) (subst IsStored (sym c.self.view_is) c.requires))))
