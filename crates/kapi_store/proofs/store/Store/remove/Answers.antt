use Rattle.std.proofs.Common.{◌≡◌, ◌+◌, ◌≤◌, Ok, length, map, ap, sym, subst, ◌∙◌, arith}
use Rattle.kapi_store.specs.Limits.{last_revision}
use Rattle.kapi_store.specs.Changes.{Follow, revision_of}
use Rattle.kapi_store.specs.Plain.{plain_change, plain_of, removable, removals, revisions_left, trees}
use Rattle.kapi_store.specs.State.{State, objects}
use Rattle.kapi_store.specs.View.{state_of}
use Rattle.kapi_store.proofs.Seen.{seen_live}
use Rattle.kapi_store.proofs.Stores.{fits_removals}
use Rattle.kapi_store.proofs.store.Store.remove.Goals as goal

pub returns-clause-gives : goal.returns-clause-gives
returns-clause-gives c =
    let keys = c.args.keys.items in
    let made : map plain_change c.in_ok-removals.field-0 ≡ removals (plain_of c.args.self.now).objects c.args.self.now.revision keys
    = c.in_ok-removals.ensures.changes ∙ ap (λ os. removals (trees os) c.self.inside.revision keys) (sym (seen_live c.self.inside.hidden c.self.inside.slots.entries))
    ∙ ap (λ s. removals (trees (objects s)) s.revision keys) c.self.view_is in
    let there : removable (plain_of c.args.self.now) keys ≡ Ok tt = ap (removable (plain_of c.args.self.now)) (sym c.as_slice.ensures.value) ∙ c.in_ok-check_removal.ensures in
    let many : length keys ≡ c.len.result = omega (arith, c.len.ensures, c.as_slice.ensures.len) in
    let left : revisions_left (plain_of c.args.self.now) (length keys) ≡ Ok tt = ap (revisions_left (plain_of c.args.self.now)) many ∙ c.in_ok-check_revisions.ensures.gives in
    rw (there, left) (ap Ok (sym made))

pub returns-clause-fits : goal.returns-clause-fits
returns-clause-fits c =
    let now : state_of c.self.inside ≡ c.args.self.now = c.self.view_is in
    let P : State → Type 0 = λ s. Follow revision_of s.revision c.in_ok-removals.field-0 in
    let count : length c.in_ok-removals.field-0 ≡ length c.args.keys.items = c.in_ok-removals.ensures.count in
    let left : c.args.self.now.revision + length c.args.keys.items ≤ last_revision = let k = c.in_ok-check_revisions.ensures.left in omega (arith, c.len.ensures, c.as_slice.ensures.len) in
    fits_removals c.args.self.now c.in_ok-removals.field-0 (subst P now c.in_ok-removals.ensures.numbered) c.in_ok-removals.ensures.removals (omega arith)
