-- A slot's client takes the place of the one that was found, if it has idled longer.
use Rattle.std.proofs.Common.{◌≡◌, ◌<◌, ◌+◌, ℕ, true, Some, None, ap, sym, subst, ◌∙◌, get_or, arith, length}
use Rattle.std.specs.Prelude.{IfSome, HoldsAt, nat_lt}
use Rattle.std.proofs.lemmas.Bool.{false≢true, ltb-true, ltb-false}
use Rattle.std.proofs.lemmas.List.{get_or_default}
use Rattle.kapi_serve.specs.Places.{is_by, last_used}
use Rattle.kapi_serve.proofs.Picking.{IsFound, found_below, found_is_idlest, none_found, none_yet, passes_later, passes_other, takes}
use Rattle.kapi_serve.proofs.places.idlest.Goals as goal
use Rattle.kapi_serve.proofs.places.idlest.Goals.{then-is_of+then-has_idled_longer, else-is_of, else-is_of-via-then-is_of+else-has_idled_longer, else-is_of-via-else-is_of}

pub loop-slot-init : goal.loop-slot-init
loop-slot-init c = none_yet (λ i. is_by c.args.listener (get_or c.args.slots.now i None) ≡ true) (λ i. last_used (get_or c.args.slots.now i None))

pub has_idled_longer-requires-clause-other : goal.has_idled_longer-requires-clause-other
has_idled_longer-requires-clause-other c = found_below c.args.listener c.args.slots.now c.loop-slot.slot c.loop-slot.found c.loop-slot.invariant

pub loop-slot-preserved : goal.loop-slot-preserved
loop-slot-preserved c =
    let l = c.args.listener in
    let slots = c.args.slots.now in
    let i = c.loop-slot.slot in
    let found = c.loop-slot.found in
    let may : ℕ → Type 0 = λ k. is_by l (get_or slots k None) ≡ true in
    let least : ℕ → ℕ = λ k. last_used (get_or slots k None) in
    let here = get_or_default slots i None c.index-slots-slot.result c.loop-slot-test.true ∙ sym c.index-slots-slot.is in
    elim c.if-is_of.branch [
      | then-is_of+then-has_idled_longer w ↦
          subst (λ f. IsFound l slots (i + 1) f) (sym w.found-is)
          (takes may least i found (ap (λ place. is_by l place) here ∙ sym c.is_of.ensures ∙ w.if-is_of.true)
          (λ s is. let longer = subst (λ f. IfSome f (λ o. HoldsAt (λ place. HoldsAt (λ its. w.has_idled_longer.result ≡ nat_lt (last_used place) (last_used its)) slots o) slots i)) is w.has_idled_longer.ensures.longer None None in
          omega (arith, ltb-true _ _ (sym longer ∙ w.if-has_idled_longer.true)))
          c.loop-slot.invariant)
      | else-is_of w ↦
          subst (λ f. IsFound l slots (i + 1) f) (sym w.found-is)
          (elim w.else-is_of.branch [
            | else-is_of-via-then-is_of+else-has_idled_longer v ↦
                passes_later may least i found (λ is. false≢true (sym v.if-has_idled_longer.false ∙ v.has_idled_longer.ensures.none is))
                (λ s is. let longer = subst (λ f. IfSome f (λ o. HoldsAt (λ place. HoldsAt (λ its. v.has_idled_longer.result ≡ nat_lt (last_used place) (last_used its)) slots o) slots i)) is v.has_idled_longer.ensures.longer None None in
                ltb-false _ _ (sym longer ∙ v.if-has_idled_longer.false))
                c.loop-slot.invariant
            | else-is_of-via-else-is_of v ↦ passes_other may least i found (λ its. false≢true (sym (ap (λ place. is_by l place) here ∙ sym c.is_of.ensures ∙ v.if-is_of.false) ∙ its)) c.loop-slot.invariant
          ])
    ]

pub returns-clause-found : goal.returns-clause-found
returns-clause-found c = found_is_idlest c.args.listener c.args.slots.now c.loop-slot.slot c.loop-slot.found c.loop-slot-test.false c.loop-slot.invariant

pub returns-clause-none : goal.returns-clause-none
returns-clause-none c = none_found c.args.listener c.args.slots.now c.loop-slot.slot c.loop-slot.found c.loop-slot-test.false c.loop-slot.invariant
