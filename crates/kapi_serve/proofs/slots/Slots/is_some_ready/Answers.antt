-- A slot outside of those that were gone over has no event.
use Rattle.std.proofs.Common.{◌≡◌, ◌<◌, ◌≤◌, ℕ, Option, false, length, get_or, min, inl, inr, sym, arith}
use Rattle.std.specs.Prelude.{◌⊎◌, vec_len}
use Rattle.std.proofs.lemmas.Bool.{cases_lt}
use Rattle.std.proofs.lemmas.List.Folds.{list_any_none}
use Rattle.kapi_serve.proofs.Quiet.{IsQuietAt}
use Rattle.kapi_serve.specs.declared.slots.Slots.{Slots}
use Rattle.kapi_serve.specs.Private.Ready.{has_turn_next}
use Rattle.kapi_serve.specs.declared.stream.Stream.{Stream}
use Rattle.kapi_serve.proofs.slots.Slots.is_some_ready.Goals as goal

by_place : (slots : Slots) (slot end n : ℕ) → ((i : ℕ) → i < slot → i < length slots.streams.items → IsQuietAt slots.streams.items i) → end ≤ slot → end ≡ min slots.end n → n ≡ vec_len slots.streams
    → (i : ℕ) (d : Option Stream) → i < length slots.streams.items → has_turn_next (get_or slots.streams.items i d) ≡ false
by_place slots slot end n before past is count i d below = by_side (cases_lt i slot)
  where
    by_side : (i < slot) ⊎ (slot ≤ i) → has_turn_next (get_or slots.streams.items i d) ≡ false
    by_side (inl early) = before i early below d
    by_side (inr late) = let count_is = slots.streams.ok.0 in slots.beyond i (grind (arith)) below d

pub returns : goal.returns
returns c = sym (list_any_none has_turn_next c.args.self.now.streams.items (λ i d below. by_place c.args.self.now c.loop-slot.slot c.min-slot-end.result _ c.loop-slot.invariant c.loop-slot-test.false c.min-slot-end.ensures c.len.ensures i d below))
