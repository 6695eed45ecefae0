use Rattle.std.proofs.Common.{ap, refl}
use Rattle.kapi_index.proofs.Placed.{nothing_after, same_after, spread_after, stood_named, taken_after, was_set}
use Rattle.kapi_index.specs.Contents.{bindings_in, roles_in}
use Rattle.kapi_index.proofs.spaces.take_role.Goals as goal

pub returns-in-Some-clause-done : goal.returns-in-Some-clause-done
returns-in-Some-clause-done c = taken_after roles_in _ _ _ _ _ _ (was_set _ _ _ (record { roles = c.remove.new.self; bound = c.in-Some.space.now.bound }) _ _ c.as_str.ensures c.requires.spread c.in-Some.ensures.value (c.get_mut.follows.holds (record { roles = c.remove.new.self; bound = c.in-Some.space.now.bound })).0) c.remove.ensures.entries

pub returns-in-Some-clause-bindings : goal.returns-in-Some-clause-bindings
returns-in-Some-clause-bindings c = same_after bindings_in _ _ _ _ _ (was_set _ _ _ (record { roles = c.remove.new.self; bound = c.in-Some.space.now.bound }) _ _ c.as_str.ensures c.requires.spread c.in-Some.ensures.value (c.get_mut.follows.holds (record { roles = c.remove.new.self; bound = c.in-Some.space.now.bound })).0) refl

pub returns-in-Some-clause-spread : goal.returns-in-Some-clause-spread
returns-in-Some-clause-spread c = spread_after _ _ _ _ _ (was_set _ _ _ (record { roles = c.remove.new.self; bound = c.in-Some.space.now.bound }) _ _ c.as_str.ensures c.requires.spread c.in-Some.ensures.value (c.get_mut.follows.holds (record { roles = c.remove.new.self; bound = c.in-Some.space.now.bound })).0) (stood_named _ _ _ _ _ (was_set _ _ _ (record { roles = c.remove.new.self; bound = c.in-Some.space.now.bound }) _ _ c.as_str.ensures c.requires.spread c.in-Some.ensures.value (c.get_mut.follows.holds (record { roles = c.remove.new.self; bound = c.in-Some.space.now.bound })).0))

pub returns-in-None-clause-done : goal.returns-in-None-clause-done
returns-in-None-clause-done c = nothing_after roles_in _ _ _ _ _ c.as_str.ensures (ap (λ m. m.entries) c.get_mut.follows.holds-at-none) c.in-None.ensures.value
