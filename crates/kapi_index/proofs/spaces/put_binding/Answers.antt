use Rattle.std.proofs.Common.{◌∙◌, ap, refl}
use Rattle.kapi_index.proofs.Changed.{map_err, map_ok}
use Rattle.kapi_index.proofs.Placed.{absent_at, put_after, same_after, same_namespace, spread_after, stood_named, was_set}
use Rattle.kapi_index.specs.Contents.{bindings_in, roles_in}
use Rattle.kapi_index.specs.Scopes.{Scoped}
use Rattle.kapi_index.proofs.spaces.put_binding.Goals as goal

pub put_first_binding-requires-clause-absent : goal.put_first_binding-requires-clause-absent
put_first_binding-requires-clause-absent c = absent_at _ _ _ _ c.as_str.ensures (ap (λ m. m.entries) c.get_mut.follows.holds-at-none) c.in-None.ensures.value

pub returns-in-Some-clause-done : goal.returns-in-Some-clause-done
returns-in-Some-clause-done c =
    map_ok c.put.result _ _ (λ done. put_after bindings_in _ _ _ _ _ _ _ (was_set _ _ _ (record { roles = c.in-Some.space.now.roles; bound = c.put.new.self }) _ _ c.as_str.ensures c.requires.spread c.in-Some.ensures.value (c.get_mut.follows.holds (record { roles = c.in-Some.space.now.roles; bound = c.put.new.self })).0) (ap (λ (s : Scoped). s.bindings) done)) c.put.ensures.done

pub returns-in-Some-clause-kept : goal.returns-in-Some-clause-kept
returns-in-Some-clause-kept c =
    map_err c.put.result _ _ (λ kept. same_after bindings_in _ _ _ _ _ (was_set _ _ _ (record { roles = c.in-Some.space.now.roles; bound = c.put.new.self }) _ _ c.as_str.ensures c.requires.spread c.in-Some.ensures.value (c.get_mut.follows.holds (record { roles = c.in-Some.space.now.roles; bound = c.put.new.self })).0) (ap (λ (s : Scoped). s.bindings) kept)) c.put.ensures.kept

pub returns-in-Some-clause-roles : goal.returns-in-Some-clause-roles
returns-in-Some-clause-roles c = same_after roles_in _ _ _ _ _ (was_set _ _ _ (record { roles = c.in-Some.space.now.roles; bound = c.put.new.self }) _ _ c.as_str.ensures c.requires.spread c.in-Some.ensures.value (c.get_mut.follows.holds (record { roles = c.in-Some.space.now.roles; bound = c.put.new.self })).0) refl

pub returns-in-Some-clause-spread : goal.returns-in-Some-clause-spread
returns-in-Some-clause-spread c =
    spread_after _ _ _ _ _ (was_set _ _ _ (record { roles = c.in-Some.space.now.roles; bound = c.put.new.self }) _ _ c.as_str.ensures c.requires.spread c.in-Some.ensures.value (c.get_mut.follows.holds (record { roles = c.in-Some.space.now.roles; bound = c.put.new.self })).0)
    (same_namespace c.put.result _ _ _ c.put.ensures.done c.put.ensures.kept ∙ stood_named _ _ _ _ _ (was_set _ _ _ (record { roles = c.in-Some.space.now.roles; bound = c.put.new.self }) _ _ c.as_str.ensures c.requires.spread c.in-Some.ensures.value (c.get_mut.follows.holds (record { roles = c.in-Some.space.now.roles; bound = c.put.new.self })).0))
