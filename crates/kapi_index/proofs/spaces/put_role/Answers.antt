use Rattle.std.proofs.Common.{◌∙◌, ap}
use Rattle.kapi_policy.specs.Objects.{name_cmp}
use Rattle.std.specs.BTreeMap.{insert_entry}
use Rattle.kapi_index.proofs.Changed.{map_err, map_ok}
use Rattle.kapi_index.proofs.Placed.{absent_at, put_after, same_after, spread_after, stood_named, was_set}
use Rattle.kapi_index.specs.Contents.{bindings_in, roles_in}
use Rattle.kapi_index.specs.Scopes.{Scoped}
use Rattle.kapi_index.proofs.spaces.put_role.Goals as goal

pub put_first_role-requires-clause-absent : goal.put_first_role-requires-clause-absent
put_first_role-requires-clause-absent c = absent_at _ _ _ _ c.as_str.ensures (ap (λ m. m.entries) c.get_mut.follows.holds-at-none) c.in-None.ensures.value

pub returns-in-Some-clause-done : goal.returns-in-Some-clause-done
returns-in-Some-clause-done c =
    map_ok c.insert_role.result _ _ (λ done. put_after roles_in _ _ _ _ _ _ _ (was_set _ _ _ c.insert_role.new.space _ _ c.as_str.ensures c.requires.spread c.in-Some.ensures.value (c.get_mut.follows.holds c.insert_role.new.space).0) (done ∙ ap (λ n. insert_entry name_cmp c.in-Some.space.now.roles.entries n c.args.role) c.in_ok-name.ensures)) c.insert_role.ensures.done

pub returns-in-Some-clause-kept : goal.returns-in-Some-clause-kept
returns-in-Some-clause-kept c = map_err c.insert_role.result _ _ (λ kept. same_after roles_in _ _ _ _ _ (was_set _ _ _ c.insert_role.new.space _ _ c.as_str.ensures c.requires.spread c.in-Some.ensures.value (c.get_mut.follows.holds c.insert_role.new.space).0) kept) c.insert_role.ensures.kept

pub returns-in-Some-clause-bindings : goal.returns-in-Some-clause-bindings
returns-in-Some-clause-bindings c = same_after bindings_in _ _ _ _ _ (was_set _ _ _ c.insert_role.new.space _ _ c.as_str.ensures c.requires.spread c.in-Some.ensures.value (c.get_mut.follows.holds c.insert_role.new.space).0) (ap (λ (s : Scoped). s.bindings) c.insert_role.ensures.bound)

pub returns-in-Some-clause-spread : goal.returns-in-Some-clause-spread
returns-in-Some-clause-spread c =
    spread_after _ _ _ _ _ (was_set _ _ _ c.insert_role.new.space _ _ c.as_str.ensures c.requires.spread c.in-Some.ensures.value (c.get_mut.follows.holds c.insert_role.new.space).0) (ap (λ (s : Scoped). s.namespace) c.insert_role.ensures.bound ∙ stood_named _ _ _ _ _ (was_set _ _ _ c.insert_role.new.space _ _ c.as_str.ensures c.requires.spread c.in-Some.ensures.value (c.get_mut.follows.holds c.insert_role.new.space).0))
