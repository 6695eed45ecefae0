use Rattle.std.proofs.Common.{◌∙◌, [], ap}
use Rattle.std.specs.BTreeMap.{insert_entry}
use Rattle.kapi_policy.specs.Objects.{name_cmp}
use Rattle.kapi_index.proofs.Placed.{put_after, same_after, spread_after, was_made}
use Rattle.kapi_index.specs.Contents.{bindings_in, roles_in}
use Rattle.kapi_index.specs.Scopes.{Scoped}
use Rattle.kapi_index.proofs.spaces.put_first_role.Goals as goal

pub returns-clause-done : goal.returns-clause-done
returns-clause-done c =
    put_after roles_in _ _ _ _ _ _ _ (was_made _ _ c.insert_role.new.space _ _ c.requires.spread c.requires.absent (c.in_ok-key.ensures.ok ∙ c.as_str.ensures) c.in_ok-insert.ensures.entries)
    (c.in_ok-insert_role.ensures.done ∙ ap (λ l. insert_entry name_cmp l c.in_ok-name.name c.args.role) c.in_ok-space.ensures.roles ∙ ap (λ n. insert_entry name_cmp [] n c.args.role) c.in_ok-name.ensures)

pub returns-clause-bindings : goal.returns-clause-bindings
returns-clause-bindings c = same_after bindings_in _ _ _ _ _ (was_made _ _ c.insert_role.new.space _ _ c.requires.spread c.requires.absent (c.in_ok-key.ensures.ok ∙ c.as_str.ensures) c.in_ok-insert.ensures.entries) (ap (λ (s : Scoped). s.bindings) c.insert_role.ensures.bound ∙ c.in_ok-space.ensures.bindings)

pub returns-clause-spread : goal.returns-clause-spread
returns-clause-spread c = spread_after _ _ _ _ _ (was_made _ _ c.insert_role.new.space _ _ c.requires.spread c.requires.absent (c.in_ok-key.ensures.ok ∙ c.as_str.ensures) c.in_ok-insert.ensures.entries) (ap (λ (s : Scoped). s.namespace) c.insert_role.ensures.bound ∙ c.in_ok-space.ensures.named)
