use Rattle.std.proofs.Common.{◌∙◌, subst, ◌++◌, ◌∷◌, [], ℕ, List, Some}
use Rattle.std.specs.BTreeMap.{Updates}
use Rattle.kapi_paths.specs.Numbers.{node_cmp}
use Rattle.kapi_paths.proofs.Binding.{put_added, put_kept}
use Rattle.kapi_paths.proofs.bound.add.Goals as goal

pub returns-clause-kept : goal.returns-clause-kept
returns-clause-kept c =
    let mid = c.take_positions-list.new.positions in
    let list = c.take_positions-list.result.items in
    let updates : Updates node_cmp mid c.insert.new.self c.args.key (Some (list ++ c.args.position ∷ [])) = subst (λ (l : List ℕ). Updates node_cmp mid c.insert.new.self c.args.key (Some l)) (c.new.ensures ∙ c.in_ok-push.ensures.items) c.in_ok-insert.ensures.updates in
    put_kept c.args.positions.now mid c.insert.new.self c.args.key list c.args.position c.take_positions-list.ensures.list c.take_positions-list.ensures.others updates

pub returns-clause-added : goal.returns-clause-added
returns-clause-added c =
    let mid = c.take_positions-list.new.positions in
    let list = c.take_positions-list.result.items in
    let updates : Updates node_cmp mid c.insert.new.self c.args.key (Some (list ++ c.args.position ∷ [])) = subst (λ (l : List ℕ). Updates node_cmp mid c.insert.new.self c.args.key (Some l)) (c.new.ensures ∙ c.in_ok-push.ensures.items) c.in_ok-insert.ensures.updates in
    put_added mid c.insert.new.self c.args.key list c.args.position updates
