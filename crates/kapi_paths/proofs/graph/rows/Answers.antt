use Rattle.std.proofs.Common.{◌≡◌, ◌++◌, ℕ, List, [], ◌∷◌, Some, arith, length, map, subst, sym}
use Rattle.std.specs.List.{slice_get}
use Rattle.std.proofs.lemmas.List.{length_push}
use Rattle.kapi_paths.specs.Graphs.{AreAt, next_of}
use Rattle.kapi_paths.specs.Rights.{row_of}
use Rattle.kapi_paths.specs.declared.node.Node.{Node}
use Rattle.kapi_paths.proofs.Graphing.{begins_length, begins_then, row_added, rows_done}
use Rattle.kapi_paths.proofs.graph.rows.Goals as goal

pub rows-preserved : goal.rows-preserved
rows-preserved g c =
    let step = next_of (g.P.Policy.content c.args.asked.now.policy.now) c.args.asked.now.bindings.now c.args.asked.now.known.now (map row_of c.args.asked.now.rights.now) in
    let items : c.push.new.self.items ≡ c.rows.rows.items ++ c.new.result ∷ [] = c.in_ok-push.ensures.items in
    let ok = c.rows.rows.ok in
    let less = c.rows-test.true in
    let first = c.len.ensures in
    let second = c.len-in-rows.ensures.count in
    let third = c.len-in-rows-2.ensures in
    let at : c.len-in-rows-2.result ≡ length c.rows.rows.items = omega (arith, third, ok) in
    let here = subst (λ k. slice_get c.rows.numbered k ≡ Some c.node.result.now) at c.node.ensures in
    let added : AreAt c.row.new.self c.new.result (step c.node.result.now) =
    subst (λ (l : List ℕ). AreAt c.row.new.self l (step c.node.result.now)) (sym c.new.ensures)
    (subst (λ (l : List Node). AreAt c.row.new.self c.in_ok-row.row.items l) c.in_ok-nodes.ensures c.in_ok-row.ensures.at) in
    let longer = begins_length c.rows.numbered c.row.new.self c.in_ok-row.ensures.more in
    let pushed = length_push c.rows.rows.items c.new.result in
    rw items (record {
      size = omega (arith, pushed, longer, less, first, second, ok);
      next = row_added step c.rows.numbered c.row.new.self c.rows.rows.items c.new.result c.node.result.now c.in_ok-row.ensures.more c.rows.invariant.next c.rows.invariant.size here added;
      more = begins_then c.args.numbered.now c.rows.numbered c.row.new.self c.rows.invariant.more c.in_ok-row.ensures.more;
    })

pub returns-clause-rows : goal.returns-clause-rows
returns-clause-rows g c =
    let step = next_of (g.P.Policy.content c.args.asked.now.policy.now) c.args.asked.now.bindings.now c.args.asked.now.known.now (map row_of c.args.asked.now.rights.now) in
    let ok = c.rows.rows.ok in
    let less = c.rows-test.false in
    let first = c.len.ensures in
    let second = c.len-in-rows.ensures.count in
    rows_done step c.rows.numbered c.rows.rows.items c.rows.invariant.next c.rows.invariant.size (omega (arith, less, first, second, ok)) c.len-in-rows.ensures.once
