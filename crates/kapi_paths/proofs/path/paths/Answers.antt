use Rattle.std.proofs.Common.{◌≡◌, ◌+◌, ◌<◌, ⊎_elim, ap, arith, length, List, ℕ, [], ◌∷◌, Some, map, subst, sym, ◌∙◌}
use Rattle.std.specs.List.{slice_get}
use Rattle.std.proofs.lemmas.Bool.{cases_lt}
use Rattle.std.proofs.lemmas.Option.{same_Some, slice_get_within}
use Rattle.kapi_paths.specs.Chains.{Has, IsInside}
use Rattle.kapi_paths.specs.Graphs.{AddsPaths, AreBefore, Begins, IsCovered, next_of}
use Rattle.kapi_paths.specs.Numbers.{IsOnce}
use Rattle.kapi_paths.specs.Rights.{row_of}
use Rattle.kapi_paths.specs.Sources.{sources}
use Rattle.kapi_paths.specs.Steps.{everything}
use Rattle.kapi_paths.specs.declared.node.Node.{Node}
use Rattle.kapi_paths.proofs.Graphing.{begins_at, covered_has, covered_kept, graph_inside, has_found, has_number, leads_nowhere, some_at, somewhere_is, stays}
use Rattle.kapi_paths.proofs.path.paths.Goals as goal

pub push_paths-requires-clause-inside : goal.push_paths-requires-clause-inside
push_paths-requires-clause-inside g c =
    let step = next_of (g.P.Policy.content c.args.asked.now.policy.now) c.args.asked.now.bindings.now c.args.asked.now.known.now (map row_of c.args.asked.now.rights.now) in
    subst (λ (rows : List (List ℕ)). IsInside rows) (sym c.as_slice.ensures.value) (graph_inside step c.rows.new.numbered c.in_ok-rows.rows.items c.in_ok-rows.ensures.rows)

-- everything stays the first node of a list that grows twice
first_is : (one two three : List Node) → one ≡ everything ∷ [] → Begins one two → Begins two three → slice_get three 0 ≡ Some everything
first_is one two three e a b = begins_at two three b 0 everything (begins_at one two a 0 everything (ap (λ l. slice_get l 0) e))

pub push_paths-requires-clause-first : goal.push_paths-requires-clause-first
push_paths-requires-clause-first g c =
    subst (λ (ns : List Node). slice_get ns 0 ≡ Some everything) (sym c.nodes.ensures)
    (first_is _ c.row.new.self c.rows.new.numbered c.in_ok-numbered.ensures c.in_ok-row.ensures.more c.in_ok-rows.ensures.more)

pub push_paths-requires-clause-once : goal.push_paths-requires-clause-once
push_paths-requires-clause-once g c = subst (λ (ns : List Node). IsOnce ns) (sym c.nodes.ensures) c.in_ok-rows.ensures.rows.once

pub push_paths-requires-clause-before : goal.push_paths-requires-clause-before
push_paths-requires-clause-before g c = subst (λ (ns : List Node). AreBefore ns c.loop-from.from 0 c.loop-from.list.items) (sym c.nodes.ensures) c.loop-from.invariant.ordered

pub loop-from-preserved : goal.loop-from-preserved
loop-from-preserved g c =
    let nodes = c.rows.new.numbered in
    let rows = c.in_ok-rows.rows.items in
    let from = c.loop-from.from in
    let old = c.loop-from.list.items in
    let new = c.push_paths.new.list.items in
    let added : AddsPaths nodes rows from old new = subst (λ (ns : List Node). AddsPaths ns rows from old new) c.nodes.ensures
    (subst (λ (rs : List (List ℕ)). AddsPaths c.nodes.result.now rs from old new) c.as_slice.ensures.value c.in_ok-push_paths.ensures.added) in
    let covered : (to : ℕ) → IsCovered nodes rows new from to = λ to. subst (λ (ns : List Node). IsCovered ns rows new from to) c.nodes.ensures
    (subst (λ (rs : List (List ℕ)). IsCovered c.nodes.result.now rs new from to) c.as_slice.ensures.value (c.in_ok-push_paths.ensures.covered to)) in
    record {
      came = λ p h. ⊎_elim
          (λ k. c.loop-from.invariant.came p k)
          (λ k. (from, omega arith, c.loop-from-test.true, k))
          (added.came p h);
      ordered = subst (λ (ns : List Node). AreBefore ns (from + 1) 0 new) c.nodes.ensures c.in_ok-push_paths.ensures.after;
      covered = λ i some below to. ⊎_elim
          (λ less. covered_kept nodes rows old new added.kept i to (c.loop-from.invariant.covered i some less to))
          (λ past. let e : from ≡ i = omega (arith, below, past) in subst (λ k. IsCovered nodes rows new k to) e (covered to))
          (cases_lt i from);
    }

pub returns-clause-each : goal.returns-clause-each
returns-clause-each g c = λ p h.
    let step = next_of (g.P.Policy.content c.args.asked.now.policy.now) c.args.asked.now.bindings.now c.args.asked.now.known.now (map row_of c.args.asked.now.rights.now) in
    let nodes = c.rows.new.numbered in
    let graph = c.in_ok-rows.ensures.rows in
    let begun = c.row.new.self in
    let first = first_is _ begun nodes c.in_ok-numbered.ensures c.in_ok-row.ensures.more c.in_ok-rows.ensures.more in
    let s = c.loop-from.invariant.came p h in
    let below = s.2 in
    let some = s.1 in
    let counted : length c.nodes-count.result.now ≡ length begun = ap length c.nodes-count.ensures in
    let x = some_at begun s.0 (omega (arith, below, counted)) in
    let same : x.0 ≡ p.from = same_Some x.0 p.from (sym (begins_at begun nodes c.in_ok-rows.ensures.more s.0 x.0 x.1) ∙ s.3.drawn.at_from) in
    let source : Has (sources c.args.asked.now.bindings.now) x.0 = ⊎_elim
    (λ k.
    let e : everything ≡ x.0 = ⊎_elim (λ (e : everything ≡ x.0). e) (λ k. absurd k) (subst (λ (l : List Node). Has l x.0) c.in_ok-numbered.ensures k) in
    let zero : 0 ≡ s.0 = graph.once 0 s.0 p.from (subst (λ (y : Node). slice_get nodes 0 ≡ Some y) (e ∙ same) first) s.3.drawn.at_from in
    absurd (omega (arith, zero, some)))
    (λ k. subst (λ (l : List Node). Has l x.0) (c.in_ok-sources.ensures ∙ ap sources c.list.ensures) k)
    (c.in_ok-row.ensures.came x.0 (has_found begun s.0 x.0 x.1)) in
    somewhere_is step nodes c.in_ok-rows.rows.items graph first (sources c.args.asked.now.bindings.now) s.0 p s.3 (subst (λ (y : Node). Has (sources c.args.asked.now.bindings.now) y) same source)

pub returns-clause-listed : goal.returns-clause-listed
returns-clause-listed g c = λ from to zs source walk listed other.
    let step = next_of (g.P.Policy.content c.args.asked.now.policy.now) c.args.asked.now.bindings.now c.args.asked.now.known.now (map row_of c.args.asked.now.rights.now) in
    let nodes = c.rows.new.numbered in
    let begun = c.row.new.self in
    let p = has_number begun c.in_ok-row.field-0.items c.in_ok-sources.field-0.items from c.in_ok-row.ensures.at (subst (λ (l : List Node). Has l from) (sym (c.in_ok-sources.ensures ∙ ap sources c.list.ensures)) source) in
    let at = begins_at begun nodes c.in_ok-rows.ensures.more p.0 from p.2 in
    let first = first_is _ begun nodes c.in_ok-numbered.ensures c.in_ok-row.ensures.more c.in_ok-rows.ensures.more in
    let within : p.0 < length begun = slice_get_within begun p.0 from p.2 in
    let counted : length c.nodes-count.result.now ≡ length begun = ap length c.nodes-count.ensures in
    let past = c.loop-from-test.false in
    let below : p.0 < c.loop-from.from = omega (arith, within, counted, past) in
    ⊎_elim
    (λ some. covered_has step nodes c.in_ok-rows.rows.items c.in_ok-rows.ensures.rows first c.loop-from.list.items p.0 (c.loop-from.invariant.covered p.0 some below) from to zs at walk listed other)
    (λ none.
    let zero : 0 ≡ p.0 = omega (arith, none) in
    let nowhere = leads_nowhere (g.P.Policy.content c.args.asked.now.policy.now) c.args.asked.now.bindings.now c.args.asked.now.known.now (map row_of c.args.asked.now.rights.now) in
    absurd (other (stays step nowhere from to zs (same_Some from everything (sym at ∙ subst (λ k. slice_get nodes k ≡ Some everything) zero first)) walk)))
    (cases_lt 0 p.0)
