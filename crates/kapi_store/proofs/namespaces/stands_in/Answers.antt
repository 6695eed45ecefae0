use Rattle.std.proofs.Common.{◌≡◌, ap, ◌∙◌}
use Rattle.std.specs.List.{list_any}
use Rattle.std.specs.BTreeMap.Range.{entries_between}
use Rattle.std.specs.declared.ops.Bound.TheVariants.{Included, Excluded}
use Rattle.kapi_store.specs.Keys.{key_cmp}
use Rattle.kapi_store.specs.Private.Span.{is_of, namespace_start}
use Rattle.kapi_store.specs.Private.Hidden.{visible}
use Rattle.kapi_store.proofs.Spans.{start_below_end, standing_between}
use Rattle.kapi_store.proofs.namespaces.stands_in.Goals as goal

pub range-key-items-requires : goal.range-key-items-requires
range-key-items-requires c =
    rw (c.in_ok-start.ensures, c.in_ok-end.ensures) (start_below_end c.args.row.now c.args.namespace.now)

-- the range shows all objects of the namespace
pub loop-key-init : goal.loop-key-init
loop-key-init c =
    let row = c.args.row.now in
    let namespace = c.args.namespace.now in
    let range : c.into_iter-key-iterator.result ≡ entries_between key_cmp (Included c.in_ok-start.start) (Excluded c.in_ok-end.end) c.args.slots.now.entries
    = c.into_iter-key-iterator.ensures.into_iter_gives ∙ c.range-key-items.ensures.between tt in
    let bounds = ap (λ start. entries_between key_cmp (Included start) (Excluded c.in_ok-end.end) c.args.slots.now.entries) c.in_ok-start.ensures
    ∙ ap (λ end. entries_between key_cmp (Included (namespace_start row namespace)) (Excluded end) c.args.slots.now.entries) c.in_ok-end.ensures in
    ap (λ es. list_any (λ e. is_of row namespace e.0) (visible c.args.hidden.now es)) (range ∙ bounds) ∙ standing_between row namespace c.args.hidden.now c.args.slots.now.entries
