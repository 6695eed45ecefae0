use Rattle.std.proofs.Common.{◌≡◌, ap, ◌∙◌}
use Rattle.std.specs.BTreeMap.Range.{entries_between}
use Rattle.std.specs.declared.ops.Bound.TheVariants.{Included, Excluded}
use Rattle.kapi_store.specs.Keys.{key_cmp}
use Rattle.kapi_store.specs.Private.Span.{first_key}
use Rattle.kapi_store.specs.Private.Hidden.{visible}
use Rattle.kapi_store.specs.Listing.{listed_objects}
use Rattle.kapi_store.proofs.Spans.{first_below_end, listed_between}
use Rattle.kapi_store.proofs.listing.Selection.list_in.Goals as goal

pub range-key-items-requires : goal.range-key-items-requires
range-key-items-requires c =
    rw (c.in_ok-first.ensures, c.in_ok-end.ensures) (first_below_end c.args.self.now.row.now c.args.self.now.namespace.now c.args.self.now.name.now)

-- what the range shows is all that may be listed
pub loop-key-init : goal.loop-key-init
loop-key-init c =
    let selection = c.args.self.now in
    let range : c.into_iter-key-iterator.result ≡ entries_between key_cmp (Included c.in_ok-first.first) (Excluded c.in_ok-end.end) c.args.slots.now.entries
    = c.into_iter-key-iterator.ensures.into_iter_gives ∙ c.range-key-items.ensures.between tt in
    let bounds = ap (λ first. entries_between key_cmp (Included first) (Excluded c.in_ok-end.end) c.args.slots.now.entries) c.in_ok-first.ensures
    ∙ ap (λ end. entries_between key_cmp (Included (first_key selection.row.now selection.namespace.now selection.name.now)) (Excluded end) c.args.slots.now.entries) c.in_ok-end.ensures in
    rw c.new-listed.ensures.items
    (ap (λ es. listed_objects selection.row.now selection.namespace.now selection.selector.now selection.name.now (visible c.args.hidden.now es)) (range ∙ bounds)
    ∙ listed_between selection.row.now selection.namespace.now selection.selector.now selection.name.now c.args.hidden.now c.args.slots.now.entries)
