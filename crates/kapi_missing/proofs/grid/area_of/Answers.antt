use Rattle.std.proofs.Common.{◌≡◌, ◌∙◌, ◌*◌, ap, length, arith}
use Rattle.kapi_missing.proofs.Gridding.{area_bound, area_rows, below_more}
use Rattle.kapi_missing.proofs.grid.area_of.Goals as goal

pub rows_below-requires-clause-rows : goal.rows_below-requires-clause-rows
rows_below-requires-clause-rows c =
    let few = c.requires.few.groups in
    rw c.as_slice-5.ensures.value (below_more (length c.as_slice.result.now) 4096 c.in_ok-groups.groups.items (rw c.as_slice.ensures.value (omega (arith, few))) c.in_ok-groups.ensures.bound)

pub rows_below-requires-2-clause-rows : goal.rows_below-requires-2-clause-rows
rows_below-requires-2-clause-rows c =
    let few = c.requires.few.groups in
    let size = c.requires.few.resources in
    let is = c.len.ensures in
    rw c.as_slice-7.ensures.value
    (below_more (64 * c.len.result) 4096 c.in_ok-rows.rows.items (omega (arith, size, is))
    (c.in_ok-rows.ensures.bound 64
    (rw c.as_slice-5.ensures.value (below_more (length c.as_slice.result.now) 64 c.in_ok-groups.groups.items (rw c.as_slice.ensures.value (omega (arith, few))) c.in_ok-groups.ensures.bound))))

pub bits-requires : goal.bits-requires
bits-requires c =
    let few = c.requires.few.names in
    rw c.as_slice-9.ensures.value (below_more (length c.as_slice-4.result.now) 64 c.in_ok-names.names.items (rw c.as_slice-4.ensures.value (omega (arith, few))) c.in_ok-names.ensures.bound)

pub returns-clause-bound : goal.returns-clause-bound
returns-clause-bound c =
    let resources : c.len.result ≡ length c.args.grid.now.columns.resources.items = (let is = c.len.ensures in omega (arith, is)) in
    let verbs : c.len-2.result ≡ length c.args.grid.now.columns.verbs.items = (let is = c.len-2.ensures in omega (arith, is)) in
    area_bound (length c.args.grid.now.marks.items) (length c.as_slice.result.now) c.len.result c.len-2.result (length c.args.grid.now.columns.groups.items)
    (length c.args.grid.now.columns.resources.items) (length c.args.grid.now.columns.verbs.items) c.in_ok-rows-2.rows.items c.requires.long (ap length c.as_slice.ensures.value) resources verbs
    (c.in_ok-rows-2.ensures.bound (length c.as_slice.result.now * c.len.result)
    (rw c.as_slice-7.ensures.value (c.in_ok-rows.ensures.bound (length c.as_slice.result.now) (rw c.as_slice-5.ensures.value c.in_ok-groups.ensures.bound))))

pub returns-clause-rows : goal.returns-clause-rows
returns-clause-rows c = λ g r v r_within v_within.
    let resources : c.len.result ≡ length c.args.grid.now.columns.resources.items = (let is = c.len.ensures in omega (arith, is)) in
    let verbs : c.len-2.result ≡ length c.args.grid.now.columns.verbs.items = (let is = c.len-2.ensures in omega (arith, is)) in
    area_rows c.args.grid.now.columns.groups.items c.args.grid.now.columns.resources.items c.args.grid.now.columns.verbs.items c.in_ok-groups.groups.items c.in_ok-resources.resources.items
    c.in_ok-verbs.verbs.items c.in_ok-rows.rows.items c.in_ok-rows-2.rows.items c.as_slice-5.result.now c.as_slice-6.result.now c.as_slice-8.result.now c.as_slice-7.result.now c.len.result c.len-2.result
    c.args.number g r v resources verbs c.as_slice-5.ensures.value c.as_slice-6.ensures.value c.as_slice-8.ensures.value c.as_slice-7.ensures.value r_within v_within
    c.in_ok-rows.ensures.those c.in_ok-rows-2.ensures.those
    (rw c.as_slice.ensures.value at c.in_ok-groups.ensures.those) (rw c.as_slice-2.ensures.value at c.in_ok-resources.ensures.those)
    (rw c.as_slice-3.ensures.value at c.in_ok-verbs.ensures.those)

pub returns-clause-names : goal.returns-clause-names
returns-clause-names c = λ n less.
    (rw c.as_slice-9.ensures.value at c.bits.ensures) n less ∙ (rw c.as_slice-4.ensures.value at c.in_ok-names.ensures.those) n
