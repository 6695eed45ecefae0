use Rattle.std.proofs.Common.{◌≡◌, ◌∙◌, ◌==◌, List, ap, false, length, sym}
use Rattle.std.specs.List.{list_any}
use Rattle.kapi_model.specs.declared.row.ResourceRow.{ResourceRow}
use Rattle.kapi_core.specs.Table.{is_like}
use Rattle.kapi_kinds.proofs.Grown.{joins}
use Rattle.kapi_kinds.proofs.table.add.Goals as goal

pub returns : goal.returns
returns c =
    let unlike : list_any (λ other. is_like other c.in_ok-row.row) c.args.gathered.now.rows.items ≡ false =
    sym (ap (λ (rows : List ResourceRow). list_any (λ other. is_like other c.in_ok-row.row) rows) c.as_slice.ensures.value) ∙ sym c.is_like_any.ensures ∙ c.if-is_like_any.false in
    rw (c.in_ok-push.ensures.items, ← c.in_ok-row.ensures) (joins c.args.gathered.now.rows.items c.in_ok-row.row (length c.args.gathered.now.faults.items == 0) unlike)
