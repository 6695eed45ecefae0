use Rattle.std.proofs.Common.{Bool, ◌∙◌, sym, ap}
use Rattle.std.specs.List.{list_any}
use Rattle.kapi_model.specs.declared.row.ResourceRow.{ResourceRow}
use Rattle.kapi_core.specs.Table.{is_row, row_of}
use Rattle.kapi_core.proofs.Tables.{any_mapped}
use Rattle.kapi_core.proofs.table.is_required.Goals as goal

pub returns : goal.returns
returns c =
    let P : ResourceRow → Bool = λ required. is_row required c.args.row.now in
    c.is_among.ensures ∙ sym (any_mapped P row_of c.required_resources.result) ∙ ap (list_any P) c.required_resources.ensures
