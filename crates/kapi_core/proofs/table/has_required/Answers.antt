use Rattle.std.proofs.Common.{◌∙◌, sym, ap}
use Rattle.std.specs.List.{list_all}
use Rattle.kapi_core.specs.Table.{has_row, row_of}
use Rattle.kapi_core.proofs.Tables.{all_mapped}
use Rattle.kapi_core.proofs.table.has_required.Goals as goal

pub returns : goal.returns
returns c =
    c.has_rows.ensures
    ∙ sym (all_mapped (has_row c.args.table.now) row_of c.required_resources.result)
    ∙ ap (list_all (has_row c.args.table.now)) c.required_resources.ensures
