use Rattle.std.proofs.Common.{◌≡◌, ◌∙◌, ℕ, IfSome, List, Option, ap, is_some, map, option_and_then, subst, sym, true}
use Rattle.kapi_model.specs.declared.row.ResourceRow.{ResourceRow}
use Rattle.kapi_core.specs.Table.{fits}
use Rattle.kapi_manifests.specs.Files.{bad_pieces, sum_of}
use Rattle.kapi_manifests.specs.Written.{objects_in_all}
use Rattle.kapi_kinds.specs.Tables.{grown, kept, table_in}
use Rattle.kapi_kinds.proofs.Fits.{begun, grown_is_table, table_fits}
use Rattle.kapi_kinds.proofs.table.table_of.Goals as goal

pub returns : goal.returns
returns c =
    let files : List (List ℕ) = map (λ text. text.now) c.args.files.now in
    let start = begun (record { rows = c.into_vec.result; faults = c.new.result }) (c.into_vec.ensures ∙ c.in_ok-program_table.ensures.rows) c.new.ensures.items in
    let is : kept c.gather_files.new.gathered ≡ table_in files =
    c.in_ok-gather_files.ensures ∙ ap (option_and_then (grown (sum_of bad_pieces files) (objects_in_all files))) start ∙ grown_is_table files in
    let P : Option (List ResourceRow) → Type 0 = λ o. IfSome o (λ t. fits t ≡ true) in
    record {
      table = c.settled.ensures.table ∙ is;
      fits = subst P (sym (c.settled.ensures.table ∙ is)) (table_fits files);
      faults = c.settled.ensures.faults ∙ ap is_some is;
    }
