use Rattle.std.proofs.Common.{◌≡◌, None, Some}
use Rattle.std.proofs.lemmas.Result.{on_ok_weaker}
use Rattle.kapi_manifests.specs.Files.{data_of}
use Rattle.kapi_kinds.specs.Rows.{row_in, row_named}
use Rattle.kapi_kinds.proofs.Grown.{named, nameless}
use Rattle.kapi_kinds.proofs.table.gather.Goals as goal

pub returns-in-Ok : goal.returns-in-Ok
returns-in-Ok c =
    let is : Some (row_named c.in-Ok.named) ≡ row_in (data_of c.args.manifest.now) = rw c.in-Ok.is at c.in_ok-named.ensures in
    rw (← named _ (row_named c.in-Ok.named) (data_of c.args.manifest.now) is) c.add.ensures

pub returns-in-Err : goal.returns-in-Err
returns-in-Err c =
    let none : None ≡ row_in (data_of c.args.manifest.now) = rw c.in-Err.is at c.in_ok-named.ensures in
    on_ok_weaker c.refuse.result (λ faults. nameless c.args.gathered.now c.refuse.new.gathered (data_of c.args.manifest.now) faults none) c.refuse.ensures.faults
