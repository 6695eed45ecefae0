use Rattle.std.proofs.Common.{ap, sym, ◌∙◌}
use Rattle.kapi_loading.specs.Loading.{machine_alone}
use Rattle.kapi_replay.proofs.Prepared.{alone}
use Rattle.kapi_replay.proofs.manifests.play_alone.Goals as goal

pub returns-in-Ok : goal.returns-in-Ok
returns-in-Ok g c =
    let s = c.in-Ok.ensures.machine in
    alone (λ v. v.items) c.play_on-failures.result s.0 c.args.loads.now c.args.case.now c.args.files.now c.args.prepared.now _
    (ap (machine_alone c.args.table.now 0) (sym c.as_slice.ensures.value) ∙ s.1) (c.play_on-failures.ensures s.0 s.2.0)
