use Rattle.kapi_replay.proofs.Prepared.{texts_fail}
use Rattle.kapi_replay.proofs.manifests.play_texts.Goals as goal

pub returns : goal.returns
returns g c =
    texts_fail (λ v. v.items) c.play_prepared.result c.args.table.now c.args.loads.now c.args.case.now c.args.manifests.now c.in_ok-prepared.prepared _ c.as_slice.ensures
    c.in_ok-prepared.ensures c.play_prepared.ensures
