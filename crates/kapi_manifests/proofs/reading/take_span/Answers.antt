use Rattle.kapi_manifests.proofs.reading.take_span.Goals as goal

pub returns : goal.returns
returns c = rw (← c.in_ok-found.ensures.objects, ← c.in_ok-found.ensures.faults) c.take_found.ensures
