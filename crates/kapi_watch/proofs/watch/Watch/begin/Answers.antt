use Rattle.std.proofs.Common.{◌≤◌, ℕ, ap, sym, subst}
use Rattle.kapi_store.specs.Plain.{plain_of}
use Rattle.kapi_watch.proofs.Standing.{reached}
use Rattle.kapi_watch.proofs.watch.Watch.begin.Goals as goal

pub returns-else-revision-eq0-clause-fresh : goal.returns-else-revision-eq0-clause-fresh
returns-else-revision-eq0-clause-fresh c =
    let s = plain_of c.args.store.now in
    let P : ℕ → Type 0 = λ n. n ≤ s.revision in
    (c.from_revision.ensures.told, subst P (sym (ap (λ w. w.position) c.from_revision.ensures.gives)) (reached s c.args.revision c.requires), c.from_revision.ensures.runs)
