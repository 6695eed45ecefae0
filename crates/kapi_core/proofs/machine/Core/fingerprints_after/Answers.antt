use Rattle.std.proofs.Common.{sym, subst}
use Rattle.kapi_store.specs.Lent.{changes_of}
use Rattle.kapi_store.specs.Plain.{RefinesPlain}
use Rattle.kapi_core.proofs.Concerned.{concerned_among, some_both}
use Rattle.kapi_core.specs.Running.{Running}
use Rattle.kapi_core.proofs.machine.Core.fingerprints_after.Goals as goal

pub returns-in-Ok : goal.returns-in-Ok
returns-in-Ok g c =
    some_both c.fingerprints_of.result _ _ _
    (λ v is others m h id concerned.
    let P : Running → Type 0 = λ r. RefinesPlain r.store m.changes m.store in
    concerned_among m v.items (changes_of c.in-Ok.changes) c.args.revision id is others (c.in-Ok.ensures.all m.changes m.store (subst P (sym c.self.view_is) h.store)) concerned)
    c.fingerprints_of.ensures.listed c.fingerprints_of.ensures.others
