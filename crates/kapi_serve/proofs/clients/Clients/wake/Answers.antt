use Rattle.std.proofs.Common.{◌≡◌, ℕ, List, true}
use Rattle.std.specs.Prelude.{option_map}
use Rattle.kapi_core.specs.Fingerprints.{fingerprint_on, is_among, is_concerned}
use Rattle.kapi_core.specs.Machine.{Machine, link_at}
use Rattle.kapi_core.specs.Refines.{Refines}
use Rattle.kapi_serve.proofs.Tending.{roused_by, some_items}
use Rattle.kapi_serve.proofs.clients.Clients.wake.Goals as goal

pub returns-clause-made : goal.returns-clause-made
returns-clause-made g c = λ made m r s.
    let Lists : List ℕ → Type 0 = λ ns. (m : Machine) → Refines c.args.core.now m → (id : ℕ) → is_concerned m id c.args.self.now.woken ≡ true → is_among ns (fingerprint_on (link_at id m)) ≡ true in
    roused_by m c.args.self.now.woken (option_map (λ v. v.items) c.concerned-concerned.result) _ _ (c.rouse_all.ensures.stands m s) c.rouse_all.ensures.roused
    (λ ns is. some_items c.concerned-concerned.result Lists c.concerned-concerned.ensures ns is m r)
