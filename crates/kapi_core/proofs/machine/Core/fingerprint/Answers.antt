use Rattle.std.proofs.Common.{◌≡◌, None, Some, ap, sym, subst, ◌∙◌}
use Rattle.std.specs.BTreeMap.{is_at}
use Rattle.std.specs.Map.{lookup}
use Rattle.std.specs.Ordering.{nat_cmp}
use Rattle.kapi_answer.specs.declared.watch.Watching.{Watching}
use Rattle.kapi_watch.specs.declared.scope.WatchScope.{WatchScope}
use Rattle.kapi_core.proofs.Concerned.{fingerprint_idle, fingerprint_nowhere, fingerprint_there}
use Rattle.kapi_core.specs.Fingerprints.{fingerprint_of}
use Rattle.kapi_core.specs.Running.{Running}
use Rattle.kapi_core.proofs.machine.Core.fingerprint.Goals as goal

pub returns-in_default : goal.returns-in_default
returns-in_default g c = λ m h.
    let P : Running → Type 0 = λ r. lookup (is_at (nat_cmp c.args.conn.0)) r.connections ≡ None in
    fingerprint_nowhere c.args.self.now m c.args.conn.0 (subst P c.self.view_is (sym c.in_default.ensures.value)) h

pub returns-in-Some-watching : goal.returns-in-Some-watching
returns-in-Some-watching g c = λ m h.
    let P : Running → Type 0 = λ r. lookup (is_at (nat_cmp c.args.conn.0)) r.connections ≡ Some c.in-Some.connection.now in
    ap Some (c.fingerprint_of_scope.ensures ∙ ap (λ (s : WatchScope). fingerprint_of s.row.group s.row.plural s.namespace) c.scope.ensures)
    ∙ ap (λ (w : Watching). Some (fingerprint_of w.watch.scope.row.group w.watch.scope.row.plural w.watch.scope.namespace)) c.get-in-Some-watching.ensures
    ∙ fingerprint_there c.args.self.now m c.args.conn.0 c.in-Some.connection.now c.in-Some-watching.watching (subst P c.self.view_is (sym c.in-Some.ensures.value)) c.in-Some-watching.is h

pub returns-in-None : goal.returns-in-None
returns-in-None g c = λ m h.
    let P : Running → Type 0 = λ r. lookup (is_at (nat_cmp c.args.conn.0)) r.connections ≡ Some c.in-Some.connection.now in
    fingerprint_idle c.args.self.now m c.args.conn.0 c.in-Some.connection.now (subst P c.self.view_is (sym c.in-Some.ensures.value)) c.in-None.is h
