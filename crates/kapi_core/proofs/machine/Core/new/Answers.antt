use Rattle.std.proofs.Common.{ℕ, List, ◌∙◌, ap, sym, subst}
use Rattle.std.specs.Map.{keys_of}
use Rattle.kapi_core.specs.Machine.{Link}
use Rattle.kapi_core.specs.Opening.{empty, opening, opening_objects}
use Rattle.kapi_core.specs.Refines.{AreLinks}
use Rattle.kapi_core.proofs.AlikeLinks.{links_none}
use Rattle.kapi_core.proofs.Opened.{opening_stands}
use Rattle.kapi_core.proofs.Openings.{openings_same}
use Rattle.kapi_core.proofs.machine.Core.new.Goals as goal

pub returns-clause-stands : goal.returns-clause-stands
unfolding opening
returns-clause-stands g c =
    let m = opening c.args.table c.args.first in
    let same = openings_same opening_objects (empty c.args.table c.args.first) in
    record {
      store = c.in_ok-store.ensures.0;
      policy_is = c.in_ok-store.ensures.1;
      covers = c.in_ok-store.ensures.2;
      next_id = sym same.next_id;
      rechecks = sym same.rechecks;
      links = subst (λ (ps : List (ℕ × Link)). AreLinks m.changes m.store c.new.result.entries ps) (sym same.links) (links_none m.changes m.store c.new.result.entries c.new.ensures.len);
    }

pub returns-clause-opened : goal.returns-clause-opened
returns-clause-opened g c =
    let all = opening_stands c.args.table c.args.first c.requires.table c.requires.first in
    let plain = c.in_ok-store.ensures.0.plain in
    (ap (λ p. keys_of p.objects) plain ∙ all.objects, ap (λ p. p.revision) plain ∙ all.revision)
