use Rattle.std.proofs.Common.{refl, sym, ◌∙◌}
use Rattle.kapi_core.specs.Opening.{empty}
use Rattle.kapi_core.proofs.AlikeLinks.{links_none}
use Rattle.kapi_core.proofs.Openings.{opens_without_policy}
use Rattle.kapi_core.proofs.machine.Core.without_objects.Goals as goal

pub returns-clause-stands : goal.returns-clause-stands
returns-clause-stands g c =
    let m = empty c.args.table c.args.first in
    record {
      store = c.in_ok-new.ensures.stands;
      policy_is = c.requires.empty ∙ sym (opens_without_policy c.args.table c.args.first);
      covers = tt;
      next_id = refl;
      rechecks = refl;
      links = links_none m.changes m.store c.new-3.result.entries c.new-3.ensures.len;
    }
