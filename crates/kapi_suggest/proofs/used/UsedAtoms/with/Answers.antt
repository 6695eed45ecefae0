use Rattle.kapi_suggest.proofs.Keyed.{added}
use Rattle.kapi_suggest.proofs.used.UsedAtoms.with.Goals as goal

pub invariant_of-result : goal.invariant_of-result
invariant_of-result c =
    rw (c.in_ok-atoms.ensures, c.in_ok-add_under.ensures, c.in_ok-key.ensures, c.in_ok-copy.ensures)
    (added c.self.inside.atoms c.self.inside.sets.entries c.self.invariant c.args.atom)
