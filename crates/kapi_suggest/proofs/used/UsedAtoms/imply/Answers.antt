use Rattle.kapi_suggest.proofs.Keyed.{looked_up}
use Rattle.kapi_suggest.proofs.used.UsedAtoms.imply.Goals as goal

pub returns : goal.returns
returns c =
    rw (c.is_implied_under_some.ensures, c.in_ok-named.ensures, c.in_ok-unnamed.ensures, c.in_ok-wide.ensures, ← c.self.view_is)
    (looked_up c.self.inside.atoms c.self.inside.sets.entries c.self.invariant c.args.atom.now)
