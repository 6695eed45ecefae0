use Rattle.std.proofs.Common.{◌∷◌, [], List, ap, sym, ◌∙◌}
use Rattle.kapi_rules.specs.declared.atom.Atom.{Atom}
use Rattle.kapi_access.specs.Gained.{GainedAtoms}
use Rattle.kapi_access.specs.Views.{gain_of, gained_atoms_of}
use Rattle.kapi_access.proofs.Runs.{behind_last, into_last}
use Rattle.kapi_access.proofs.gained_rules.add_gain.Goals as goal

pub returns-then-not-is_alike : goal.returns-then-not-is_alike
returns-then-not-is_alike c =
    behind_last c.args.lines.now.items c.pop.new.self.items c.push-then-not-is_alike.new.self.items c.push-then-not-is_alike-2.new.self.items c.in-Some.last c.in_ok-one_atom-2.field-0 (gain_of c.args.gain)
    c.in-Some.ensures.items c.in_ok-push-2.ensures.items c.in_ok-push-3.ensures.items c.in_ok-one_atom-2.ensures (sym c.is_alike.ensures ∙ c.if-not-is_alike.true)

pub returns : goal.returns
returns c =
    let own : GainedAtoms = gained_atoms_of c.in-Some.last in
    into_last c.args.lines.now.items c.pop.new.self.items c.push-3.new.self.items c.in-Some.last _ (gain_of c.args.gain)
    c.in-Some.ensures.items c.in_ok-push-5.ensures.items (ap (λ (a : List Atom). record { to = own.to; binding = own.binding; rule = own.rule; atoms = a }) c.in_ok-push-4.ensures.items)
    (sym c.is_alike.ensures ∙ c.if-not-is_alike.false)
