use Rattle.std.proofs.Common.{map, sym, ◌∙◌}
use Rattle.kapi_policy.specs.Views.{binding_of}
use Rattle.kapi_access.specs.Earlier.{bindings_at}
use Rattle.kapi_access.specs.Views.{gain_of}
use Rattle.kapi_access.proofs.Alike.{first_gains_nothing, nothing_more}
use Rattle.kapi_access.proofs.gained.push_unless_earlier.Goals as goal

pub returns-then-first_gives_same : goal.returns-then-first_gives_same
returns-then-first_gives_same g c =
    nothing_more (map gain_of c.args.list.now.items) _
    (first_gains_nothing c.args.alone.now.identities (g.P.Policy.content c.args.before.now) (g.Q.Policy.content c.args.after.now) (bindings_at c.args.earlier.now) (binding_of c.args.binding.now) c.requires.earlier
    (sym c.first_gives_same.ensures ∙ c.if-first_gives_same.true))
