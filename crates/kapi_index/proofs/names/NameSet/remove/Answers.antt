use Rattle.std.proofs.Common.{◌∙◌, ap, sym, subst, None, Some}
use Rattle.kapi_index.proofs.Alone.{IsSorted, few_sorted, left_in, taken_out}
use Rattle.kapi_index.specs.declared.names.Names.TheVariants.{Few}
use Rattle.kapi_index.proofs.names.NameSet.remove.Goals as goal

pub returns-in-Few-Some-clause-gone : goal.returns-in-Few-Some-clause-gone
returns-in-Few-Some-clause-gone c =
    taken_out c.self.inside.names c.replace.new.dest c.args.self.now c.self.view_is c.args.name.now c.in-Few-Some.one
    (c.in-Few-Some.is ∙ ap Few c.in-Few-Some.field-0-is) c.replace.ensures.after (sym c.eq.ensures ∙ c.if-eq.true)

pub returns-in-Few-Some-clause-ordered : goal.returns-in-Few-Some-clause-ordered
returns-in-Few-Some-clause-ordered c = subst IsSorted (sym c.replace.ensures.after) (few_sorted None)

pub returns-else-eq-clause-gone : goal.returns-else-eq-clause-gone
returns-else-eq-clause-gone c =
    left_in c.self.inside.names c.self.inside.names c.args.self.now c.self.view_is c.args.name.now c.in-Few-Some.one
    (c.in-Few-Some.is ∙ ap Few c.in-Few-Some.field-0-is) (sym c.eq.ensures ∙ c.if-eq.false)

pub returns-else-eq-clause-ordered : goal.returns-else-eq-clause-ordered
returns-else-eq-clause-ordered c = few_sorted (Some c.in-Few-Some.one)

pub returns-clause-ordered : goal.returns-clause-ordered
returns-clause-ordered c = few_sorted _
