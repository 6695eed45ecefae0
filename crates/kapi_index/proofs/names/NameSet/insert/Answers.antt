use Rattle.std.proofs.Common.{◌∙◌, ap, sym, subst, Some}
use Rattle.kapi_index.proofs.Alone.{IsSorted, few_sorted, put_first, put_second}
use Rattle.kapi_index.specs.declared.names.Names.TheVariants.{Few}
use Rattle.kapi_index.proofs.names.NameSet.insert.Goals as goal

pub returns-in-Few-None-clause-done : goal.returns-in-Few-None-clause-done
returns-in-Few-None-clause-done c =
    put_first c.self.inside.names c.replace.new.dest c.args.self.now c.self.view_is c.args.name
    (c.in-Few-None.is ∙ ap Few c.in-Few-None.field-0-is) c.replace.ensures.after

pub returns-in-Few-None-clause-ordered : goal.returns-in-Few-None-clause-ordered
returns-in-Few-None-clause-ordered c = subst IsSorted (sym c.replace.ensures.after) (few_sorted (Some c.args.name))

pub returns-in_ok-names-in-Few-Some-clause-done : goal.returns-in_ok-names-in-Few-Some-clause-done
returns-in_ok-names-in-Few-Some-clause-done c =
    put_second c.self.inside.names c.replace-in-Few-Some.new.dest c.args.self.now c.self.view_is c.args.name c.in-Few-Some.one c.in_ok-names-in-Few-Some.names
    (c.in-Few-Some.is ∙ ap Few c.in-Few-Some.field-0-is) c.replace-in-Few-Some.ensures.after c.in_ok-names-in-Few-Some.ensures.done

pub returns-in_ok-names-in-Few-Some-clause-ordered : goal.returns-in_ok-names-in-Few-Some-clause-ordered
returns-in_ok-names-in-Few-Some-clause-ordered c = subst IsSorted (sym c.replace-in-Few-Some.ensures.after) c.in_ok-names-in-Few-Some.ensures.ordered
