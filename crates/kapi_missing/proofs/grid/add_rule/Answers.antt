use Rattle.std.proofs.lemmas.Result.{on_ok_weaker}
use Rattle.kapi_missing.proofs.grid.add_rule.Goals as goal

pub returns-clause-columns : goal.returns-clause-columns
returns-clause-columns c =
    on_ok_weaker c.add_columns-4.result (λ more. λ all index everyone are. record {
      groups = c.in_ok-add_columns.ensures.columns all index everyone are.groups;
      resources = c.in_ok-add_columns-2.ensures.columns all index everyone are.resources;
      verbs = c.in_ok-add_columns-3.ensures.columns all index everyone are.verbs;
      names = more all index everyone are.names;
    }) c.add_columns-4.ensures.columns
