use Rattle.std.specs.Prelude.{Bool, List, ℕ, take}
use Rattle.kapi_core.proofs.Gains.{between_gains}
use Rattle.kapi_model.specs.declared.row.ResourceRow.{ResourceRow}
use Rattle.kapi_script.specs.Gains.{NobodyGainsFrom, made, made_from}
use Rattle.kapi_script.specs.Scripts.{lines, start}
use Rattle.kapi_script.proofs.script.script_run.Goals as goal

pub returns-clause-played : goal.returns-clause-played
returns-clause-played g c = λ text before r w. c.play_script.ensures.played (start c.args.table) text before c.in_ok-core.ensures.stands r w

pub returns-clause-bad : goal.returns-clause-bad
returns-clause-bad g c = λ text before number reason r w. c.play_script.ensures.bad (start c.args.table) text before number reason c.in_ok-core.ensures.stands r w

-- the law holds whatever the text is, and wherever it runs out of memory
nobody_gains : (table : List ResourceRow) (text : List ℕ) (refused : List Bool) (count : ℕ) → NobodyGainsFrom table text refused count
nobody_gains table text refused count =
    between_gains table 0 (made (take count (lines text)) refused) (made_from text refused count)

pub returns-clause-gains : goal.returns-clause-gains
returns-clause-gains g c = λ text refused count r. nobody_gains c.args.table text refused count

pub returns-in_err-core-clause-gains : goal.returns-in_err-core-clause-gains
returns-in_err-core-clause-gains g c = λ text refused count r. nobody_gains c.args.table text refused count
